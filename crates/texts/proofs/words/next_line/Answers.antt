use lib.Utf8.{encode}
use Rattle.texts.proofs.Readings.{around}
use Rattle.texts.proofs.words.next_line.Goals as goal

pub returns : goal.returns
unfolding encode
returns c =
    let cut = c.in_ok-rest.ensures.cases in
    let parts = around 10 c.args.text.now c.in_ok-rest.field-0-0.now c.in_ok-rest.rest.now cut.0 cut.1 cut.2 cut.3 cut.4 in
    record { line = c.in_ok-rest.field-0-0.now; plain = parts.0; whole = parts.1 }
