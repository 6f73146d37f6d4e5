use Rattle.std.proofs.Common.{map, string_bytes, ap}
use Rattle.texts.proofs.Exits.{exit}
use Rattle.scenario.proofs.read.read_words.Goals as goal

pub returns-in_err-command : goal.returns-in_err-command
returns-in_err-command c =
    let cut = c.in-Some.ensures.cases in
    let unknown = c.in_err-command.ensures.value in
    exit _ _ _ _ c.from_residual.ensures.1
    (rw unknown.0 (c.as_str.result.now, map string_bytes c.in-Some.rest.now, rw c.as_str.ensures.value (ap (map string_bytes) cut.0), unknown.1))
