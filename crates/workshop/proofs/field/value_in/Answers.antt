use Rattle.std.proofs.Common.{◌≡◌, ◌++◌, arith}
use Rattle.std.proofs.lemmas.Str.Pattern.{strip_prefix_char}
use Rattle.workshop.specs.Fields.{field_name}
use Rattle.workshop.proofs.Parts.{value_after}
use Rattle.workshop.proofs.field.value_in.Goals as goal

pub returns : goal.returns
returns c =
    let rest = c.in_ok-strip_prefix.field-0.now in
    let cut = c.in_ok-strip_prefix.ensures.cases in
    let whole : c.args.word.now ≡ field_name c.args.field ++ rest = rw (← c.name.ensures, cut.2) cut.1.1 in
    value_after _ _ rest _ whole (strip_prefix_char 61 rest _ c.strip_prefix-2.ensures.cases (omega arith))
