use Rattle.std.proofs.Common.{arith}
use Rattle.std.proofs.lemmas.Str.Pattern.{split_parts}
use Rattle.workshop.proofs.field.split_word.Goals as goal

pub returns : goal.returns
returns c = split_parts 61 c.args.word.now _ c.split_once.ensures.cases (omega arith)
