use Rattle.std.proofs.Common.{ℕ, List}
use Rattle.column.proofs.Outcomes.{both_written, raise_granted}
use Rattle.column.proofs.words.raise.Goals as goal

pub returns : goal.returns
returns c =
    let words : List ℕ = c.args.words.now in
    let found = c.in_ok-slot.ensures in
    raise_granted words _ found.0 (both_written words c.in_ok-slot.slot.at c.in_ok-slot.slot.mark found.2 found.1)
