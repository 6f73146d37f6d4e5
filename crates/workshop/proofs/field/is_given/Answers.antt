use Rattle.workshop.proofs.Parts.{given_by_test}
use Rattle.workshop.proofs.field.is_given.Goals as goal

pub returns : goal.returns
returns c = rw c.is_some.ensures (given_by_test _ _ c.value_of.result c.value_of.ensures)
