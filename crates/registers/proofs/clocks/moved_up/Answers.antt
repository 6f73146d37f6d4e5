use Rattle.registers.proofs.Masks.{doubled}
use Rattle.registers.proofs.clocks.moved_up.Goals as goal

pub returns : goal.returns
returns c = doubled c.args.r c.args.x
