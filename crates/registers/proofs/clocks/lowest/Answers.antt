use Rattle.std.proofs.Common.{arith}
use Rattle.std.proofs.lemmas.Nat.{and_mask, one_shl}
use Rattle.registers.proofs.clocks.lowest.Goals as goal

pub returns : goal.returns
returns c = rw (one_shl c.args.m 64 (omega arith)) (and_mask c.args.x c.args.m)
