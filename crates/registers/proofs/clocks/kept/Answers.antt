use Rattle.std.proofs.lemmas.Nat.{and_mask, one_shl}
use Rattle.registers.proofs.clocks.kept.Goals as goal

pub returns-then-size-lt128 : goal.returns-then-size-lt128
returns-then-size-lt128 c = rw (one_shl c.args.size 128 c.if-size-lt128.true) (and_mask c.args.r c.args.size)
