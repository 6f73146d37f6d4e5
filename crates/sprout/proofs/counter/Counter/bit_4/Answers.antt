use Rattle.std.proofs.Common.{ap, ◌∙◌}
use Rattle.stream.specs.Bits.{bit}
use Rattle.registers.proofs.Bit.{bit_tested}
use Rattle.sprout.proofs.counter.Counter.bit_4.Goals as goal

pub returns : goal.returns
returns c = bit_tested c.self.inside.count 4 ∙ ap (λ n. bit n 4) c.self.view_is
