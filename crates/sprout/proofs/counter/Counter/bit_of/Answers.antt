use Rattle.std.proofs.Common.{sym, ap, ◌∙◌, arith}
use Rattle.stream.specs.Bits.{bit}
use Rattle.registers.proofs.Back.{bits_at}
use Rattle.registers.proofs.Bit.{bit_tested}
use Rattle.sprout.proofs.counter.Counter.bit_of.Goals as goal

pub returns : goal.returns
returns c =
    bit_tested c.args.key c.self.inside.count ∙ ap (bit c.args.key) c.self.view_is
    ∙ sym (bits_at 80 c.args.key c.args.self (omega (arith, c.self.view_is, c.self.invariant)))
