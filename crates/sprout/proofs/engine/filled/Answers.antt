use Rattle.std.proofs.Common.{◌≡◌, arith}
use Rattle.stream.specs.Bits.{octet_bits, packed}
use Rattle.registers.specs.Registers.{held}
use Rattle.registers.proofs.Filling.{number_whole, register_filled}
use Rattle.sprout.proofs.Filling.{nonlinear-bits, linear-bits}
use Rattle.sprout.proofs.engine.filled.Goals as goal

pub returns : goal.returns
unfolding held
returns c =
    let iv = c.args.iv.now in
    let n : c.number_of-number.result ≡ packed (octet_bits iv) = number_whole iv _ (omega arith) c.number_of-number.ensures in
    λ i. record {
      registers = record { linear = linear-bits iv _ (omega arith) n i; nonlinear = nonlinear-bits iv _ (omega arith) n i };
      key = register_filled 80 c.args.key.now _ (omega arith) (omega arith) c.number_of.ensures i;
      counter = c.new.ensures i;
    }
