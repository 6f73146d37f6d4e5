use Rattle.std.proofs.Common.{◌≡◌, ap, ◌∙◌, arith}
use Rattle.stream.specs.Bits.{bits}
use Rattle.registers.specs.Registers.{held}
use Rattle.registers.proofs.Filling.{register_filled}
use Rattle.grain128.proofs.Filled.{iv-filled}
use Rattle.grain128.proofs.family.loaded.Goals as goal

pub returns : goal.returns
unfolding held
returns g c =
    let tail-is : bits 32 c.from.result ≡ g.V.Version.member.tail = ap (bits 32) (c.from.ensures ∙ c.TAIL.ensures) ∙ g.met.V.Version.tail_is in
    λ i. record {
      linear = iv-filled c.args.iv.now c.from.result _ _ c.requires.iv (omega (arith, c.from.ensures, c.TAIL.type_inv)) tail-is c.number_of.ensures i;
      nonlinear = register_filled 128 c.args.key.now _ (omega arith) (omega arith) c.number_of-2.ensures i;
    }
