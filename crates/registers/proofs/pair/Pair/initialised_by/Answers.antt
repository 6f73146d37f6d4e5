use Rattle.std.proofs.Common.{refl, ap₂}
use lib.Bits.{bit_xor}
use Rattle.registers.specs.Registers.{Shape}
use Rattle.registers.proofs.Values.{sum_within}
use Rattle.registers.proofs.Strides.{stepped_by}
use Rattle.registers.proofs.pair.Pair.initialised_by.Goals as goal

pub returns : goal.returns
returns g c =
    let shape : Shape = g.T.Taps.shape c.args.taps in
    let within = sum_within shape.reach in
    stepped_by shape c.args.m c.requires.some c.requires.at_once c.args.self.linear c.args.self.nonlinear _ _
    (within shape.linear shape.output shape.linear_within shape.output_within)
    (within shape.nonlinear shape.output shape.nonlinear_within shape.output_within)
    _ _ _ _ _ _ _ _ c.from-s.ensures c.from-b.ensures
    (ap₂ bit_xor c.linear.ensures c.output-z.ensures) (ap₂ bit_xor c.nonlinear.ensures c.output-z.ensures)
    c.size-size.ensures c.moved_by-linear.ensures c.moved_by-nonlinear.ensures refl
