use Rattle.std.proofs.Common.{◌≡◌, ℕ, refl}
use Rattle.registers.specs.Registers.{Shape, clock, held}
use Rattle.registers.proofs.Back.{undone_steps, undone_alone}
use Rattle.registers.proofs.pair.Pair.undone.Goals as goal

pub returns : goal.returns
returns g c =
    let shape : Shape = g.T.Taps.shape c.args.taps in
    let s : ℕ = c.args.self.linear in
    let b : ℕ = c.args.self.nonlinear in
    let found : clock shape.linear shape.nonlinear (held shape.size c.moved_up-linear.result c.moved_up-nonlinear.result) ≡ held shape.size s b =
    undone_steps shape s b _ _ _ _ _ _ _ _ _ _ _ _ _ c.size-top.ensures refl c.moved_up.ensures c.from-s.ensures c.moved_up-2.ensures c.from-b.ensures
    c.linear.ensures c.bit_at.ensures c.moved_up-linear.ensures c.from.ensures c.nonlinear.ensures c.bit_at-2.ensures c.moved_up-nonlinear.ensures in
    record { found = found; alone = undone_alone shape s b _ _ found }
