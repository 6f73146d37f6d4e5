use Rattle.std.proofs.Common.{◌≡◌, ℕ, ◌≤◌, min, arith}
use Rattle.registers.specs.Registers.{Shape}
use Rattle.registers.proofs.Strides.{stepped_by, drawn_by, none_drawn, none_moved}
use Rattle.registers.proofs.pair.Pair.clocked.Goals as goal

pub returns-then-count-eq0 : goal.returns-then-count-eq0
returns-then-count-eq0 g c =
    let none : min c.args.n (min c.args.stride (g.T.Taps.shape c.args.taps).width) ≡ 0 = omega arith in
    record { count = omega arith; drawn = none_drawn _ _ none; moves = none_moved _ _ _ none }

pub returns : goal.returns
returns g c =
    let shape : Shape = g.T.Taps.shape c.args.taps in
    let s : ℕ = c.args.self.linear in
    let b : ℕ = c.args.self.nonlinear in
    let m : ℕ = c.min-count.result in
    let count-is : m ≡ min c.args.n (min c.args.stride shape.width) = omega arith in
    let low : 1 ≤ m = omega arith in
    let high : m ≤ shape.width = omega arith in
    let w = c.from-s.ensures in
    let v = c.from-b.ensures in
    record {
      count = count-is;
      drawn = drawn_by shape m low high s b _ _ shape.linear_within shape.nonlinear_within _ _ _ _ _ _ w v c.output.ensures c.lowest-z.ensures count-is shape.output_within;
      moves = stepped_by shape m low high s b _ _ shape.linear_within shape.nonlinear_within _ _ _ _ _ _ _ _ w v c.linear.ensures c.nonlinear.ensures c.size-size.ensures c.moved_by-linear.ensures c.moved_by-nonlinear.ensures count-is;
    }
