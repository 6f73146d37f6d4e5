use Rattle.std.proofs.Common.{◌≡◌, min, ap, ◌∙◌, arith}
use Rattle.registers.specs.Registers.{clock}
use Rattle.registers.proofs.Strides.{none_drawn, none_moved}
use Rattle.sprout.specs.Sprout.{SproutState, linear, state_of}
use Rattle.sprout.proofs.Clocks.{same-feedback, once, parts_same, one_drawn, one-moved}
use Rattle.sprout.proofs.engine.SproutEngine.draw.Goals as goal

pub returns-then-n-eq0 : goal.returns-then-n-eq0
returns-then-n-eq0 c =
    let none : min c.args.n 1 ≡ 0 = omega arith in
    record { count = omega arith; drawn = none_drawn _ _ none; moves = none_moved _ _ _ none }

pub returns : goal.returns
returns c =
    let from : SproutState = state_of c.args.self.now in
    let one : min c.args.n 1 ≡ 1 = omega arith in
    let made = c.at.ensures in
    record {
      count = omega (arith, c.clocked-drawn.ensures.count);
      drawn = one_drawn from _ _ _ one c.clocked-drawn.ensures.drawn;
      moves =
          one-moved from _ _ one
          (parts_same _ _ _ _ _
          (once _ from.registers _ c.clocked-drawn.ensures.moves
          ∙ ap (λ g. clock linear g from.registers) (same-feedback _ _ _ _ _ _ made.early made.key_bit made.counter_bit))
          c.next-self.ensures);
    }
