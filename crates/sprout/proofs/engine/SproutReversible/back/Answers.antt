use Rattle.std.proofs.Common.{refl}
use Rattle.sprout.specs.Sprout.{state_of}
use Rattle.sprout.proofs.Clocks.{same-feedback, state-before}
use Rattle.sprout.proofs.engine.SproutReversible.back.Goals as goal

pub returns : goal.returns
returns c =
    let made = c.at.ensures in
    let before = c.previous-counter.ensures in
    let both =
    state-before (state_of c.args.self.now) (state_of (record c.args.self.now { pair = c.undone-self.result; counter = c.previous-counter.result })) _
    (same-feedback _ _ _ _ _ _ made.early made.key_bit made.counter_bit) refl before.before before.below
    c.undone-self.ensures.found c.undone-self.ensures.alone in
    record { alone = both.0; found = both.1 }
