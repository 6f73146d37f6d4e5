use Rattle.std.proofs.Common.{ap, ◌∙◌}
use Rattle.registers.specs.Polynomials.{◌⊕◌}
use Rattle.registers.specs.Registers.{Registers, clock, held_in}
use Rattle.sprout.specs.Sprout.{linear, output}
use Rattle.sprout.proofs.Clocks.{same-feedback, once, parts_same}
use Rattle.sprout.proofs.engine.Sprout.initialise_once.Goals as goal

pub returns : goal.returns
returns c =
    let made = c.at.ensures in
    let from : Registers = held_in 40 c.args.self.now.pair in
    parts_same _ _ _ _ _
    (once _ from _ c.initialised-self.ensures
    ∙ ap (λ g. clock (linear ⊕ output) (g ⊕ output) from) (same-feedback _ _ _ _ _ _ made.early made.key_bit made.counter_bit))
    c.next-self.ensures
