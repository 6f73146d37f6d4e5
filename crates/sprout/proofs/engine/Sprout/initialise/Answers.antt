use Rattle.std.proofs.Common.{sym, refl, ap, ◌∙◌, add-one}
use Rattle.stream.specs.Bits.{times}
use Rattle.registers.proofs.Strides.{times-suc}
use Rattle.sprout.specs.Sprout.{SproutState, initial, state_of}
use Rattle.sprout.proofs.engine.Sprout.initialise.Goals as goal

pub loop-init : goal.loop-init
unfolding times
loop-init c = refl

pub loop-preserved : goal.loop-preserved
loop-preserved c =
    let from : SproutState = state_of c.args.self.now in
    let next : SproutState → SproutState = initial c.args.early in
    let n = c.loop.counter in
    c.initialise_once.ensures ∙ ap next c.loop.invariant ∙ sym (times-suc n next from) ∙ ap (λ m. times m next from) (sym (add-one n))
