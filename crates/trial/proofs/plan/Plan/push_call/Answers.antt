use Rattle.std.proofs.Common.{length, vec_items, refl, ap, ◌∙◌, arith}
use Rattle.std.proofs.lemmas.Grind.{common_steps}
use Rattle.runs.specs.Readings.{call_of}
use Rattle.runs.specs.declared.calls.SenderStep.{SenderStep}
use Rattle.trial.proofs.plan.Plan.push_call.Goals as goal

pub returns : goal.returns
returns c = (
  record {
    setup = refl;
    step = c.new.result;
    lends = ap (λ (s : SenderStep). length (vec_items s.out)) c.new.ensures ∙ grind (arith, common_steps);
    asks = ap (λ (s : SenderStep). call_of s.call c.args.room) c.new.ensures;
    added = c.in_ok-push.ensures.items;
    receipts = refl;
  },
  refl,
  c.len-index.ensures ∙ c.args.self.now.calls.ok.0,
)
