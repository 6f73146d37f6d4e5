use Rattle.std.proofs.Common.{length, vec_items, refl, ap, ◌∙◌, arith}
use Rattle.std.proofs.lemmas.Grind.{common_steps}
use Rattle.runs.specs.declared.calls.ReceiverStep.{ReceiverStep}
use Rattle.trial.specs.Plans.{asked}
use Rattle.trial.specs.declared.plan.Planned.TheVariants.{Receipt}
use Rattle.trial.proofs.plan.Plan.add_receipt.Goals as goal

pub returns : goal.returns
returns c =
    record {
      setup = refl;
      step = c.new.result;
      lends = ap (λ (s : ReceiverStep). length (vec_items s.out)) c.new.ensures ∙ grind (arith, common_steps);
      asks = ap (λ (s : ReceiverStep). asked s.call) c.new.ensures;
      added = c.in_ok-push.ensures.items;
      calls = refl;
      sends = refl;
      at_index = ap Receipt (c.len-index.ensures ∙ c.args.self.now.receipts.ok.0);
    }
