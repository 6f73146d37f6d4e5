use Rattle.std.proofs.Common.{rules}
use Rattle.trial.proofs.plan.Plan.send.Goals as goal

pub returns : goal.returns
returns c =
    let a = c.in_ok-call.ensures.0 in
    record {
      calls = record { setup = a.setup; step = a.step; lends = a.lends; asks = a.asks; added = a.added; receipts = a.receipts };
      sends = search rules;
      at_index = search rules;
    }
