use Rattle.std.proofs.Common.{refl, ap}
use Rattle.runs.proofs.Steps.{torn_step, torn_no_step}
use Rattle.runs.proofs.turns.torn_open.Goals as goal

pub returns-in-Ok : goal.returns-in-Ok
returns-in-Ok g c =
    record {
      step = λ out. rw (c.as_slice-key.ensures.value, c.as_slice-label.ensures.value) at
          (torn_step g.S.MarkStore.mark g.S.MarkStore.left g.E.Engine.cipher g.S.MarkStore.writes _ _ c.args.pairing.now.allowance
          c.args.writes_done c.args.junk c.args.sender.store c.in-Ok.resting.store c.in-Ok.ensures);
      unwritten = refl;
    }

pub returns-in-Err : goal.returns-in-Err
returns-in-Err g c =
    let e = c.in-Err.ensures in
    record {
      step = λ out. rw (c.as_slice-key.ensures.value, c.as_slice-label.ensures.value) at
          (torn_no_step g.S.MarkStore.mark g.S.MarkStore.left g.E.Engine.cipher g.S.MarkStore.writes _ _ c.args.pairing.now.allowance
          c.args.writes_done c.args.junk _ c.args.sender.store c.in-Err.resting.store e.0 (ap (λ r. r.store) e.1));
      unwritten = refl;
    }
