use Rattle.std.proofs.Common.{sym, refl, ap, subst}
use Rattle.sender.specs.declared.progress.Progress.{Progress}
use Rattle.histories.specs.Calls.{made, opening, opened}
use Rattle.histories.specs.Histories.{Step}
use Rattle.runs.specs.Readings.{resting_as, sending_as}
use Rattle.runs.proofs.Steps.{open_step, open_no_step}
use Rattle.runs.proofs.turns.open.Goals as goal

pub returns-in-Ok : goal.returns-in-Ok
returns-in-Ok g c =
    let cipher = g.E.Engine.cipher in
    let mark = g.S.MarkStore.mark in
    let left = g.S.MarkStore.left in
    let to = c.in-Ok.sending in
    let key = c.as_slice.result.now in
    let label = c.as_slice-2.result.now in
    let allowance = c.args.pairing.now.allowance in
    record {
      step = λ out. rw (c.as_slice.ensures.value, c.as_slice-2.ensures.value) at
          (subst (λ (p : Progress). Step cipher g.S.MarkStore.writes (resting_as cipher mark left c.args.sender) (made (opening key label allowance) (opened p.session))
          (sending_as cipher g.E.Engine.state mark left to)) (sym c.progress-session.ensures)
          (open_step mark left cipher g.S.MarkStore.writes key label allowance c.args.sender.store to.store to.progress (g.E.Engine.state to.engine) c.in-Ok.ensures));
      unwritten = refl;
    }

pub returns-in-Err : goal.returns-in-Err
returns-in-Err g c =
    let e = c.in-Err.ensures in
    record {
      step = λ out. rw (c.as_slice.ensures.value, c.as_slice-2.ensures.value) at
          (open_no_step g.S.MarkStore.mark g.S.MarkStore.left g.E.Engine.cipher g.S.MarkStore.writes _ _ c.args.pairing.now.allowance _
          c.args.sender.store c.in-Err.resting.store e.0 (ap (λ r. r.store) e.1));
      unwritten = refl;
    }
