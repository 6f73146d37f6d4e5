use Rattle.std.proofs.Common.{sym, refl, subst}
use Rattle.stream.specs.Refusals.{number}
use Rattle.receiver.specs.Receiving.{holds}
use Rattle.receiver.specs.declared.Receiver.{Receiver}
use Rattle.histories.specs.Calls.{came, pairing, turned_down}
use Rattle.histories.specs.Histories.{Receives, pair_refused}
use Rattle.runs.specs.Readings.{receiver_as}
use Rattle.runs.proofs.Arrivals.{pair_step}
use Rattle.runs.proofs.comings.pair.Goals as goal

pub returns-in-Ok : goal.returns-in-Ok
returns-in-Ok g c =
    record {
      step = λ out. rw (c.as_slice.ensures.value, c.as_slice-2.ensures.value) at
          (pair_step g.F.Engine.cipher _ _ _ _ c.args.pairing.now.allowance c.in-Ok.ensures);
      unwritten = refl;
    }

pub returns-in-Err : goal.returns-in-Err
returns-in-Err g c =
    let cipher = g.F.Engine.cipher in
    let state = g.F.Engine.state in
    let o = c.in-Err.ensures in
    let key = c.as_slice.result.now in
    let label = c.as_slice-2.result.now in
    record {
      step = λ out. rw (c.as_slice.ensures.value, c.as_slice-2.ensures.value) at
          (subst (λ (v : Receiver g.row.F.Denot). Receives cipher (receiver_as cipher (holds cipher state c.args.receiver.now))
          (came (pairing key label c.args.pairing.now.allowance) (turned_down (number c.in-Err.refusal))) (receiver_as cipher (holds cipher state v)))
          (sym o.1) (pair_refused o.0));
      unwritten = refl;
    }
