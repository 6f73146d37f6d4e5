use Rattle.std.proofs.Common.{sym, refl, subst}
use Rattle.stream.specs.Refusals.{number}
use Rattle.sender.specs.declared.sending.Sending.{Sending}
use Rattle.histories.specs.Calls.{made, sending, refused}
use Rattle.histories.specs.Histories.{Step, send_refused}
use Rattle.runs.specs.Readings.{sending_as}
use Rattle.runs.proofs.Steps.{send_step, send_beyond, unwritten}
use Rattle.runs.proofs.turns.send.Goals as goal

pub returns-in-Ok : goal.returns-in-Ok
returns-in-Ok g c =
    let o = c.in-Ok.ensures in
    let n = c.in-Ok.octets in
    let cipher = g.E.Engine.cipher in
    let state = g.E.Engine.state in
    let mark = g.S.MarkStore.mark in
    let left = g.S.MarkStore.left in
    let from = c.args.sender in
    let to = c.send.new.self in
    record {
      step = send_step mark left cipher g.S.MarkStore.writes from.store to.store from.progress to.progress (state from.engine) (state to.engine) _ _ _ _ n o.0 o.1 refl;
      beyond = send_beyond mark left cipher g.S.MarkStore.writes from.progress to.progress (state from.engine) (state to.engine) _ _ _ n o.0 c.send.auto.out;
    }

pub returns-in-Err : goal.returns-in-Err
returns-in-Err g c =
    let o = c.in-Err.ensures in
    let cipher = g.E.Engine.cipher in
    let state = g.E.Engine.state in
    let mark = g.S.MarkStore.mark in
    let left = g.S.MarkStore.left in
    let from = c.args.sender in
    record {
      step = subst (λ (v : Sending g.row.E.Denot g.row.S.Denot). Step cipher g.S.MarkStore.writes (sending_as cipher state mark left from)
          (made (sending c.args.plain.now (lib.ListN.length c.args.out.now)) (refused (number c.in-Err.refusal))) (sending_as cipher state mark left v)) (sym o.1)
          (send_refused o.0);
      beyond = unwritten _ _ _ o.2;
    }
