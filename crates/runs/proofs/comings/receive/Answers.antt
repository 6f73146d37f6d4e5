use Rattle.std.proofs.Common.{length, sym, refl, subst}
use Rattle.stream.specs.Refusals.{number}
use Rattle.receiver.specs.Receiving.{holds}
use Rattle.receiver.specs.declared.Receiver.{Receiver}
use Rattle.histories.specs.Calls.{came, receiving, turned_down}
use Rattle.histories.specs.Histories.{Receives, receive_refused}
use Rattle.runs.specs.Readings.{receiver_as}
use Rattle.runs.proofs.Arrivals.{receive_step, receive_beyond}
use Rattle.runs.proofs.Steps.{unwritten}
use Rattle.runs.proofs.comings.receive.Goals as goal

pub returns-in-Ok : goal.returns-in-Ok
returns-in-Ok g c =
    let cipher = g.F.Engine.cipher in
    let o = c.in-Ok.ensures in
    let before = holds cipher g.F.Engine.state c.args.receiver.now in
    record {
      step = receive_step cipher before.pairing before.session before.place before.state _ _ _ _ _ c.in-Ok.received o refl;
      beyond = receive_beyond cipher before.pairing before.session before.place before.state _ _ _ _ c.in-Ok.received o c.receive.auto.out;
    }

pub returns-in-Err : goal.returns-in-Err
returns-in-Err g c =
    let cipher = g.F.Engine.cipher in
    let state = g.F.Engine.state in
    let o = c.in-Err.ensures in
    let before = holds cipher state c.args.receiver.now in
    record {
      step = subst (λ (v : Receiver g.row.F.Denot). Receives cipher (receiver_as cipher before)
          (came (receiving c.args.octets.now (length c.args.out.now)) (turned_down (number c.in-Err.refusal))) (receiver_as cipher (holds cipher state v)))
          (sym o.1) (receive_refused o.0);
      beyond = unwritten _ _ _ o.2;
    }
