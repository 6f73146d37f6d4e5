use Rattle.std.proofs.Common.{ap, subst}
use Rattle.histories.specs.Histories.{Sender, Receiver, at_rest}
use Rattle.runs.specs.Readings.{SenderRan, ReceiverRan, receiver_as}
use Rattle.runs.proofs.Rows.{turns_history, comings_received}
use Rattle.histories.proofs.Whole.{promised}
use Rattle.runs.proofs.run.run.Goals as goal

pub returns : goal.returns
returns g c =
    let cipher = g.E.Engine.cipher in
    let writes = g.S.MarkStore.writes in
    let mark = g.S.MarkStore.mark in
    let left = g.S.MarkStore.left in
    let other = g.F.Engine.cipher in
    let calls = c.run_sender.new.steps in
    let sent = subst (λ (s : Sender cipher). SenderRan cipher writes s c.args.calls.now calls) (ap (λ s. at_rest (mark s, left s)) c.new.ensures.store) c.run_sender.ensures in
    let received = subst (λ (s : Receiver other). ReceiverRan other calls s c.args.receipts.now c.run_receiver.new.steps) (ap (receiver_as other) c.new-2.ensures.fresh) c.run_receiver.ensures in
    record {
      sender = sent;
      receiver = received;
      promise = promised cipher other writes _ _ (mark c.args.store, left c.args.store) _ _ _ (g.S.MarkStore.bound c.args.store)
          (turns_history cipher writes _ _ _ _ sent.turns) (comings_received other calls _ _ _ _ received.comings);
    }
