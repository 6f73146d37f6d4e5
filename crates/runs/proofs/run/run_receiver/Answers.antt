use Rattle.receiver.specs.Receiving.{holds}
use Rattle.runs.specs.Readings.{Taken, receiver_as}
use Rattle.runs.proofs.Rows.{half_more, half_all}
use Rattle.runs.proofs.run.run_receiver.Goals as goal

pub loop-step-preserved : goal.loop-step-preserved
loop-step-preserved g c =
    half_more (Taken g.F.Engine.cipher c.args.sent.now) c.args.steps.now c.loop-step.steps c.loop-step.step-index c.step-item.result c.take_in.new.step _ _ _
    c.loop-step-test.true c.loop-step.invariant c.take_in.ensures

pub returns : goal.returns
returns g c =
    let cipher = g.F.Engine.cipher in
    let sent = c.args.sent.now in
    record {
      reached = receiver_as cipher (holds cipher g.F.Engine.state c.loop-step.receiver);
      comings = half_all (Taken cipher sent) c.args.steps.now c.loop-step.steps c.loop-step.step-index _ _ c.loop-step-test.false c.loop-step.invariant;
    }
