use Rattle.runs.specs.Readings.{Turned, stage_as}
use Rattle.runs.proofs.Rows.{half_more, half_all}
use Rattle.runs.proofs.run.run_sender.Goals as goal

pub loop-step-preserved : goal.loop-step-preserved
loop-step-preserved g c =
    half_more (Turned g.E.Engine.cipher g.S.MarkStore.writes) c.args.steps.now c.loop-step.steps c.loop-step.step-index c.step-item.result c.turn-stage.new.step _ _ _
    c.loop-step-test.true c.loop-step.invariant c.turn-stage.ensures

pub returns : goal.returns
returns g c =
    let cipher = g.E.Engine.cipher in
    let writes = g.S.MarkStore.writes in
    record {
      reached = stage_as cipher g.E.Engine.state g.S.MarkStore.mark g.S.MarkStore.left c.loop-step.stage;
      turns = half_all (Turned cipher writes) c.args.steps.now c.loop-step.steps c.loop-step.step-index _ _ c.loop-step-test.false c.loop-step.invariant;
    }
