use Rattle.runs.specs.Readings.{Turned, stage_as}
use Rattle.runs.proofs.Rows.{Half}
use Rattle.runs.proofs.run.run_sender.Given as goal

-- the steps so far are made
abbrev pub invariant-loop-step : goal.invariant-loop-step
invariant-loop-step g l =
    let as-sender = stage_as g.E.Engine.cipher g.E.Engine.state g.S.MarkStore.mark g.S.MarkStore.left in
    Half (Turned g.E.Engine.cipher g.S.MarkStore.writes) l.initial.steps l.steps l.step-index (as-sender l.initial.stage) (as-sender l.stage)
