use Rattle.receiver.specs.Receiving.{holds}
use Rattle.runs.specs.Readings.{Taken, receiver_as}
use Rattle.runs.proofs.Rows.{Half}
use Rattle.runs.proofs.run.run_receiver.Given as goal

-- the steps so far are made
abbrev pub invariant-loop-step : goal.invariant-loop-step
invariant-loop-step g l =
    let cipher = g.F.Engine.cipher in
    let state = g.F.Engine.state in
    Half (Taken cipher l.sent) l.initial.steps l.steps l.step-index
    (receiver_as cipher (holds cipher state l.initial.receiver)) (receiver_as cipher (holds cipher state l.receiver))
