-- What the bench makes of the lines of a scenario.
use Rattle.std.specs.Prelude.{◌≡◌, List, [], ◌∷◌, ◌++◌, vec_items, string_bytes, count_by, is_err, String, Result}
use Rattle.trial.specs.Named.{cipher_of}
use Rattle.runs.specs.declared.calls.SenderStep.{SenderStep}
use Rattle.runs.specs.declared.calls.ReceiverStep.{ReceiverStep}
use Rattle.transcript.specs.Texts.{tally_text}
use Rattle.transcript.specs.Totals.{tally_of}
use Rattle.trial.specs.Performed.{Performed}
use Rattle.trial.specs.Plans.{BlankPlan}
use Rattle.trial.specs.declared.plan.Plan.{Plan}
use Rattle.bench_run.specs.Noted.{NotedAll}
use Rattle.bench_run.specs.Rows.{rows_text}
use Rattle.trial.specs.declared.plan.Planned.{Planned}
use Rattle.bench_run.specs.declared.note.BadLine.{BadLine}
use Rattle.bench_run.specs.declared.reply.Reply.{Reply}

-- The text has a row for each line, and then the totals.
pub record Written {Y : Type 0} (lines : List (String Y)) (notes : List (Result Planned BadLine)) (calls : List SenderStep) (receipts : List ReceiverStep) (r : Reply) : Type 0 where
  pub text : string_bytes r.text ≡ rows_text calls receipts 1 lines notes ++ (tally_text (tally_of calls receipts) ++ (10 ∷ []))
  pub bad_lines : r.bad_lines ≡ count_by is_err notes

-- The lines are taken one by one into a plan that asks for nothing; its steps are made; and the transcript is written.
pub record Replied {Y : Type 0} (lines : List (String Y)) (r : Reply) : Type 0 where
  pub start : Plan
  pub blank : BlankPlan start
  pub plan : Plan
  pub notes : List (Result Planned BadLine)
  pub noted : NotedAll start lines notes plan
  pub calls : List SenderStep
  pub receipts : List ReceiverStep
  pub performed : Performed (cipher_of plan.setup.sender) (cipher_of plan.setup.receiver) plan.setup.memory (vec_items plan.calls) calls (vec_items plan.receipts) receipts
  pub written : Written lines notes calls receipts r
