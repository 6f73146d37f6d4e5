-- The rows of a transcript: each line of the scenario with its number, counted from 1, and with what it answered.
use Rattle.std.specs.Prelude.{ℕ, ◌+◌, List, [], ◌∷◌, ◌++◌, string_bytes, codes, decimal, String, Result, Ok, Err, Option, Some, None, slice_get}
use Rattle.runs.specs.declared.calls.SenderStep.{SenderStep}
use Rattle.runs.specs.declared.calls.ReceiverStep.{ReceiverStep}
use Rattle.scenario.specs.Messages.{line_fault_text}
use Rattle.transcript.specs.Texts.{sender_text, receiver_text}
use Rattle.trial.specs.Messages.{plan_fault_text}
use Rattle.trial.specs.declared.plan.Planned.{Planned}
use Rattle.trial.specs.declared.plan.Planned.TheVariants.{NoStep, Call, Send, Receipt}
use Rattle.bench_run.specs.declared.note.BadLine.{BadLine}
use Rattle.bench_run.specs.declared.note.BadLine.TheVariants.{Unread, Untaken}

-- why a line is bad
abbrev pub bad_line_text : BadLine → List ℕ
bad_line_text (Unread e) = line_fault_text e
bad_line_text (Untaken e) = plan_fault_text e

-- what a call on the sender answered: nothing where there is no such call
abbrev pub call_text : Option SenderStep → List ℕ
call_text None = []
call_text (Some s) = codes "  ->  " ++ sender_text s

-- the same of a send, with its number among the lines that send
abbrev pub send_text : ℕ → Option SenderStep → List ℕ
send_text n None = []
send_text n (Some s) = codes "  ->  send " ++ (decimal n ++ (codes ": " ++ sender_text s))

-- what a call on the receiver answered: nothing where there is no such call
abbrev pub receipt_text : Option ReceiverStep → List ℕ
receipt_text None = []
receipt_text (Some s) = codes "  ->  " ++ receiver_text s

-- what the step that a line asks for answered: nothing where it asks for none
abbrev pub step_text : Planned → List SenderStep → List ReceiverStep → List ℕ
step_text NoStep calls receipts = []
step_text (Call i) calls receipts = call_text (slice_get calls i)
step_text (Send i n) calls receipts = send_text n (slice_get calls i)
step_text (Receipt i) calls receipts = receipt_text (slice_get receipts i)

-- what stands behind a line
abbrev pub answer_text : Result Planned BadLine → List SenderStep → List ReceiverStep → List ℕ
answer_text (Ok x) calls receipts = step_text x calls receipts
answer_text (Err e) calls receipts = codes "  ->  bad line: " ++ bad_line_text e

-- a line with its number and what stands behind it
unfoldable pub row_text : ℕ → List ℕ → List ℕ → List ℕ
row_text n line answer = decimal n ++ (codes "  " ++ (line ++ (answer ++ (10 ∷ []))))

module _ {Y : Type 0} (calls : List SenderStep) (receipts : List ReceiverStep) where
  -- the rows from the n-th on
  unfoldable pub rows_text : ℕ → List (String Y) → List (Result Planned BadLine) → List ℕ
  rows_text n [] notes = []
  rows_text n (line ∷ lines) [] = []
  rows_text n (line ∷ lines) (note ∷ notes) = row_text n (string_bytes line) (answer_text note calls receipts) ++ rows_text (n + 1) lines notes
