-- The totals of a run from its steps, as they stand once they were made.
use Rattle.std.specs.Prelude.{ℕ, ◌-◌, Bool, true, false, ◌&&◌, List, is_some, Some, None, vec_items, sum_by, count_by, Option}
use Rattle.runs.specs.Readings.{frame_in, octets_sent}
use Rattle.runs.specs.declared.calls.SenderStep.{SenderStep}
use Rattle.runs.specs.declared.calls.ReceiverCall.{ReceiverCall}
use Rattle.runs.specs.declared.calls.ReceiverCall.TheVariants.{Pair, Receive, Deliver}
use Rattle.runs.specs.declared.calls.ReceiverAnswer.{ReceiverAnswer}
use Rattle.runs.specs.declared.calls.ReceiverAnswer.TheVariants.{Paired, Uncovered, Declined}
use Rattle.runs.specs.declared.calls.ReceiverStep.{ReceiverStep}
use Rattle.transcript.specs.declared.totals.Tally.{Tally}

-- the step sent a frame
abbrev pub sent_frame : SenderStep → Bool
sent_frame s = is_some (frame_in s.answer (vec_items s.out))

-- how many keystream octets the step used: one for each octet that it sent but the ten of the header
abbrev pub octets_used : SenderStep → ℕ
octets_used s = octets_sent s.answer - 10

-- an answer of a receiver that opened what came
abbrev pub is_uncovered : Option ReceiverAnswer → Bool
is_uncovered None = false
is_uncovered (Some Paired) = false
is_uncovered (Some (Uncovered r)) = true
is_uncovered (Some (Declined e)) = false

-- an answer of a receiver that refused the call
abbrev pub is_declined : Option ReceiverAnswer → Bool
is_declined None = false
is_declined (Some Paired) = false
is_declined (Some (Uncovered r)) = false
is_declined (Some (Declined e)) = true

-- the call hands octets to the receiver
abbrev pub hands_octets : ReceiverCall → Bool
hands_octets (Pair p) = false
hands_octets (Receive octets) = true
hands_octets (Deliver call change) = true

-- the step opened a frame
abbrev pub opened_frame : ReceiverStep → Bool
opened_frame s = is_uncovered s.answer

-- the step refused what came as a frame
abbrev pub refused_frame : ReceiverStep → Bool
refused_frame s = hands_octets s.call && is_declined s.answer

-- the totals of all steps of a run
abbrev pub tally_of : List SenderStep → List ReceiverStep → Tally
tally_of calls receipts = record {
  sent = count_by sent_frame calls;
  opened = count_by opened_frame receipts;
  refused = count_by refused_frame receipts;
  octets = sum_by octets_used calls;
}
