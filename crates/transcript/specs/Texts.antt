-- The steps of a run and its totals as text, each a line without its end.
use Rattle.std.specs.Prelude.{ℕ, List, ◌++◌, take, drop, Some, None, vec_items, codes, decimal, Option}
use Rattle.std.specs.Fmt.{signed_decimal}
use Rattle.stream.specs.Refusals.{number, reason_text}
use Rattle.stream.specs.declared.refusal.Refusal.{Refusal}
use Rattle.receiver.specs.declared.Received.{Received}
use Rattle.runs.specs.declared.calls.SenderAnswer.{SenderAnswer}
use Rattle.runs.specs.declared.calls.SenderAnswer.TheVariants.{Opened, Torn, Sent, Rested, Refused, NotAdmitted}
use Rattle.runs.specs.declared.calls.SenderStep.{SenderStep}
use Rattle.runs.specs.declared.calls.ReceiverAnswer.{ReceiverAnswer}
use Rattle.runs.specs.declared.calls.ReceiverAnswer.TheVariants.{Paired, Uncovered, Declined}
use Rattle.runs.specs.declared.calls.ReceiverStep.{ReceiverStep}
use Rattle.texts.specs.Dump.{hex_digits}
use Rattle.transcript.specs.declared.totals.Tally.{Tally}

-- a refusal: its number and its reason
unfoldable pub refused_text : Refusal → List ℕ
refused_text e = codes "refused " ++ (decimal (number e) ++ (codes ": " ++ reason_text e))

-- a frame: the ten octets of its header, and its payload
unfoldable pub frame_text : List ℕ → List ℕ
frame_text f = codes "frame " ++ (hex_digits (take 10 f) ++ (codes " " ++ hex_digits (drop 10 f)))

-- what a call on a sender answered, with the buffer as it was left: a frame stands at its start
unfoldable pub sender_answer_text : SenderAnswer → List ℕ → List ℕ
sender_answer_text (Opened n) out = codes "session " ++ decimal n
sender_answer_text Torn out = codes "power lost in the raise"
sender_answer_text (Sent n) out = frame_text (take n.octets out)
sender_answer_text Rested out = codes "at rest"
sender_answer_text (Refused e) out = refused_text e
sender_answer_text NotAdmitted out = codes "not made: the build does not admit it here"

-- a step of a sender: what the call answered, and the numbers of the store after it
unfoldable pub sender_text : SenderStep → List ℕ
sender_text s =
    sender_answer_text s.answer (vec_items s.out)
    ++ (codes "; mark " ++ (decimal s.mark ++ (codes ", raises left " ++ decimal s.left)))

-- what an accepted receive answered, with the buffer as it was left: the plain stands at its start
unfoldable pub plain_text : Received → List ℕ → List ℕ
plain_text r out =
    codes "plain " ++ (hex_digits (take r.length out)
    ++ (codes ", length " ++ (decimal r.length ++ (codes ", distance " ++ signed_decimal r.distance))))

-- what a call on a receiver answered, with the buffer as it was left
unfoldable pub receiver_answer_text : ReceiverAnswer → List ℕ → List ℕ
receiver_answer_text Paired out = codes "paired"
receiver_answer_text (Uncovered r) out = plain_text r out
receiver_answer_text (Declined e) out = refused_text e

-- the answer, or that no call was made since there was no frame to deliver
abbrev pub outcome_text : Option ReceiverAnswer → List ℕ → List ℕ
outcome_text None out = codes "nothing came: no frame was sent there"
outcome_text (Some a) out = receiver_answer_text a out

-- a step of a receiver
unfoldable pub receiver_text : ReceiverStep → List ℕ
receiver_text s = outcome_text s.answer (vec_items s.out)

-- the totals of a run
unfoldable pub tally_text : Tally → List ℕ
tally_text t =
    codes "frames sent " ++ (decimal t.sent
    ++ (codes ", opened " ++ (decimal t.opened
    ++ (codes ", refused " ++ (decimal t.refused
    ++ (codes "; keystream octets used " ++ (decimal t.octets ++ codes ", none twice")))))))
