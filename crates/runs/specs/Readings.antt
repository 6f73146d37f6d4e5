-- The calls and answers of the code, read as those of the definitions.
-- A step is known before its call was made and after: the call and its buffer before, the buffer and the answer after.
use Rattle.std.specs.Prelude.{◌≡◌, ℕ, zero, suc, List, [], ◌∷◌, ◌++◌, length, take, drop, Some, None, vec_items, Option, bit_xor}
use Rattle.std.specs.Option.{option_map}
use Rattle.stream.specs.Ciphers.{Cipher}
use Rattle.stream.specs.Refusals.{number}
use Rattle.sender.specs.declared.resting.Resting.{Resting}
use Rattle.sender.specs.declared.sending.Sending.{Sending}
use Rattle.receiver.specs.Receiving.{Held}
use Rattle.histories.specs.Calls.{Call, opening, torn_opening, sending, closing, power_cut, Answer, opened, torn, sent, rested, refused, not_admitted, Entry, made, Receipt, pairing, receiving, Outcome, paired, plain_at, turned_down, Event, came}
use Rattle.histories.specs.Histories.{marks_of, Sender, at_rest, in_session, Step, Receiver, receiver, Receives}
use Rattle.runs.specs.declared.stage.Stage.{Stage}
use Rattle.runs.specs.declared.stage.Stage.TheVariants.{AtRest, InSession}
use Rattle.runs.specs.declared.calls.Pairing.{Pairing}
use Rattle.runs.specs.declared.calls.SenderCall.{SenderCall}
use Rattle.runs.specs.declared.calls.SenderCall.TheVariants.{Open, TornOpen, Send, Close, PowerCut}
use Rattle.runs.specs.declared.calls.SenderAnswer.{SenderAnswer}
use Rattle.runs.specs.declared.calls.SenderAnswer.TheVariants.{Opened, Torn, Sent, Rested, Refused, NotAdmitted}
use Rattle.runs.specs.declared.calls.SenderStep.{SenderStep}
use Rattle.runs.specs.declared.calls.ReceiverCall.{ReceiverCall}
use Rattle.runs.specs.declared.calls.ReceiverCall.TheVariants.{Pair, Receive, Deliver}
use Rattle.runs.specs.declared.calls.ReceiverAnswer.{ReceiverAnswer}
use Rattle.runs.specs.declared.calls.ReceiverAnswer.TheVariants.{Paired, Uncovered, Declined}
use Rattle.runs.specs.declared.calls.ReceiverStep.{ReceiverStep}

-- a call on a sender with a buffer of so many octets
abbrev pub call_of : SenderCall → ℕ → Call
call_of (Open p) room = opening (vec_items p.key) (vec_items p.label) p.allowance
call_of (TornOpen p writes junk) room = torn_opening (vec_items p.key) (vec_items p.label) p.allowance writes junk
call_of (Send plain) room = sending (vec_items plain) room
call_of Close room = closing
call_of PowerCut room = power_cut

-- an answer, with the buffer as it was left: a frame stands at its start
abbrev pub answer_of : SenderAnswer → List ℕ → Answer
answer_of (Opened n) out = opened n
answer_of Torn out = torn
answer_of (Sent n) out = sent n.octets (take n.octets out)
answer_of Rested out = rested
answer_of (Refused e) out = refused (number e)
answer_of NotAdmitted out = not_admitted

-- how many octets of its buffer a call wrote
abbrev pub octets_sent : SenderAnswer → ℕ
octets_sent (Opened n) = 0
octets_sent Torn = 0
octets_sent (Sent n) = n.octets
octets_sent Rested = 0
octets_sent (Refused e) = 0
octets_sent NotAdmitted = 0

-- a sender of the code: its store by its two numbers, its engine by its state
abbrev pub resting_as : {E S : Type 0} (c : Cipher) → (S → ℕ) → (S → ℕ) → Resting E S → Sender c
resting_as c m l r = at_rest (m r.store, l r.store)

abbrev pub sending_as : {E S : Type 0} (c : Cipher) → (E → c.State) → (S → ℕ) → (S → ℕ) → Sending E S → Sender c
sending_as c x m l s = in_session (m s.store, l s.store) s.progress.session s.progress.place s.progress.allowance (x s.engine)

abbrev pub stage_as : {E S : Type 0} (c : Cipher) → (E → c.State) → (S → ℕ) → (S → ℕ) → Stage E S → Sender c
stage_as c x m l (AtRest r) = resting_as c m l r
stage_as c x m l (InSession s) = sending_as c x m l s

-- the first n octets of a buffer may have changed, and no other
pub record Beyond (n : ℕ) (before after : List ℕ) : Type 0 where
  pub room : length after ≡ length before
  pub rest : drop n after ≡ drop n before

-- What a call on a sender did, lent a buffer: it answers as the rules say, and writes no octet but those of a frame that it answers.
pub record Acted (c : Cipher) (w : ℕ) (s : Sender c) (call : SenderCall) (before after : List ℕ) (answer : SenderAnswer) (t : Sender c) : Type 0 where
  pub step : Step c w s (made (call_of call (length before)) (answer_of answer after)) t
  pub beyond : Beyond (octets_sent answer) before after

-- A step of a sender, made: the call is still the one that was given, and the numbers of the store are those after it.
pub record Turned (c : Cipher) (w : ℕ) (s : Sender c) (before after : SenderStep) (t : Sender c) : Type 0 where
  pub call : after.call ≡ before.call
  pub acted : Acted c w s before.call (vec_items before.out) (vec_items after.out) after.answer t
  pub marks : marks_of c t ≡ (after.mark, after.left)

-- Steps in a row, each as R says, from one standing to the next.
abbrev pub Row : {P X : Type 0} → (P → X → X → P → Type 0) → P → List X → List X → P → Type 0
Row R s [] [] t = s ≡ t
Row R s [] (b ∷ bs) t = ⊥
Row R s (a ∷ rest) [] t = ⊥
Row {P} R s (a ∷ rest) (b ∷ bs) t = (u : P) × R s a b u × Row R u rest bs t

-- every step was made, from this sender on
pub record SenderRan (c : Cipher) (w : ℕ) (from : Sender c) (before after : List SenderStep) : Type 0 where
  pub reached : Sender c
  pub turns : Row (Turned c w) from before after reached

-- the calls with their answers
unfoldable pub entries : List SenderStep → List SenderStep → List Entry
entries [] bs = []
entries (a ∷ rest) [] = []
entries (a ∷ rest) (b ∷ bs) = made (call_of a.call (length (vec_items a.out))) (answer_of b.answer (vec_items b.out)) ∷ entries rest bs

-- the frame that stands in a buffer after a call with this answer, if it sent one
abbrev pub frame_in : SenderAnswer → List ℕ → Option (List ℕ)
frame_in (Opened n) out = None
frame_in Torn out = None
frame_in (Sent n) out = Some (take n.octets out)
frame_in Rested out = None
frame_in (Refused e) out = None
frame_in NotAdmitted out = None

-- the frame that the call of this index wrote, if it wrote one
abbrev pub frame_at : List SenderStep → ℕ → Option (List ℕ)
frame_at [] i = None
frame_at (s ∷ ss) zero = frame_in s.answer (vec_items s.out)
frame_at (s ∷ ss) (suc i) = frame_at ss i

-- octets with a change added bit by bit to the first of them
abbrev pub changed : List ℕ → List ℕ → List ℕ
changed [] cs = []
changed (x ∷ xs) [] = x ∷ xs
changed (x ∷ xs) (c ∷ cs) = bit_xor x c ∷ changed xs cs

-- a pair
abbrev pub pairing_of : Pairing → Receipt
pairing_of p = pairing (vec_items p.key) (vec_items p.label) p.allowance

-- a call on a receiver with a buffer of so many octets, where a sender's calls were made; none where no frame was written that could be delivered
abbrev pub receipt_of : List SenderStep → ReceiverCall → ℕ → Option Receipt
receipt_of steps (Pair p) room = Some (pairing_of p)
receipt_of steps (Receive octets) room = Some (receiving (vec_items octets) room)
receipt_of steps (Deliver call change) room = option_map (λ f. receiving (changed f (vec_items change)) room) (frame_at steps call)

-- an answer, with the buffer as it was left: a plain stands at its start
abbrev pub outcome_of : ReceiverAnswer → List ℕ → Outcome
outcome_of Paired out = paired
outcome_of (Uncovered r) out = plain_at (take r.length out) r.length r.distance
outcome_of (Declined e) out = turned_down (number e)

-- how many octets of its buffer a call wrote
abbrev pub octets_opened : Option ReceiverAnswer → ℕ
octets_opened None = 0
octets_opened (Some Paired) = 0
octets_opened (Some (Uncovered r)) = r.length
octets_opened (Some (Declined e)) = 0

abbrev pub receiver_as : (c : Cipher) → Held c → Receiver c
receiver_as c h = receiver h.pairing h.session h.place h.state

-- a call on a receiver with its answer, or no call and no answer
abbrev pub Happened : (c : Cipher) → Receiver c → Option Receipt → Option ReceiverAnswer → List ℕ → Receiver c → Type 0
Happened c s None None out t = s ≡ t
Happened c s None (Some a) out t = ⊥
Happened c s (Some r) None out t = ⊥
Happened c s (Some r) (Some a) out t = Receives c s (came r (outcome_of a out)) t

-- What a call on a receiver did, lent a buffer: it answers as the rules say, and writes no octet but those of a plain that it answers.
pub record Handled (c : Cipher) (steps : List SenderStep) (s : Receiver c) (call : ReceiverCall) (before after : List ℕ) (answer : Option ReceiverAnswer) (t : Receiver c) : Type 0 where
  pub happened : Happened c s (receipt_of steps call (length before)) answer after t
  pub beyond : Beyond (octets_opened answer) before after

-- A step of a receiver, made: the call is still the one that was given.
pub record Taken (c : Cipher) (steps : List SenderStep) (s : Receiver c) (before after : ReceiverStep) (t : Receiver c) : Type 0 where
  pub call : after.call ≡ before.call
  pub handled : Handled c steps s before.call (vec_items before.out) (vec_items after.out) after.answer t

-- every step was made, from this receiver on
pub record ReceiverRan (c : Cipher) (steps : List SenderStep) (from : Receiver c) (before after : List ReceiverStep) : Type 0 where
  pub reached : Receiver c
  pub comings : Row (Taken c steps) from before after reached

-- a call with its answer, where one was made
abbrev pub event_of : Option Receipt → Option ReceiverAnswer → List ℕ → List Event
event_of None a out = []
event_of (Some r) None out = []
event_of (Some r) (Some a) out = came r (outcome_of a out) ∷ []

-- the calls that were made, with their answers
unfoldable pub events : List SenderStep → List ReceiverStep → List ReceiverStep → List Event
events steps [] bs = []
events steps (a ∷ rest) [] = []
events steps (a ∷ rest) (b ∷ bs) =
    event_of (receipt_of steps a.call (length (vec_items a.out))) b.answer (vec_items b.out) ++ events steps rest bs
