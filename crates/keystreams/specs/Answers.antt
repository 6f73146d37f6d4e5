-- What the answer to a request holds, by a cipher, and why there is none.
use Rattle.std.specs.Prelude.{◌≡◌, ℕ, List, length, Some, None, vec_items, Option, Vec}
use Rattle.stream.specs.Ciphers.{Cipher, cover, session_iv}
use Rattle.stream.specs.Refusals.{number}
use Rattle.workshop.specs.declared.request.Nonce.{Nonce}
use Rattle.workshop.specs.declared.request.Nonce.TheVariants.{Iv, Session}
use Rattle.workshop.specs.declared.request.Request.{Request}
use Rattle.keystreams.specs.Uses.{use_refusal, place, keystream_octets}
use Rattle.keystreams.specs.declared.fault.Fault.{Fault}
use Rattle.keystreams.specs.declared.fault.Fault.TheVariants.{Refused, MessageRefused, NoMemory}
use Rattle.keystreams.specs.declared.report.Covered.{Covered}
use Rattle.keystreams.specs.declared.report.Report.{Report}

-- the IV: as it stands, or that of the label and the session
abbrev pub nonce_iv : Nonce → List ℕ
nonce_iv (Iv iv) = vec_items iv
nonce_iv (Session label session) = session_iv (vec_items label) session

-- why keystream octets are not given
abbrev pub KeystreamRefused : Cipher → List ℕ → List ℕ → ℕ → ℕ → Fault → Type 0
KeystreamRefused c key iv q size (Refused e) = use_refusal c key iv q size ≡ Some (number e)
KeystreamRefused c key iv q size (MessageRefused e) = ⊥
KeystreamRefused c key iv q size NoMemory = Unit {0}

-- why a message is not covered
abbrev pub CoverRefused : Cipher → List ℕ → List ℕ → ℕ → ℕ → Fault → Type 0
CoverRefused c key iv q size (Refused e) = ⊥
CoverRefused c key iv q size (MessageRefused e) = use_refusal c key iv q size ≡ Some (number e)
CoverRefused c key iv q size NoMemory = Unit {0}

-- a message, the message covered from a state on, and that covered once more, which is the message
pub record CoveredFrom (c : Cipher) (s : c.State) (message : List ℕ) (r : Covered) : Type 0 where
  pub plain : vec_items r.plain ≡ message
  pub covered : vec_items r.covered ≡ cover c s message
  pub uncovered : vec_items r.uncovered ≡ message

-- what there is for a message, if there is one: it was accepted, and is covered and uncovered
abbrev pub MessageAnswered : {Z : Type 0} → Cipher → List ℕ → List ℕ → ℕ → Option (Vec ℕ Z) → Option Covered → Type 0
MessageAnswered c key iv q None None = Unit {0}
MessageAnswered c key iv q None (Some r) = ⊥
MessageAnswered c key iv q (Some m) None = ⊥
MessageAnswered c key iv q (Some m) (Some r) =
    (use_refusal c key iv q (length (vec_items m)) ≡ None) × CoveredFrom c (place c key iv q) (vec_items m) r

-- the answer to a request
pub record Answered (c : Cipher) (q : Request) (r : Report) : Type 0 where
  pub accepted : use_refusal c (vec_items q.key) (nonce_iv q.nonce) q.first q.count ≡ None
  pub iv : vec_items r.iv ≡ nonce_iv q.nonce
  pub keystream : vec_items r.keystream ≡ keystream_octets c (vec_items q.key) (nonce_iv q.nonce) q.first q.count
  pub message : MessageAnswered c (vec_items q.key) (nonce_iv q.nonce) q.first q.message r.message

-- the request's message has these octets
abbrev pub MessageIs : {Z : Type 0} → List ℕ → Option (Vec ℕ Z) → Type 0
MessageIs m None = ⊥
MessageIs m (Some v) = m ≡ vec_items v

-- why a request has no answer: its keystream octets are refused, or they are not and its message is, or there is no memory
abbrev pub AnswerRefused : Cipher → Request → Fault → Type 0
AnswerRefused c q (Refused e) =
    use_refusal c (vec_items q.key) (nonce_iv q.nonce) q.first q.count ≡ Some (number e)
AnswerRefused c q (MessageRefused e) =
    (use_refusal c (vec_items q.key) (nonce_iv q.nonce) q.first q.count ≡ None)
    × ((m : List ℕ) × MessageIs m q.message
    × (use_refusal c (vec_items q.key) (nonce_iv q.nonce) q.first (length m) ≡ Some (number e)))
AnswerRefused c q NoMemory = Unit {0}
