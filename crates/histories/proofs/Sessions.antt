-- Sessions read off a history: their numbers rise, and every message stands where its session's place was.
use Rattle.std.proofs.Common.{◌≡◌, ℕ, ◌+◌, ◌*◌, ◌≤◌, List, [], ◌∷◌, ◌++◌, length, refl, ap, inl, inr, le_refl, arith}
use Rattle.stream.specs.Ciphers.{Cipher, later, session_iv}
use Rattle.marks.specs.Stores.{Torn, largest_mark}
use Rattle.link.specs.Senders.{sent_frame}
use Rattle.histories.specs.Calls.{Entry}
use Rattle.histories.specs.Histories.{Marks, mark, left, marks_of, Sender, at_rest, in_session, Step, open_accepted, open_refused, torn_accepted, torn_refused, send_accepted, send_refused, closed, cut, cut_at_rest, send_at_rest, close_at_rest, open_in_session, torn_in_session, History}
use Rattle.histories.specs.Promises.{Message, Session, messages, sessions, all_messages, joined, All}
use Rattle.histories.proofs.Checks.{allowed, Fits, send_fits}

-- the messages of a session that stands at a place, with its engine in a state
abbrev pub Framed : (c : Cipher) → ℕ → ℕ → ℕ → c.State → List Message → Type 0
Framed c number place allowance x [] = Unit {0}
Framed c number place allowance x (m ∷ ms) =
    (m.frame ≡ sent_frame c number place x m.plain) × Fits place allowance (length m.plain)
    × Framed c number (place + length m.plain) allowance (later c (8 * length m.plain) x) ms

pub record Good (c : Cipher) (s : Session) : Type 0 where
  pub number_high : s.number ≤ largest_mark
  pub allowance_high : s.allowance ≤ 16777216
  pub framed : Framed c s.number 0 s.allowance (c.start s.key (session_iv s.label s.number)) s.messages

-- session numbers rise from a number on
abbrev pub Rise : ℕ → List Session → Type 0
Rise m [] = Unit {0}
Rise m (s ∷ ss) = (m ≤ s.number) × Rise (s.number + 1) ss

rise_from : (m n : ℕ) (ss : List Session) → n ≤ m → Rise m ss → Rise n ss
rise_from m n [] h r = tt
rise_from m n (s ∷ ss) h r = (omega (arith, r.0), r.1)

-- what the calls from a sender on give
abbrev pub Claim : (c : Cipher) → Sender c → List Entry → Type 0
Claim c (at_rest s) es =
    All (Good c) (sessions es) × Rise (mark s) (sessions es) × (all_messages es ≡ joined (λ t. t.messages) (sessions es))
Claim c (in_session s number place allowance x) es =
    Framed c number place allowance x (messages es) × All (Good c) (sessions es) × Rise (mark s) (sessions es)
    × (all_messages es ≡ messages es ++ joined (λ t. t.messages) (sessions es))

-- the sum of a store's numbers keeps its bound
abbrev pub Bounded : (c : Cipher) → Sender c → Type 0
Bounded c s = mark (marks_of c s) + left (marks_of c s) ≤ largest_mark

torn-marks : {w n : ℕ} {s t : Marks} → Torn mark left w n s t → (mark s ≤ mark t) × (mark t + left t ≤ mark s + left s)
torn-marks {s = s} {t = t} r =
    elim r.either [
      | inl raised ↦ (omega (arith, raised.mark_is), omega (arith, raised.mark_is, raised.left_is))
      | inr wasted ↦ (omega (arith, wasted.mark_is), elim wasted.left_is [ inl e ↦ omega (arith, wasted.mark_is) | inr e ↦ omega (arith, wasted.mark_is) ])
    ]

pub step_bounded : {c : Cipher} {w : ℕ} {s u : Sender c} {e : Entry} → Step c w s e u → Bounded c s → Bounded c u
step_bounded (open_accepted r raised) h = omega (arith, raised.mark_is, raised.left_is)
step_bounded (open_refused r) h = h
step_bounded (torn_accepted r t) h = omega (arith, (torn-marks t).1)
step_bounded (torn_refused r) h = h
step_bounded (send_accepted r) h = h
step_bounded (send_refused r) h = h
step_bounded closed h = h
step_bounded cut h = h
step_bounded cut_at_rest h = h
step_bounded send_at_rest h = h
step_bounded close_at_rest h = h
step_bounded open_in_session h = h
step_bounded torn_in_session h = h

pub step_claim : {c : Cipher} {w : ℕ} {s u : Sender c} {e : Entry} (es : List Entry) → Step c w s e u → Bounded c s → Claim c u es → Claim c s (e ∷ es)
unfolding messages sessions all_messages joined
step_claim {c} es (open_accepted {s} {t} {key} {label} {allowance} r raised) h (framed, good, rise, inside) = (
  (record { number_high = omega arith; allowance_high = allowed c (left s) key label allowance r; framed = framed }, good),
  (le_refl (mark s), rise_from (mark t) (mark s + 1) (sessions es) (omega (arith, raised.mark_is)) rise),
  inside,
)
step_claim es (open_refused r) h claim = claim
step_claim es (torn_accepted {s} {t} r torn-is) h (good, rise, inside) =
    (good, rise_from (mark t) (mark s) (sessions es) (torn-marks torn-is).0 rise, inside)
step_claim es (torn_refused r) h claim = claim
step_claim {c} es (send_accepted {number = number} {place = place} {allowance = allowance} {room = room} {x = x} {plain = plain} r) h (framed, good, rise, inside) =
    let m : Message = record { plain = plain; frame = sent_frame c number place x plain } in
    ((refl, send_fits place allowance (length plain) room r, framed), good, rise, ap (λ l. m ∷ l) inside)
step_claim es (send_refused r) h claim = claim
step_claim es closed h (good, rise, inside) = (tt, good, rise, inside)
step_claim es cut h (good, rise, inside) = (tt, good, rise, inside)
step_claim es cut_at_rest h claim = claim
step_claim es send_at_rest h claim = claim
step_claim es close_at_rest h claim = claim
step_claim es open_in_session h claim = claim
step_claim es torn_in_session h claim = claim

-- the claim of nothing
none_claim : (c : Cipher) (s : Sender c) → Claim c s []
unfolding messages sessions all_messages joined
none_claim c (at_rest s) = (tt, tt, refl)
none_claim c (in_session s number place allowance x) = (tt, tt, tt, refl)

pub history_claim : (c : Cipher) (w : ℕ) (es : List Entry) (s t : Sender c) → History c w s es t → Bounded c s → Claim c s es
history_claim c w [] s t run h = none_claim c s
history_claim c w (e ∷ es) s t (u, step, run) h = step_claim es step h (history_claim c w es u t run (step_bounded step h))
