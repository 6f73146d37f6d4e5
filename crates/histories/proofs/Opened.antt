-- The receiver's part of the promise: a frame that comes unaltered opens to its own plain.
use Rattle.std.proofs.Common.{◌≡◌, ℕ, ◌+◌, ◌*◌, ◌/◌, ◌%◌, ◌<◌, ◌≤◌, false, not, ltb, List, [], ◌∷◌, ◌++◌, length, ℤ, Some, None, Option, sym, refl, ap, ◌∙◌, subst, ap₂, arith}
use native.Mathlib.Nat.{div-div-eq-div-mul}
use lib.Bits.{bit_xor}
use Rattle.std.proofs.lemmas.Bool.{le-ltb, ne_eqb, eq-eqb, or_from}
use Rattle.stream.specs.Bits.{packed, times}
use Rattle.stream.specs.Ciphers.{Cipher, OneCipher, later, octet, keystream_bit, cover, session_iv, four_octets}
use Rattle.stream.proofs.Packed.{first_cong}
use Rattle.stream.proofs.Streams.{later-add, length-cover, cover_twice}
use Rattle.marks.specs.Stores.{largest_mark}
use Rattle.link.specs.Frames.{frame, two_octets, octets_number, frame_session, frame_place, frame_length, frame_payload, no_frame}
use Rattle.link.specs.Sessions.{state_at}
use Rattle.link.specs.Senders.{sent_frame}
use Rattle.link.specs.Receivers.{Known, receive_refusal, distance_to, Stands}
use Rattle.histories.specs.Calls.{receiving, Outcome, plain_at, Event, came}
use Rattle.histories.specs.Histories.{Receiver, receiver, Receives, pair_accepted, pair_refused, receive_accepted, receive_refused, Received}
use Rattle.histories.specs.Promises.{Message, Session, told, PairedFor, Opens, All}
use Rattle.histories.proofs.Checks.{Fits, some_none, none_refused}
use Rattle.histories.proofs.Sessions.{Framed, Good}
use Rattle.histories.proofs.Sent.{all_weaker}

-- Engines of one cipher cover alike.
module _ (c d : Cipher) (one : OneCipher c d) (key iv : List ℕ) where
  same_octet : (k : ℕ) → octet c (later c k (c.start key iv)) ≡ octet d (later d k (d.start key iv))
  unfolding octet keystream_bit
  same_octet k =
      ap packed (first_cong 8 _ _ (λ i _.
      ap c.output (sym (later-add c k i (c.start key iv))) ∙ one.same_keystream key iv (k + i) ∙ ap d.output (later-add d k i (d.start key iv))))

  same_cover : (xs : List ℕ) (k : ℕ) → cover c (later c k (c.start key iv)) xs ≡ cover d (later d k (d.start key iv)) xs
  unfolding cover
  same_cover [] k = refl
  same_cover (x ∷ xs) k =
      ap₂ (λ o rest. bit_xor x o ∷ rest) (same_octet k)
      (ap (λ t. cover c t xs) (sym (later-add c k 8 (c.start key iv))) ∙ same_cover xs (k + 8) ∙ ap (λ t. cover d t xs) (later-add d k 8 (d.start key iv)))

-- what one covered the other uncovers
uncovered : (c d : Cipher) → OneCipher c d → (key label plain : List ℕ) (number place : ℕ)
    → cover d (state_at d key label number place) (cover c (state_at c key label number place) plain) ≡ plain
unfolding state_at
uncovered c d one key label plain number place =
    ap (cover d _) (same_cover c d one key (session_iv label number) plain (8 * place)) ∙ cover_twice d _ plain

-- Numbers written in octets read back.
quotients : (n x y z : ℕ) → x ≡ n / 256 → y ≡ x / 256 → z ≡ y / 256 → z < 256 → n % 256 + 256 * (x % 256 + 256 * (y % 256 + 256 * (z % 256 + 256 * 0))) ≡ n
quotients n x y z x-is y-is z-is small =
    let top : z % 256 ≡ z = omega arith in
    let third : y % 256 + 256 * z ≡ y = omega arith in
    let second : x % 256 + 256 * y ≡ x = omega arith in
    omega arith

four_back : (n : ℕ) → n ≤ largest_mark → octets_number (four_octets n) ≡ n
unfolding octets_number
four_back n h =
    quotients n (n / 256) (n / 65536) (n / 16777216) refl (sym (div-div-eq-div-mul n 256 256)) (sym (div-div-eq-div-mul n 65536 256)) (omega arith)

two_back : (n : ℕ) → n ≤ 1024 → octets_number (two_octets n) ≡ n
unfolding octets_number
two_back n h = omega arith

-- A frame that was sent reads as it was written, and no check of a receiver that is paired for it applies.
module _ (number place : ℕ) (payload : List ℕ) (number_high : number ≤ largest_mark) (place_high : place ≤ 16777216) (few : length payload ≤ 1024) where
  abbrev written : List ℕ
  written = frame number place payload

  session_back : frame_session written ≡ number
  session_back = four_back number number_high

  place_back : frame_place written ≡ place
  place_back = four_back place (omega arith)

  length_back : frame_length written ≡ length payload
  length_back = two_back (length payload) few

  is_frame : 1 ≤ length payload → no_frame written ≡ false
  is_frame some =
      let size : length written ≡ 10 + length payload = omega arith in
      or_from _ _ (le-ltb (length written) 10 (omega arith))
      (or_from _ _ (ne_eqb (frame_length written) 0 (λ e. omega (arith, length_back)))
      (or_from _ _ (le-ltb 1024 (frame_length written) (omega (arith, length_back)))
      (ap not (eq-eqb (length written) (10 + frame_length written) (omega (arith, length_back))))))

  admitted : (k : Known) (room : ℕ) → 1 ≤ length payload → place + length payload ≤ k.allowance → length payload ≤ room → receive_refusal (Some k) written room ≡ None
  admitted k room some inside fits =
      none_refused
      ((no_frame written, 6) ∷ (ltb k.allowance (frame_place written + frame_length written), 11) ∷ (ltb room (frame_length written), 7) ∷ []) (
        is_frame some,
        (
          le-ltb k.allowance (frame_place written + frame_length written) (omega (arith, place_back, length_back)),
          (le-ltb room (frame_length written) (omega (arith, length_back)), tt),
        ),
      )

-- A receiver whose engine stands where its session says.
abbrev Sound : (d : Cipher) → Receiver d → Type 0
Sound d (receiver k present place x) = Stands d k present place x

abbrev known_of : (d : Cipher) → Receiver d → Option Known
known_of d (receiver k present place x) = k

stays_sound : {d : Cipher} {s u : Receiver d} {e : Event} → Receives d s e u → Sound d s → Sound d u
stays_sound (pair_accepted r) h = r
stays_sound (pair_refused r) h = h
stays_sound (receive_accepted r moved) h = (moved h).1
stays_sound (receive_refused r) h = h

told-next : {d : Cipher} {s u : Receiver d} {e : Event} (es : List Event) → Receives d s e u → told (known_of d s) (e ∷ es) ≡ told (known_of d u) es
unfolding told
told-next es (pair_accepted r) = refl
told-next es (pair_refused r) = refl
told-next es (receive_accepted r moved) = refl
told-next es (receive_refused r) = refl

-- the receiver at the end of some events
reached : (d : Cipher) (before after : List Event) (s t : Receiver d) → Received d s (before ++ after) t → Sound d s
    → (u : Receiver d) × Sound d u × (told (known_of d s) before ≡ known_of d u) × Received d u after t
unfolding told
reached d [] after s t run h = (s, h, refl, run)
reached d (e ∷ before) after s t (v, step, run) h =
    let r = reached d before after v t run (stays_sound step h) in
    (r.0, r.1, told-next before step ∙ r.2, r.3)

-- where a message of a session was framed
pub record Placed (c : Cipher) (s : Session) (m : Message) : Type 0 where
  pub place : ℕ
  pub frame_is : m.frame ≡ sent_frame c s.number place (state_at c s.key s.label s.number place) m.plain
  pub fits : Fits place s.allowance (length m.plain)

framed_placed : (c : Cipher) (s : Session) (ms : List Message) (place : ℕ) (x : c.State) → x ≡ state_at c s.key s.label s.number place
    → Framed c s.number place s.allowance x ms → All (Placed c s) ms
unfolding state_at
framed_placed c s [] place x x-is framed = tt
framed_placed c s (m ∷ ms) place x x-is (frame_is, fits, framed) =
    let start = c.start s.key (session_iv s.label s.number) in
    let size : ℕ = length m.plain in
    let sum : 8 * place + 8 * size ≡ 8 * (place + size) = omega arith in (
      record { place = place; frame_is = frame_is ∙ ap (λ t. sent_frame c s.number place t m.plain) x-is; fits = fits },
      framed_placed c s ms (place + size) (later c (8 * size) x)
          (ap (later c (8 * size)) x-is ∙ sym (later-add c (8 * place) (8 * size) start) ∙ ap (λ n. later c n start) sum) framed,
    )

module _ (c d : Cipher) (one : OneCipher c d) (s : Session) (number_high : s.number ≤ largest_mark) (allowance_high : s.allowance ≤ 16777216)
    (m : Message) (placed : Placed c s m) where
  abbrev payload : List ℕ
  payload = cover c (state_at c s.key s.label s.number placed.place) m.plain

  size_is : length payload ≡ length m.plain
  size_is = length-cover c (state_at c s.key s.label s.number placed.place) m.plain

  place_high : placed.place ≤ 16777216
  place_high = omega (arith, placed.fits.inside)

  few : length payload ≤ 1024
  few = omega (arith, size_is, placed.fits.few)

  plain_back : (k : Known) (f : List ℕ) (y : d.State) → f ≡ m.frame → k.key ≡ s.key → k.label ≡ s.label
      → y ≡ state_at d k.key k.label (frame_session f) (frame_place f) → cover d y (frame_payload f) ≡ m.plain
  plain_back k f y f-is key_is label_is y-is =
      let whole : f ≡ frame s.number placed.place payload = f-is ∙ placed.frame_is in
      let at-session = session_back s.number placed.place payload number_high place_high few in
      let at_place = place_back s.number placed.place payload number_high place_high few in
      let state-is : y ≡ state_at d s.key s.label s.number placed.place =
      y-is ∙ ap₂ (λ k₁ l. state_at d k₁ l (frame_session f) (frame_place f)) key_is label_is
      ∙ ap₂ (state_at d s.key s.label) (ap (λ g. frame_session g) whole ∙ at-session) (ap (λ g. frame_place g) whole ∙ at_place) in
      ap₂ (cover d) state-is (ap (λ g. frame_payload g) whole) ∙ uncovered c d one s.key s.label m.plain s.number placed.place

  size_back : (f : List ℕ) → f ≡ m.frame → frame_length f ≡ length m.plain
  size_back f f-is = ap (λ g. frame_length g) (f-is ∙ placed.frame_is) ∙ length_back s.number placed.place payload number_high place_high few ∙ size_is

  not_refused : (k : Known) (f : List ℕ) (room : ℕ) → f ≡ m.frame → s.allowance ≤ k.allowance → length m.plain ≤ room → receive_refusal (Some k) f room ≡ None
  not_refused k f room f-is high fits =
      ap (λ g. receive_refusal (Some k) g room) (f-is ∙ placed.frame_is)
      ∙ admitted s.number placed.place payload number_high place_high few k room
      (omega (arith, size_is, placed.fits.some)) (omega (arith, size_is, placed.fits.inside)) (omega (arith, size_is))

  opened_now : (f : List ℕ) (room : ℕ) (u : Receiver d) (outcome : Outcome) (v : Receiver d) → Receives d u (came (receiving f room) outcome) v → f ≡ m.frame
      → Sound d u → PairedFor s (known_of d u) → length m.plain ≤ room → (distance : ℤ) × (outcome ≡ plain_at m.plain (length m.plain) distance)
  opened_now f room u outcome v (receive_accepted {k} {present} {place} {y = y} r moved) f-is sound (key_is, label_is, high) fits =
      (distance_to present place f, ap₂ (λ p n. plain_at p n (distance_to present place f)) (plain_back k f y f-is key_is label_is (moved sound).0) (size_back f f-is))
  opened_now f room u outcome v (receive_refused {k = None} r) f-is sound paired_is fits = absurd paired_is
  opened_now f room u outcome v (receive_refused {k = Some k} {n = n} r) f-is sound (key_is, label_is, high) fits =
      absurd (some_none n (sym r ∙ not_refused k f room f-is high fits))

  pub opens : (events : List Event) (x : d.State) (t : Receiver d) → Received d (receiver None None 0 x) events t → Opens events s m
  opens events x t run before after room outcome split paired_is fits =
      let r = reached d before (came (receiving m.frame room) outcome ∷ after) (receiver None None 0 x) t (subst (λ es. Received d (receiver None None 0 x) es t) split run) tt in
      let next = r.3 in
      opened_now m.frame room r.0 outcome next.0 next.1 refl r.1 (subst (PairedFor s) r.2 paired_is) fits

at_start : (c : Cipher) (key label : List ℕ) (number : ℕ) → c.start key (session_iv label number) ≡ state_at c key label number 0
unfolding state_at times
at_start c key label number = refl

-- every message of every session
pub all_open : (c d : Cipher) → OneCipher c d → (ss : List Session) → All (Good c) ss → (events : List Event) (x : d.State) (t : Receiver d)
    → Received d (receiver None None 0 x) events t → All (λ s. All (Opens events s) s.messages) ss
all_open c d one [] good events x t run = tt
all_open c d one (s ∷ ss) (here, rest) events x t run = (
  all_weaker _ _ (λ m placed. opens c d one s here.number_high here.allowance_high m placed events x t run) s.messages
      (framed_placed c s s.messages 0 _ (at_start c s.key s.label s.number) here.framed),
  all_open c d one ss rest events x t run,
)
