-- What the receiver's calls of the code promise, as steps of a history.
use Rattle.std.proofs.Common.{◌≡◌, ℕ, ◌+◌, eqb, ltb, List, [], ◌∷◌, length, take, drop, ℤ, Some, None, Option, sym, ap, ◌∙◌, subst, arith, length-drop, take_at}
use Rattle.std.proofs.lemmas.List.{drop_at}
use Rattle.std.proofs.lemmas.Bool.{or_parts, not-false, eqb-true}
use Rattle.stream.specs.Ciphers.{Cipher, cover}
use Rattle.stream.proofs.Streams.{length-cover}
use Rattle.link.specs.Frames.{frame_session, frame_place, frame_length, frame_payload, no_frame}
use Rattle.link.specs.Receivers.{Known, Stands, receive_refusal, distance_to}
use Rattle.receiver.specs.Receiving.{Held, InPlace, Pairs, Accepts}
use Rattle.receiver.specs.declared.Received.{Received}
use Rattle.histories.specs.Calls.{came, pairing, receiving, paired, plain_at}
use Rattle.histories.specs.Histories.{Receiver, receiver, Receives, pair_accepted, receive_accepted}
use Rattle.runs.specs.Readings.{receiver_as, Beyond}
use Rattle.histories.proofs.Checks.{some_none, none_applied}

module _ (c : Cipher) where
  -- a receiver by its four parts
  abbrev parts : Option Known × Option ℕ × ℕ × c.State → Receiver c
  parts q = receiver q.0 q.1 q.2 q.3

  pub pair_step : (before after : Held c) (key label : List ℕ) (allowance : ℕ) → Pairs c before after key label allowance
      → Receives c (receiver_as c before) (came (pairing key label allowance) paired) (receiver_as c after)
  pair_step before after key label allowance p =
      let same : ◌≡◌ {A = Option Known × Option ℕ × ℕ × c.State} (Some (record { key = key; label = label; allowance = allowance }), None, 0, after.state)
      (after.pairing, after.session, after.place, after.state) =
      λ i. (sym p.told i, sym p.session i, sym p.place i, after.state) in
      subst (λ q. Receives c (receiver_as c before) (came (pairing key label allowance) paired) (parts q)) same (pair_accepted p.allowed)

  -- a frame that is admitted has as many octets of payload as its length field says
  payload_size : (k : Known) (f : List ℕ) (room : ℕ) → receive_refusal (Some k) f room ≡ None → length (frame_payload f) ≡ frame_length f
  payload_size k f room e =
      let first = (none_applied ((no_frame f, 6) ∷ (ltb k.allowance (frame_place f + frame_length f), 11) ∷ (ltb room (frame_length f), 7) ∷ []) e).0 in
      let second = (or_parts (ltb (length f) 10) _ first).1 in
      let third = (or_parts (eqb (frame_length f) 0) _ second).1 in
      let fourth = (or_parts (ltb 1024 (frame_length f)) _ third).1 in
      omega (arith, eqb-true (length f) (10 + frame_length f) (not-false _ fourth), length-drop 10 f)

  pub receive_step : (k : Option Known) (present : Option ℕ) (place : ℕ) (x : c.State) (after : Held c) (f out written items : List ℕ) (r : Received)
      → Accepts c (record { pairing = k; session = present; place = place; state = x }) after f out written r → items ≡ take r.length written
      → Receives c (receiver k present place x) (came (receiving f (length out)) (plain_at items r.length r.distance)) (receiver_as c after)
  receive_step None present place x after f out written items r a items-are = absurd (some_none 12 a.allowed)
  receive_step (Some k) present place x after f out written items r a items-are =
      let plain : List ℕ = cover c a.from (frame_payload f) in
      let size : length plain ≡ r.length = length-cover c a.from (frame_payload f) ∙ payload_size k f (length out) a.allowed ∙ sym a.size in
      let plain-is : items ≡ plain = items-are ∙ ap (take r.length) a.plain ∙ take_at plain (drop (frame_length f) out) r.length size in
      let stood : Stands c (Some k) present place x → Stands c (Some k) (Some (frame_session f)) (frame_place f + frame_length f) after.state =
      λ st. let now-stands : InPlace c after = a.stands st in
      subst (λ (q : Option Known × Option ℕ × ℕ). Stands c q.0 q.1 q.2 after.state) (λ i. (a.pairing i, a.session i, a.place i)) now-stands in
      let same : ◌≡◌ {A = List ℕ × ℕ × ℤ × (Option Known × Option ℕ × ℕ × c.State)} (plain, frame_length f, distance_to present place f, (Some k, Some (frame_session f), frame_place f + frame_length f, after.state))
      (items, r.length, r.distance, (after.pairing, after.session, after.place, after.state)) =
      λ i. (sym plain-is i, sym a.size i, sym a.distance i, (sym a.pairing i, sym a.session i, sym a.place i, after.state)) in
      subst (λ q. Receives c (receiver (Some k) present place x) (came (receiving f (length out)) (plain_at q.0 q.1 q.2)) (parts q.3)) same
      (receive_accepted a.allowed (λ st. (a.reached st, stood st)))

  -- beyond the plain the buffer is as it was
  pub receive_beyond : (k : Option Known) (present : Option ℕ) (place : ℕ) (x : c.State) (after : Held c) (f out written : List ℕ) (r : Received)
      → Accepts c (record { pairing = k; session = present; place = place; state = x }) after f out written r → length written ≡ length out → Beyond r.length out written
  receive_beyond None present place x after f out written r a room = absurd (some_none 12 a.allowed)
  receive_beyond (Some k) present place x after f out written r a room =
      let plain : List ℕ = cover c a.from (frame_payload f) in
      let size : length plain ≡ r.length = length-cover c a.from (frame_payload f) ∙ payload_size k f (length out) a.allowed ∙ sym a.size in
      record { room = room; rest = ap (drop r.length) a.plain ∙ drop_at plain (drop (frame_length f) out) r.length size ∙ ap (λ n. drop n out) (sym a.size) }
