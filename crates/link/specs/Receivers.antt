-- What a receiver's calls do.
use Rattle.std.specs.Prelude.{◌≡◌, ℕ, ◌+◌, cond, List, [], ◌∷◌, ℤ, pos, ◌-ℤ◌, Some, None, Option, ◌==◌, nat_lt}
use Rattle.stream.specs.Ciphers.{Cipher}
use Rattle.stream.specs.Refusals.{first_refusal}
use Rattle.link.specs.Frames.{frame_session, frame_place, frame_length, no_frame}
use Rattle.link.specs.Sessions.{state_at, pair_refusal}

-- What the last accepted pair told.
pub record Known : Type 0 where
  pub key : List ℕ
  pub label : List ℕ
  pub allowance : ℕ

-- why a receive is refused, if it is: 12, 6, 11, 7 in this order
abbrev pub receive_refusal : Option Known → List ℕ → ℕ → Option ℕ
receive_refusal None f room = Some 12
receive_refusal (Some k) f room =
    first_refusal ((no_frame f, 6) ∷ (nat_lt k.allowance (frame_place f + frame_length f), 11) ∷ (nat_lt room (frame_length f), 7) ∷ [])

-- the place from which the distance to a frame is measured: the receiver's own in the present session, 0 in another
abbrev pub place_for : Option ℕ → ℕ → ℕ → ℕ
place_for None place number = 0
place_for (Some present) place number = cond (present == number) place 0

-- the frame's place minus the receiver's, negative for a late frame
abbrev pub distance_to : Option ℕ → ℕ → List ℕ → ℤ
distance_to present place f = pos (frame_place f) -ℤ pos (place_for present place (frame_session f))

-- Where the engine of a receiver stands: free when never paired and when there is no present session; else at its place in that session.
abbrev pub Stands : (c : Cipher) → Option Known → Option ℕ → ℕ → c.State → Type 0
Stands c None present place x = Unit {0}
Stands c (Some k) None place x = pair_refusal c k.key k.label k.allowance ≡ None
Stands c (Some k) (Some n) place x =
    (pair_refusal c k.key k.label k.allowance ≡ None) × (x ≡ state_at c k.key k.label n place)
