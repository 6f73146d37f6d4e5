-- What a receiver holds, and the parts of its accepted calls.
use Rattle.std.specs.Prelude.{◌≡◌, ℕ, ◌+◌, ◌≤◌, List, [], ◌++◌, length, take, drop, Some, None, Option}
use Rattle.stream.specs.Ciphers.{Cipher, cover}
use Rattle.link.specs.Frames.{frame_session, frame_place, frame_length, frame_payload}
use Rattle.link.specs.Sessions.{state_at, pair_refusal}
use Rattle.link.specs.Receivers.{Known, Stands, receive_refusal, distance_to}
use Rattle.receiver.specs.declared.Received.{Received}
use Rattle.receiver.specs.declared.Receiver.{Receiver}
use Rattle.receiver.specs.declared.frame.Frame.{Frame}
use Rattle.receiver.specs.declared.pairing.Pairing.{Pairing}

-- what the last accepted pair told: of each array as many octets as the cipher has
abbrev pub known : Cipher → Option Pairing → Option Known
known c None = None
known c (Some p) =
    Some (record { key = take c.figures.key p.key; label = take c.figures.label p.label; allowance = p.allowance })

-- What a receiver holds: what it was told, its present session and place, and the state of its engine.
pub record Held (c : Cipher) : Type 0 where
  pub pairing : Option Known
  pub session : Option ℕ
  pub place : ℕ
  pub state : c.State

abbrev pub holds : {E : Type 0} (c : Cipher) → (E → c.State) → Receiver E → Held c
holds c state r =
    record { pairing = known c r.pairing; session = r.standing.session; place = r.standing.place; state = state r.engine }

-- the engine stands at the place of the present session
abbrev pub InPlace : (c : Cipher) → Held c → Type 0
InPlace c h = Stands c h.pairing h.session h.place h.state

-- The parts of an accepted pair.
pub record Pairs (c : Cipher) (before after : Held c) (key label : List ℕ) (allowance : ℕ) : Type 0 where
  pub allowed : pair_refusal c key label allowance ≡ None
  pub told : after.pairing ≡ Some (record { key = key; label = label; allowance = allowance })
  pub session : after.session ≡ None
  pub place : after.place ≡ 0
  pub state : after.state ≡ before.state
  pub stands : InPlace c after

-- why a frame is refused by a receiver that was paired with an allowance, if it is: key and label have no part in it
abbrev pub frame_refusal : ℕ → List ℕ → ℕ → Option ℕ
frame_refusal allowance f room = receive_refusal (Some (record { key = []; label = []; allowance = allowance })) f room

-- A frame that is not refused, and what its checks found.
pub record Admits (allowance : ℕ) (f : List ℕ) (room : ℕ) (h : Frame) : Type 0 where
  pub session : h.session ≡ frame_session f
  pub place : h.place ≡ frame_place f
  pub payload : h.payload.now ≡ frame_payload f
  pub size : length (frame_payload f) ≡ frame_length f
  pub short : frame_length f ≤ 1024
  pub within : frame_place f + frame_length f ≤ allowance
  pub fits : frame_length f ≤ room
  pub allowed : frame_refusal allowance f room ≡ None

-- the state is that of a place in a session under the key and label that were told
abbrev pub Reached : (c : Cipher) → Option Known → ℕ → ℕ → c.State → Type 0
Reached c None session place x = ⊥
Reached c (Some k) session place x = x ≡ state_at c k.key k.label session place

-- The parts of an accepted receive.
pub record Accepts (c : Cipher) (before after : Held c) (f out written : List ℕ) (r : Received) : Type 0 where
  pub allowed : receive_refusal before.pairing f (length out) ≡ None
  pub size : r.length ≡ frame_length f
  pub distance : r.distance ≡ distance_to before.session before.place f
  pub pairing : after.pairing ≡ before.pairing
  pub session : after.session ≡ Some (frame_session f)
  pub place : after.place ≡ frame_place f + frame_length f
  pub from : c.State
  pub plain : written ≡ cover c from (frame_payload f) ++ drop (frame_length f) out
  pub reached : InPlace c before → Reached c before.pairing (frame_session f) (frame_place f) from
  pub stands : InPlace c before → InPlace c after
