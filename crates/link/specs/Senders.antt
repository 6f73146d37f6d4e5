-- What a sender's calls do. The store is known by its mark and its raises left, the engine by its state.
use Rattle.std.specs.Prelude.{ℕ, ◌+◌, ◌||◌, List, [], ◌∷◌, ◌++◌, Option, ◌==◌, nat_lt}
use Rattle.stream.specs.Ciphers.{Cipher, cover}
use Rattle.stream.specs.Refusals.{first_refusal}
use Rattle.link.specs.Frames.{frame}
use Rattle.link.specs.Sessions.{pairing_tests}

-- why an open or a torn open is refused, if it is: 1, 2, 3, 4, 10 in this order
abbrev pub open_refusal : Cipher → ℕ → List ℕ → List ℕ → ℕ → Option ℕ
open_refusal c left key label allowance = first_refusal (pairing_tests c key label allowance ++ (((left == 0), 10) ∷ []))

-- why a send is refused, if it is: 5, 7, 11 in this order
abbrev pub send_refusal : ℕ → ℕ → ℕ → ℕ → Option ℕ
send_refusal place allowance size room =
    first_refusal ((size == 0 || nat_lt 1024 size, 5) ∷ (nat_lt room (10 + size), 7) ∷ (nat_lt allowance (place + size), 11) ∷ [])

-- the frame that a send writes at a place, from the engine's state there
abbrev pub sent_frame : (c : Cipher) → ℕ → ℕ → c.State → List ℕ → List ℕ
sent_frame c session place x plain = frame session place (cover c x plain)
