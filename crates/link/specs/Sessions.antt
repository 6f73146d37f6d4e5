-- A session: a key, a label, a number and an allowance in octets; its keystream octets are known by number and place.
use Rattle.std.specs.Prelude.{ℕ, ◌*◌, Bool, not, ◌||◌, List, [], ◌∷◌, length, Option, ◌==◌, nat_lt}
use Rattle.stream.specs.Ciphers.{Cipher, later, session_iv}
use Rattle.stream.specs.Refusals.{first_refusal}

-- the state from which a session's keystream octets at a place and after it come
unfoldable pub state_at : (c : Cipher) → List ℕ → List ℕ → ℕ → ℕ → c.State
state_at c key label number place = later c (8 * place) (c.start key (session_iv label number))

-- what is checked of a key, a label and an allowance, in order: 1, 2, 3 and 4.
-- Whether an IV is forbidden does not depend on the session number, so any number does.
abbrev pub pairing_tests : Cipher → List ℕ → List ℕ → ℕ → List (Bool × ℕ)
pairing_tests c key label allowance =
    (not (length key == c.figures.key), 1) ∷
    (not (length label == c.figures.label), 2) ∷
    (c.forbids (session_iv label 0), 3) ∷
    (allowance == 0 || nat_lt c.figures.ceiling allowance, 4) ∷ []

-- why a pairing is refused, if it is
abbrev pub pair_refusal : Cipher → List ℕ → List ℕ → ℕ → Option ℕ
pair_refusal c key label allowance = first_refusal (pairing_tests c key label allowance)
