-- What the calls answer.
use Rattle.std.specs.Prelude.{◌≡◌, ℕ, zero, suc, List, Some, None, Option}
use Rattle.stream.specs.Ciphers.{Cipher, cover}

-- the number of a refusal, and 0 where there is none
abbrev pub told : Option ℕ → ℕ
told None = 0
told (Some n) = n

-- octets covered from the start state of a key and an IV where the answer is 0, and left as they were where it is not
abbrev pub Covers : Cipher → List ℕ → List ℕ → List ℕ → List ℕ → ℕ → Type 0
Covers c key iv before after zero = after ≡ cover c (c.start key iv) before
Covers c key iv before after (suc n) = after ≡ before
