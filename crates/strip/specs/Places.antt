-- What a search for an octet with a one bit finds.
use Rattle.std.specs.Prelude.{◌≡◌, ℕ, ◌<◌, List, length, slice_index}

-- octet i is the first that is not 0
pub record FirstSet (octets : List ℕ) (i : ℕ) : Type 0 where
  pub inside : i < length octets
  pub not_zero : 0 < slice_index octets i
  pub before : (k : ℕ) → k < i → slice_index octets k ≡ 0

-- every octet is 0
abbrev pub AllClear : List ℕ → Type 0
AllClear octets = (k : ℕ) → k < length octets → slice_index octets k ≡ 0
