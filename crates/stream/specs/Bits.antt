-- Bits and octets. A bit is a Bool, a number is a ℕ, an octet is a number below 256; bit 0 is the least significant.
use Rattle.std.specs.Prelude.{ℕ, zero, suc, ◌+◌, ◌*◌, ◌/◌, ◌%◌, ◌^◌, Bool, true, false, cond, not, List, [], ◌∷◌, ◌++◌, ◌==◌, slice_index}

-- the sum of two bits, modulo 2
abbrev pub plus : Bool → Bool → Bool
plus x false = x
plus x true = not x

-- bit i of a number
unfoldable pub bit : ℕ → ℕ → Bool
bit n i = n / 2 ^ i % 2 == 1

-- the first n values of a sequence
unfoldable pub first : {A : Type 0} → ℕ → (ℕ → A) → List A
first zero f = []
first (suc n) f = f 0 ∷ first n (λ i. f (suc i))

-- the n lowest bits of a number, lowest first
unfoldable pub bits : ℕ → ℕ → List Bool
bits n x = first n (bit x)

-- the number that has these bits, the first one lowest
unfoldable pub packed : List Bool → ℕ
packed [] = 0
packed (x ∷ xs) = cond x 1 0 + 2 * packed xs

-- bit i of octets: bit i mod 8 of octet i div 8
abbrev pub octets_bit : List ℕ → ℕ → Bool
octets_bit xs i = bit (slice_index xs (i / 8)) (i % 8)

-- all bits of octets, from bit 0 on
unfoldable pub octet_bits : List ℕ → List Bool
octet_bits [] = []
octet_bits (x ∷ xs) = bits 8 x ++ octet_bits xs

-- f applied n times
unfoldable pub times : {A : Type 0} → ℕ → (A → A) → A → A
times zero f x = x
times (suc n) f x = times n f (f x)
