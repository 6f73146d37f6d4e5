-- Polynomials over the bits of two registers, as data, so that a cipher's definition reads like its public description.
use Rattle.std.specs.Prelude.{ℕ, Bool, true, false, ◌&&◌, ◌||◌, ◌==◌, nat_lt}
use Rattle.stream.specs.Bits.{plus}

infixl 35 ◌⊕◌
infixl 40 ◌⊗◌
pub data Poly : Type 0 where
  -- the bit at an index of the linear register
  S : ℕ → Poly
  -- the bit at an index of the nonlinear register
  B : ℕ → Poly
  -- a bit that is no register's
  fixed : Bool → Poly
  -- a sum, modulo 2
  ◌⊕◌ : Poly → Poly → Poly
  -- a product
  ◌⊗◌ : Poly → Poly → Poly

-- the value of a polynomial where s and b give the bit at each index
unfoldable pub value : (ℕ → Bool) → (ℕ → Bool) → Poly → Bool
value s b (S i) = s i
value s b (B i) = b i
value s b (fixed x) = x
value s b (p ⊕ q) = plus (value s b p) (value s b q)
value s b (p ⊗ q) = value s b p && value s b q

-- Tests that the checker computes on a polynomial.

-- every index is below n
abbrev pub within : ℕ → Poly → Bool
within n (S i) = nat_lt i n
within n (B i) = nat_lt i n
within n (fixed x) = true
within n (p ⊕ q) = within n p && within n q
within n (p ⊗ q) = within n p && within n q

-- the registers exchanged
abbrev pub swapped : Poly → Poly
swapped (S i) = B i
swapped (B i) = S i
swapped (fixed x) = fixed x
swapped (p ⊕ q) = swapped p ⊕ swapped q
swapped (p ⊗ q) = swapped p ⊗ swapped q

-- index 0 of the linear register does not occur
abbrev pub without_s : Poly → Bool
without_s (S i) = nat_lt 0 i
without_s (B i) = true
without_s (fixed x) = true
without_s (p ⊕ q) = without_s p && without_s q
without_s (p ⊗ q) = without_s p && without_s q

-- index 0 of the linear register occurs once, as a term of its own
abbrev pub lone_s : Poly → Bool
lone_s (S i) = i == 0
lone_s (B i) = false
lone_s (fixed x) = false
lone_s (p ⊕ q) = lone_s p && without_s q || without_s p && lone_s q
lone_s (p ⊗ q) = false

-- the same of the nonlinear register
abbrev pub without_b : Poly → Bool
without_b p = without_s (swapped p)

abbrev pub lone_b : Poly → Bool
lone_b p = lone_s (swapped p)
