-- The bits of sums, products, shifts and parts of numbers.
use Rattle.std.proofs.Common.{◌≡◌, ℕ, zero, suc, ◌+◌, ◌-◌, ◌*◌, ◌/◌, ◌%◌, ◌^◌, ◌<◌, true, false, ◌&&◌, eqb, sym, refl, ap, ◌∙◌, ap₂, arith, shr-shr}
use native.Mathlib.Nat.{zero-div}
use lib.Bits.{bit_and, bit_xor, xor_shr, and_shr, xor_mod, and_mod, and_mask}
use lib.Pow.{high, low, field, mod-mod-pow, ones_split, ones_lt}
use Rattle.stream.specs.Bits.{bit, plus}

xor-one : (p q : ℕ) → p < 2 → q < 2 → eqb (bit_xor p q) 1 ≡ plus (eqb p 1) (eqb q 1)
xor-one zero zero hp hq = refl
xor-one zero (suc zero) hp hq = refl
xor-one (suc zero) zero hp hq = refl
xor-one (suc zero) (suc zero) hp hq = refl
xor-one zero (suc (suc q)) hp hq = absurd (omega arith)
xor-one (suc zero) (suc (suc q)) hp hq = absurd (omega arith)
xor-one (suc (suc p)) q hp hq = absurd (omega arith)

and_one : (p q : ℕ) → p < 2 → q < 2 → eqb (bit_and p q) 1 ≡ (eqb p 1 && eqb q 1)
and_one zero zero hp hq = refl
and_one zero (suc zero) hp hq = refl
and_one (suc zero) zero hp hq = refl
and_one (suc zero) (suc zero) hp hq = refl
and_one zero (suc (suc q)) hp hq = absurd (omega arith)
and_one (suc zero) (suc (suc q)) hp hq = absurd (omega arith)
and_one (suc (suc p)) q hp hq = absurd (omega arith)

pub bit-xor : (a b i : ℕ) → bit (bit_xor a b) i ≡ plus (bit a i) (bit b i)
unfolding bit
bit-xor a b i =
    ap (λ n. eqb (n % 2) 1) (xor_shr a b i) ∙ ap (λ n. eqb n 1) (xor_mod (a / 2 ^ i) (b / 2 ^ i) 1)
    ∙ xor-one (a / 2 ^ i % 2) (b / 2 ^ i % 2) (omega arith) (omega arith)

pub bit-and : (a b i : ℕ) → bit (bit_and a b) i ≡ (bit a i && bit b i)
unfolding bit
bit-and a b i =
    ap (λ n. eqb (n % 2) 1) (and_shr a b i) ∙ ap (λ n. eqb n 1) (and_mod (a / 2 ^ i) (b / 2 ^ i) 1)
    ∙ and_one (a / 2 ^ i % 2) (b / 2 ^ i % 2) (omega arith) (omega arith)

pub bit_shr : (n j i : ℕ) → bit (n / 2 ^ j) i ≡ bit n (j + i)
unfolding bit
bit_shr n j i = ap (λ m. eqb (m % 2) 1) (shr-shr n j i)

bit-mod-add : (n j i : ℕ) → bit (n % 2 ^ (j + 1 + i)) i ≡ bit n i
unfolding bit
bit-mod-add n j i =
    ap (λ m. eqb (m % 2) 1) (field n (j + 1) i) ∙ ap (λ m. eqb m 1) (mod-mod-pow (n / 2 ^ i) j 1)

-- a bit below k is a bit of the remainder by 2 ^ k
pub bit-mod : (n k i : ℕ) → i < k → bit (n % 2 ^ k) i ≡ bit n i
bit-mod n k i h =
    let split : k ≡ k - (1 + i) + 1 + i = omega arith in
    ap (λ m. bit (n % 2 ^ m) i) split ∙ bit-mod-add n (k - (1 + i)) i

-- two numbers side by side
pub bit_join_low : (hi k lo i : ℕ) → lo < 2 ^ k → i < k → bit (hi * 2 ^ k + lo) i ≡ bit lo i
bit_join_low hi k lo i h below = sym (bit-mod (hi * 2 ^ k + lo) k i below) ∙ ap (λ n. bit n i) (low hi k h)

pub bit_join_high : (hi k lo i : ℕ) → lo < 2 ^ k → bit (hi * 2 ^ k + lo) (k + i) ≡ bit hi i
bit_join_high hi k lo i h = sym (bit_shr (hi * 2 ^ k + lo) k i) ∙ ap (λ n. bit n i) (high hi k h)

pub bit-zero : (i : ℕ) → bit 0 i ≡ false
unfolding bit
bit-zero i = let nothing : 0 / 2 ^ i ≡ 0 = zero-div (2 ^ i) in ap (λ n. eqb (n % 2) 1) nothing

-- a bit past the end of a number
pub bit_past : (n k i : ℕ) → n < 2 ^ k → bit n (k + i) ≡ false
bit_past n k i h = ap (λ m. bit m (k + i)) (sym (omega arith)) ∙ bit_join_high 0 k n i h ∙ bit-zero i

ones-bit-add : (r j : ℕ) → bit (2 ^ (r + 1 + j) - 1) (j + 0) ≡ true
ones-bit-add r j =
    ap (λ n. bit n (j + 0)) (ones_split (r + 1) j) ∙ bit_join_high (2 ^ (r + 1) - 1) j (2 ^ j - 1) 0 (ones_lt j)
    ∙ ap (λ n. bit n 0) (ones_split r 1) ∙ bit_join_low (2 ^ r - 1) 1 1 0 (omega arith) (omega arith) ∙ unfold bit in refl

-- every bit of 2 ^ k - 1 below k is 1
pub ones_bit : (k j : ℕ) → j < k → bit (2 ^ k - 1) j ≡ true
ones_bit k j h =
    let split : k ≡ k - (1 + j) + 1 + j = omega arith in
    let same : j ≡ j + 0 = omega arith in
    ap₂ (λ m i. bit (2 ^ m - 1) i) split same ∙ ones-bit-add (k - (1 + j)) j

-- a bit as the code tests it
pub bit_tested : (n i : ℕ) → eqb (bit_and (n / 2 ^ i) 1) 1 ≡ bit n i
unfolding bit
bit_tested n i = ap (λ m. eqb m 1) (and_mask (n / 2 ^ i) 1)
