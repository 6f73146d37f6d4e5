-- The values of polynomials: what they depend on, and their words.
use Rattle.std.proofs.Common.{◌≡◌, ℕ, zero, suc, ◌+◌, ◌-◌, ◌/◌, ◌%◌, ◌^◌, ◌<◌, ◌≤◌, Bool, true, false, ◌&&◌, ◌||◌, T, leb, ◌⊎◌, sym, refl, ap, ◌∙◌, ap₂, inl, inr, le_trans, div-one, arith, eqb→eq, ltb→lt}
use Rattle.std.proofs.lemmas.Bool.{leb-true, leb-false, cond_both}
use Rattle.stream.specs.Bits.{bit, plus}
use Rattle.registers.specs.Polynomials.{Poly, S, B, fixed, ◌⊕◌, ◌⊗◌, value, within, swapped, without_s, lone_s}
use Rattle.registers.specs.Words.{window_of, shifted, from_index, filled, word}
use Rattle.registers.proofs.Bit.{bit-xor, bit-and, bit_shr, bit-mod, bit-zero, ones_bit}

both_left : (x y : Bool) → T (x && y) → T x
both_left true y t = tt
both_left false y t = t

both_right : (x y : Bool) → T (x && y) → T y
both_right true y t = t
both_right false y t = absurd t

both_from : (x y : Bool) → T x → T y → T (x && y)
both_from true y tx ty = ty
both_from false y tx ty = tx

either_way : (x y : Bool) → T (x || y) → T x ⊎ T y
either_way true y t = inl tt
either_way false y t = inr t

-- a polynomial depends on the bits below its reach alone
pub value_cong : (n : ℕ) (s b u v : ℕ → Bool) → ((i : ℕ) → i < n → s i ≡ u i) → ((i : ℕ) → i < n → b i ≡ v i) → (p : Poly) → T (within n p) → value s b p ≡ value u v p
unfolding value
value_cong n s b u v hs hb (S i) t = hs i (ltb→lt i n t)
value_cong n s b u v hs hb (B i) t = hb i (ltb→lt i n t)
value_cong n s b u v hs hb (fixed x) t = refl
value_cong n s b u v hs hb (p ⊕ q) t =
    ap₂ plus (value_cong n s b u v hs hb p (both_left _ _ t)) (value_cong n s b u v hs hb q (both_right (within n p) _ t))
value_cong n s b u v hs hb (p ⊗ q) t =
    ap₂ ◌&&◌ (value_cong n s b u v hs hb p (both_left _ _ t)) (value_cong n s b u v hs hb q (both_right (within n p) _ t))

shifted_is : (x i : ℕ) → shifted x i ≡ x / 2 ^ i
shifted_is x zero = sym (div-one x)
shifted_is x (suc i) = refl

-- bit j of the 64 bits of a register from k on, shifted down by i
part_bit : (r k i j : ℕ) → i + j < 64 → bit (shifted (r / 2 ^ k % 2 ^ 64) i) j ≡ bit r (k + (i + j))
part_bit r k i j h =
    ap (λ n. bit n j) (shifted_is (r / 2 ^ k % 2 ^ 64) i) ∙ bit_shr (r / 2 ^ k % 2 ^ 64) i j
    ∙ bit-mod (r / 2 ^ k) 64 (i + j) h ∙ bit_shr r k (i + j)

from_index-bit : (r i j : ℕ) → i < 97 → j < 32 → bit (from_index (window_of r) i) j ≡ bit r (i + j)
unfolding window_of
from_index-bit r i j hi hj =
    cond_both (leb i 32) _ _ (λ n. bit n j ≡ bit r (i + j))
    (λ e. let below = leb-true i 32 e in
    ap (λ n. bit (shifted (n % 2 ^ 64) i) j) (sym (div-one r)) ∙ part_bit r 0 i j (omega arith) ∙ ap (bit r) (omega arith))
    (λ e. let above = leb-false i 32 e in
    cond_both (leb i 64) _ _ (λ n. bit n j ≡ bit r (i + j))
    (λ e'. let below = leb-true i 64 e' in part_bit r 32 (i - 32) j (omega arith) ∙ ap (bit r) (omega arith))
    (λ e'. let past = leb-false i 64 e' in part_bit r 64 (i - 64) j (omega arith) ∙ ap (bit r) (omega arith)))

filled-bit : (x : Bool) (j : ℕ) → j < 32 → bit (filled x) j ≡ x
filled-bit true j h = ones_bit 64 j (omega arith)
filled-bit false j h = bit-zero j

-- bit j of a polynomial's word is its value at the registers j bits on
pub word-bit : (s b j n : ℕ) → j < 32 → n ≤ 97 → (p : Poly) → T (within n p) → bit (word (window_of s) (window_of b) p) j ≡ value (λ i. bit s (i + j)) (λ i. bit b (i + j)) p
unfolding value
word-bit s b j n hj hn (S i) t = from_index-bit s i j (le_trans (ltb→lt i n t) hn) hj
word-bit s b j n hj hn (B i) t = from_index-bit b i j (le_trans (ltb→lt i n t) hn) hj
word-bit s b j n hj hn (fixed x) t = filled-bit x j hj
word-bit s b j n hj hn (p ⊕ q) t =
    bit-xor (word (window_of s) (window_of b) p) (word (window_of s) (window_of b) q) j
    ∙ ap₂ plus (word-bit s b j n hj hn p (both_left _ _ t)) (word-bit s b j n hj hn q (both_right (within n p) _ t))
word-bit s b j n hj hn (p ⊗ q) t =
    bit-and (word (window_of s) (window_of b) p) (word (window_of s) (window_of b) q) j
    ∙ ap₂ ◌&&◌ (word-bit s b j n hj hn p (both_left _ _ t)) (word-bit s b j n hj hn q (both_right (within n p) _ t))

-- a polynomial without index 0 of the linear register does not depend on it
pub without_value : (s u b : ℕ → Bool) → ((i : ℕ) → s (suc i) ≡ u (suc i)) → (p : Poly) → T (without_s p) → value s b p ≡ value u b p
unfolding value
without_value s u b h (S zero) t = absurd t
without_value s u b h (S (suc i)) t = h i
without_value s u b h (B i) t = refl
without_value s u b h (fixed x) t = refl
without_value s u b h (p ⊕ q) t =
    ap₂ plus (without_value s u b h p (both_left _ _ t)) (without_value s u b h q (both_right (without_s p) _ t))
without_value s u b h (p ⊗ q) t =
    ap₂ ◌&&◌ (without_value s u b h p (both_left _ _ t)) (without_value s u b h q (both_right (without_s p) _ t))

plus-first : (x y z : Bool) → plus (plus x y) z ≡ plus x (plus y z)
plus-first x y false = refl
plus-first x false true = refl
plus-first true true true = refl
plus-first false true true = refl

plus_second : (x y z : Bool) → plus y (plus x z) ≡ plus x (plus y z)
plus_second true true z = refl
plus_second false false z = refl
plus_second true false true = refl
plus_second true false false = refl
plus_second false true true = refl
plus_second false true false = refl

-- where index 0 of the linear register stands alone, its bit is added to the rest
pub lone_value : (s u b : ℕ → Bool) → ((i : ℕ) → s (suc i) ≡ u (suc i)) → u 0 ≡ false → (p : Poly) → T (lone_s p) → value s b p ≡ plus (s 0) (value u b p)
unfolding value
lone_value s u b h z (S zero) t = ap (plus (s 0)) (sym z)
lone_value s u b h z (S (suc i)) t = absurd (omega (arith, eqb→eq (suc i) 0 t))
lone_value s u b h z (B i) t = absurd t
lone_value s u b h z (fixed x) t = absurd t
lone_value s u b h z (p ⊗ q) t = absurd t
lone_value s u b h z (p ⊕ q) t =
    elim (either_way (lone_s p && without_s q) _ t) [
      | inl l ↦
          ap₂ plus (lone_value s u b h z p (both_left _ _ l)) (without_value s u b h q (both_right (lone_s p) _ l))
          ∙ plus-first (s 0) (value u b p) (value u b q)
      | inr r ↦
          ap₂ plus (without_value s u b h p (both_left _ _ r)) (lone_value s u b h z q (both_right (without_s p) _ r))
          ∙ plus_second (s 0) (value u b p) (value u b q)
    ]

-- the registers exchanged
pub value-swapped : (s b : ℕ → Bool) (p : Poly) → value s b (swapped p) ≡ value b s p
unfolding value
value-swapped s b (S i) = refl
value-swapped s b (B i) = refl
value-swapped s b (fixed x) = refl
value-swapped s b (p ⊕ q) = ap₂ plus (value-swapped s b p) (value-swapped s b q)
value-swapped s b (p ⊗ q) = ap₂ ◌&&◌ (value-swapped s b p) (value-swapped s b q)

pub sum_within : (n : ℕ) (p q : Poly) → T (within n p) → T (within n q) → T (within n (p ⊕ q))
sum_within n p q tp tq = both_from (within n p) (within n q) tp tq
