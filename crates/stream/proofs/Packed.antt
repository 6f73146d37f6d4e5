-- Lists of bits and the numbers that they make.
use Rattle.std.proofs.Common.{◌≡◌, ℕ, zero, suc, ◌+◌, ◌*◌, ◌/◌, ◌%◌, ◌^◌, ◌<◌, Bool, true, false, cond, eqb, List, [], ◌∷◌, ◌++◌, length, get_or, sym, refl, ap, ◌∙◌, ap₂, le_of_suc-le-suc, zero-lt-suc, suc-add, pow-suc, zero-add, div-one, add-one, one-add, arith, length-append, shr-shr}
use native.Mathlib.Nat.{mod-one}
use lib.Pow.{mod-pow-add}
use Rattle.std.proofs.lemmas.Bool.{eqb-true, eqb-false, cond_both}
use Rattle.stream.specs.Bits.{bit, first, bits, packed, octet_bits, times}

-- the first n values are n values
pub length-first : {A : Type 0} (n : ℕ) (f : ℕ → A) → length (first n f) ≡ n
unfolding first
length-first zero f = refl
length-first (suc n) f = ap suc (length-first n (λ i. f (suc i)))

-- n bits of a number are n bits
pub length-bits : (n x : ℕ) → length (bits n x) ≡ n
unfolding bits
length-bits n x = length-first n (bit x)

-- an octet has eight bits
pub length-octet_bits : (xs : List ℕ) → length (octet_bits xs) ≡ 8 * length xs
unfolding octet_bits
length-octet_bits [] = refl
length-octet_bits (x ∷ xs) =
    omega (arith, length-append (bits 8 x) (octet_bits xs), length-bits 8 x, length-octet_bits xs)

-- the first m + k values are the first m and then k from m on
pub first-add : {A : Type 0} (m k : ℕ) (f : ℕ → A) → first (m + k) f ≡ first m f ++ first k (λ i. f (m + i))
unfolding first
first-add zero k f = simp zero-add
first-add (suc m) k f = simp suc-add (ap (λ r. f 0 ∷ r) (first-add m k (λ i. f (suc i))))

-- values that agree below n
pub first_cong : {A : Type 0} (n : ℕ) (f g : ℕ → A) → ((i : ℕ) → i < n → f i ≡ g i) → first n f ≡ first n g
unfolding first
first_cong zero f g same = refl
first_cong (suc n) f g same =
    ap₂ ◌∷◌ (same 0 (zero-lt-suc n))
    (first_cong n (λ i. f (suc i)) (λ i. g (suc i)) (λ i h. same (suc i) (omega arith)))

-- value i of the first n
pub get_or-first : {A : Type 0} (n : ℕ) (f : ℕ → A) (i : ℕ) (d : A) → i < n → get_or (first n f) i d ≡ f i
unfolding first
get_or-first zero f i d h = absurd (omega (arith, h))
get_or-first (suc n) f zero d h = refl
get_or-first (suc n) f (suc i) d h = get_or-first n (λ i. f (suc i)) i d (le_of_suc-le-suc h)

-- m + k times are m times and then k
pub times-add : {A : Type 0} (m k : ℕ) (f : A → A) (x : A) → times (m + k) f x ≡ times k f (times m f x)
unfolding times
times-add zero k f x = simp zero-add
times-add (suc m) k f x = simp suc-add (times-add m k f (f x))

-- the number of bits in two parts: the second part stands above the first
pub packed-append : (xs ys : List Bool) → packed (xs ++ ys) ≡ packed xs + 2 ^ length xs * packed ys
unfolding packed
packed-append [] ys = omega arith
packed-append (x ∷ xs) ys =
    omega (arith, packed-append xs ys, pow-suc 2 (length xs), ap (λ n. n * packed ys) (pow-suc 2 (length xs)))

-- n bits make a number below 2 ^ n
pub packed_lt : (xs : List Bool) → packed xs < 2 ^ length xs
unfolding packed
packed_lt [] = omega arith
packed_lt (true ∷ xs) = omega (arith, packed_lt xs, pow-suc 2 (length xs))
packed_lt (false ∷ xs) = omega (arith, packed_lt xs, pow-suc 2 (length xs))

-- bit i + 1 of a number is bit i of its half
bit-suc : (n i : ℕ) → bit n (suc i) ≡ bit (n / 2) i
unfolding bit
bit-suc n i = ap (λ m. eqb (m % 2) 1) (ap (λ j. n / 2 ^ j) (sym (one-add i)) ∙ sym (shr-shr n 1 i))

-- the lowest bit, and then the bits of the half
pub bits-suc : (m n : ℕ) → bits (suc m) n ≡ eqb (n % 2) 1 ∷ bits m (n / 2)
unfolding bits first bit
bits-suc m n =
    ap₂ ◌∷◌ (ap (λ x. eqb (x % 2) 1) (div-one n)) (first_cong m (λ i. bit n (suc i)) (bit (n / 2)) (λ i _. bit-suc n i))

-- the lowest bit as a number
low_bit : (n : ℕ) → cond (eqb (n % 2) 1) 1 0 ≡ n % 2
low_bit n =
    cond_both (eqb (n % 2) 1) 1 0 (λ x. x ≡ n % 2) (λ e. sym (eqb-true (n % 2) 1 e))
    (λ e. let no_one = eqb-false (n % 2) 1 e in omega arith)

-- the m lowest bits of a number make its remainder by 2 ^ m
pub packed-bits : (m n : ℕ) → packed (bits m n) ≡ n % 2 ^ m
unfolding packed
packed-bits zero n = unfold bits first in sym (mod-one n)
packed-bits (suc m) n =
    let halves : n % 2 ^ suc m ≡ n / 2 % 2 ^ m * 2 + n % 2 = ap (λ k. n % 2 ^ k) (sym (add-one m)) ∙ mod-pow-add n m 1 in
    rw bits-suc (omega (arith, halves, low_bit n, packed-bits m (n / 2)))

-- the bits of the number that bits make are those bits
pub bits-packed : (xs : List Bool) → bits (length xs) (packed xs) ≡ xs
unfolding packed
bits-packed [] = unfold bits first in refl
bits-packed (true ∷ xs) =
    let half : (1 + 2 * packed xs) / 2 ≡ packed xs = omega arith in
    let odd : (1 + 2 * packed xs) % 2 ≡ 1 = omega arith in
    rw (bits-suc, half, odd) (ap (λ r. true ∷ r) (bits-packed xs))
bits-packed (false ∷ xs) =
    let half : (0 + 2 * packed xs) / 2 ≡ packed xs = omega arith in
    let even : (0 + 2 * packed xs) % 2 ≡ 0 = omega arith in
    rw (bits-suc, half, even) (ap (λ r. false ∷ r) (bits-packed xs))
