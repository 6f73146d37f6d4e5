-- States, keystream and covering, in parts.
use Rattle.std.proofs.Common.{◌≡◌, ℕ, zero, suc, ◌+◌, ◌*◌, ◌/◌, ◌%◌, ◌^◌, ◌<◌, List, [], ◌∷◌, ◌++◌, length, get_or, sym, refl, ap, ◌∙◌, ap₂, le_of_suc-le-suc, zero-add, arith, pow_pos}
use native.Mathlib.Nat.{add-mul-div_left, div-eq_of_lt}
use lib.Bits.{bit_xor, xor_assoc, xor_self, xor_zero_r}
use Rattle.stream.specs.Bits.{packed, times}
use Rattle.stream.specs.Ciphers.{Cipher, later, stream, octet, cover}
use Rattle.stream.proofs.Packed.{length-first, first-add, first_cong, times-add, packed-append, packed_lt}

-- m + k clocks are m clocks and then k
pub later-add : (c : Cipher) (m k : ℕ) (t : c.State) → later c (m + k) t ≡ later c k (later c m t)
later-add c m k t = times-add m k c.next t

-- n clocks from a state that stands m clocks after another
pub later_more : (c : Cipher) (start s next : c.State) (m n all : ℕ)
    → s ≡ later c m start → next ≡ later c n s → m + n ≡ all → next ≡ later c all start
later_more c start s next m n all here there sum =
    there ∙ ap (later c n) here ∙ sym (later-add c m n start) ∙ ap (λ k. later c k start) sum

-- no clock leaves the state
pub later-zero : (c : Cipher) (n : ℕ) (t : c.State) → n ≡ 0 → later c n t ≡ t
unfolding times
later-zero c n t none = ap (λ k. later c k t) none

-- the last of n + 1 clocks
pub later_last : (c : Cipher) (n all : ℕ) (t : c.State) → n + 1 ≡ all → later c all t ≡ c.next (later c n t)
unfolding times
later_last c n all t sum = sym (ap (λ k. later c k t) sum) ∙ later-add c n 1 t

-- the clocks of n + 1 octets are eight and then those of n octets
later-octets : (c : Cipher) (n : ℕ) (t : c.State) → later c (8 * suc n) t ≡ later c (8 * n) (later c 8 t)
later-octets c n t = let e : 8 * suc n ≡ 8 + 8 * n = omega arith in ap (λ k. later c k t) e ∙ later-add c 8 (8 * n) t

-- n output bits are n bits
pub length-stream : (c : Cipher) (n : ℕ) (t : c.State) → length (stream c n t) ≡ n
length-stream c n t = length-first n (λ p. c.output (later c p t))

-- m + k output bits are m bits and then k from the state m clocks later
pub stream-add : (c : Cipher) (m k : ℕ) (t : c.State) → stream c (m + k) t ≡ stream c m t ++ stream c k (later c m t)
stream-add c m k t =
    first-add m k (λ p. c.output (later c p t))
    ∙ ap (λ r. stream c m t ++ r)
    (first_cong k (λ i. c.output (later c (m + i) t)) (λ i. c.output (later c i (later c m t)))
    (λ i _. ap c.output (later-add c m i t)))

-- n output bits make a number below 2 ^ n
pub packed-stream-lt : (c : Cipher) (n : ℕ) (t : c.State) → packed (stream c n t) < 2 ^ n
packed-stream-lt c n t = rw (length-stream c n t) at (packed_lt (stream c n t))

-- the number that m + k output bits make
pub packed-stream-add : (c : Cipher) (m k : ℕ) (t : c.State)
    → packed (stream c (m + k) t) ≡ packed (stream c m t) + 2 ^ m * packed (stream c k (later c m t))
packed-stream-add c m k t =
    ap packed (stream-add c m k t) ∙ rw (length-stream c m t) at (packed-append (stream c m t) (stream c k (later c m t)))

-- the octet that stands at bit m of a number made of output bits
pub packed-stream-octet : (c : Cipher) (m k : ℕ) (t : c.State)
    → packed (stream c (m + (8 + k)) t) / 2 ^ m % 256 ≡ octet c (later c m t)
unfolding octet
packed-stream-octet c m k t =
    let s = later c m t in
    let rest = packed (stream c (8 + k) s) in
    let split = add-mul-div_left (packed (stream c m t)) rest (pow_pos m) in
    let none = ap (λ n. n + rest) (div-eq_of_lt (packed-stream-lt c m t)) ∙ zero-add rest in
    let high = ap (λ n. n / 2 ^ m) (packed-stream-add c m (8 + k) t) ∙ split ∙ none in
    rw high (omega (arith, packed-stream-add c 8 k s, packed-stream-lt c 8 s))

-- covering keeps the length
pub length-cover : (c : Cipher) (t : c.State) (xs : List ℕ) → length (cover c t xs) ≡ length xs
unfolding cover
length-cover c t [] = refl
length-cover c t (x ∷ xs) = ap suc (length-cover c (later c 8 t) xs)

-- octets in two parts: the second is covered from the state that the first leaves
pub cover-append : (c : Cipher) (t : c.State) (xs ys : List ℕ)
    → cover c t (xs ++ ys) ≡ cover c t xs ++ cover c (later c (8 * length xs) t) ys
unfolding cover
cover-append c t [] ys = ap (λ s. cover c s ys) (sym (later-zero c 0 t refl))
cover-append c t (x ∷ xs) ys =
    rw later-octets (ap (λ r. bit_xor x (octet c t) ∷ r) (cover-append c (later c 8 t) xs ys))

-- covering a second time uncovers
pub cover_twice : (c : Cipher) (t : c.State) (xs : List ℕ) → cover c t (cover c t xs) ≡ xs
unfolding cover
cover_twice c t [] = refl
cover_twice c t (x ∷ xs) =
    let o = octet c t in
    ap₂ ◌∷◌ (xor_assoc x o o ∙ ap (bit_xor x) (xor_self o) ∙ xor_zero_r x) (cover_twice c (later c 8 t) xs)

-- covered octet i: the keystream octet of the state 8 i clocks later is added
pub get_or-cover : (c : Cipher) (t : c.State) (xs : List ℕ) (i : ℕ) → i < length xs
    → get_or (cover c t xs) i 0 ≡ bit_xor (get_or xs i 0) (octet c (later c (8 * i) t))
unfolding cover
get_or-cover c t [] i h = absurd (omega (arith, h))
get_or-cover c t (x ∷ xs) zero h = ap (λ s. bit_xor x (octet c s)) (sym (later-zero c 0 t refl))
get_or-cover c t (x ∷ xs) (suc i) h = rw later-octets (get_or-cover c (later c 8 t) xs i (le_of_suc-le-suc h))
