-- Registers filled from octets.
use Rattle.std.proofs.Common.{◌≡◌, ℕ, suc, ◌+◌, ◌*◌, ◌%◌, ◌^◌, ◌<◌, ◌≤◌, Bool, List, [], ◌∷◌, length, get_or, take, take_all, ◌++◌, sym, refl, ap, ap₂, ◌∙◌, fold, reverse, arith, le_trans, shl_exact}
use lib.Bits.{bit_or, or_shifted}
use Rattle.std.proofs.Math.Nat.{pow-le-pow_right}
use mathlib.Core.List.{reverse-cons}
use Rattle.std.proofs.lemmas.List.Sums.{fold-append}
use Rattle.stream.specs.Bits.{bits, packed, octet_bits}
use Rattle.stream.proofs.Packed.{length-bits, length-octet_bits, packed-append, packed_lt, packed-bits, bits-packed}

-- at most sixteen octets, the last one first: each is put below those after it
pub number_folded : (xs : List ℕ) → length xs ≤ 16 → ((i : ℕ) → i < length xs → get_or xs i 0 < 256) → fold (λ n x. bit_or ((n * 2 ^ 8) % 2 ^ 128) x) 0 (reverse xs) ≡ packed (octet_bits xs)
unfolding octet_bits packed
number_folded [] few below = refl
number_folded (x ∷ xs) few below =
    let n : ℕ = packed (octet_bits xs) in
    let most : 2 ^ length (octet_bits xs) ≤ 2 ^ 120 = pow-le-pow_right {n = 2} (omega arith) {j = 120} (omega (arith, length-octet_bits xs)) in
    let fits : n < 2 ^ 120 = le_trans (packed_lt (octet_bits xs)) most in
    let small : x < 256 = below 0 (omega arith) in
    let last : reverse (x ∷ xs) ≡ reverse xs ++ (x ∷ []) = reverse-cons x xs in
    let whole : packed (bits 8 x ++ octet_bits xs) ≡ x % 2 ^ 8 + 2 ^ 8 * n =
    packed-append (bits 8 x) (octet_bits xs) ∙ ap₂ (λ k m. m + 2 ^ k * n) (length-bits 8 x) (packed-bits 8 x) in
    ap (fold (λ n x. bit_or ((n * 2 ^ 8) % 2 ^ 128) x) 0) last ∙ fold-append (λ n x. bit_or ((n * 2 ^ 8) % 2 ^ 128) x) 0 (reverse xs) (x ∷ [])
    ∙ ap (λ m. bit_or ((m * 2 ^ 8) % 2 ^ 128) x) (number_folded xs (omega arith) (λ i inside. below (suc i) (omega arith)))
    ∙ ap (λ m. bit_or m x) (shl_exact 120 8 128 fits (omega arith)) ∙ or_shifted n 8 x small ∙ sym (whole ∙ omega arith)

-- a list of bits, by the number that it packs to
pub bits-by_number : (size n : ℕ) (l : List Bool) → length l ≡ size → n ≡ packed l → bits size n ≡ l
bits-by_number size n l size-is n-is = ap₂ bits (sym size-is) n-is ∙ bits-packed l

-- octets that are all read
pub number_whole : (xs : List ℕ) (n : ℕ) → length xs ≤ 16 → n ≡ packed (octet_bits (take 16 xs)) → n ≡ packed (octet_bits xs)
number_whole xs n few n-is = n-is ∙ ap (λ l. packed (octet_bits l)) (take_all 16 xs few)

-- a register that octets fill
pub register_filled : (size : ℕ) (xs : List ℕ) (n : ℕ) → length xs ≤ 16 → 8 * length xs ≡ size → n ≡ packed (octet_bits (take 16 xs)) → bits size n ≡ octet_bits xs
register_filled size xs n few size-is n-is = bits-by_number size n (octet_bits xs) (length-octet_bits xs ∙ size-is) (number_whole xs n few n-is)
