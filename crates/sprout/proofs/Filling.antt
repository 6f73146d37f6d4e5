-- The registers that an IV fills.
use Rattle.std.proofs.Common.{◌≡◌, ℕ, ◌+◌, ◌*◌, ◌/◌, ◌%◌, ◌^◌, ◌<◌, ◌≤◌, Bool, true, false, List, [], ◌∷◌, ◌++◌, length, get_or, take, drop, replicate, sym, ap, ◌∙◌, mod-lt, div-one, arith, length-append, length-drop, length-take, get_or-drop, get_or-take, ext_get_or, pow_pos}
use lib.Bits.{bit_and, bit_or, and_mask, or_shifted_r}
use Rattle.stream.specs.Bits.{bit, bits, packed, octet_bits}
use Rattle.stream.proofs.Packed.{length-bits, length-octet_bits, packed-append, packed-bits, bits-packed}
use Rattle.registers.proofs.Filling.{bits-by_number}
use Rattle.registers.proofs.Back.{bits_at}
use Rattle.registers.proofs.Bit.{bit_shr}

-- bit i of a packed list stands at index i
bit-packed : (xs : List Bool) (i : ℕ) → i < length xs → bit (packed xs) i ≡ get_or xs i false
bit-packed xs i h = sym (bits_at (length xs) (packed xs) i h) ∙ ap (λ l. get_or l i false) (bits-packed xs)

-- m bits from k on
part_bits : (xs : List Bool) (k m : ℕ) → k + m ≤ length xs → bits m (packed xs / 2 ^ k) ≡ take m (drop k xs)
part_bits xs k m h =
    let size : length (bits m (packed xs / 2 ^ k)) ≡ m = length-bits m (packed xs / 2 ^ k) in
    ext_get_or false (bits m (packed xs / 2 ^ k)) (take m (drop k xs)) (omega (arith, size, length-take m (drop k xs), length-drop k xs))
    (λ i below. let inside : i < m = omega arith in
    bits_at m (packed xs / 2 ^ k) i inside ∙ bit_shr (packed xs) k i ∙ bit-packed xs (k + i) (omega arith)
    ∙ sym (get_or-take m (drop k xs) i false inside ∙ get_or-drop k xs i false))

pub nonlinear-bits : (iv : List ℕ) (n : ℕ) → length iv ≡ 9 → n ≡ packed (octet_bits iv) → bits 40 n ≡ take 40 (octet_bits iv)
nonlinear-bits iv n size n-is =
    ap (bits 40) (n-is ∙ sym (div-one (packed (octet_bits iv)))) ∙ part_bits (octet_bits iv) 0 40 (omega (arith, length-octet_bits iv))

pub linear-bits : (iv : List ℕ) (n : ℕ) → length iv ≡ 9 → n ≡ packed (octet_bits iv)
    → bits 40 (bit_or (bit_and (n / 2 ^ 40) 0x3fff_ffff) (0x1ff * 2 ^ 30)) ≡ take 30 (drop 40 (octet_bits iv)) ++ (replicate 9 true ++ (false ∷ []))
unfolding packed
linear-bits iv n size n-is =
    let front : List Bool = take 30 (drop 40 (octet_bits iv)) in
    let rest : List Bool = replicate 9 true ++ (false ∷ []) in
    let long : length (octet_bits iv) ≡ 72 = omega (arith, length-octet_bits iv) in
    let front-size : length front ≡ 30 = omega (arith, length-take 30 (drop 40 (octet_bits iv)), length-drop 40 (octet_bits iv)) in
    let front-is : n / 2 ^ 40 % 2 ^ 30 ≡ packed front =
    sym (packed-bits 30 (n / 2 ^ 40)) ∙ ap packed (ap (λ m. bits 30 (m / 2 ^ 40)) n-is ∙ part_bits (octet_bits iv) 40 30 (omega arith)) in
    let low : n / 2 ^ 40 % 2 ^ 30 < 2 ^ 30 = mod-lt (n / 2 ^ 40) (pow_pos 30) in
    let number : bit_or (bit_and (n / 2 ^ 40) 0x3fff_ffff) (0x1ff * 2 ^ 30) ≡ packed (front ++ rest) =
    ap (λ m. bit_or m (0x1ff * 2 ^ 30)) (and_mask (n / 2 ^ 40) 30) ∙ or_shifted_r 0x1ff 30 (n / 2 ^ 40 % 2 ^ 30) low
    ∙ sym (packed-append front rest ∙ omega (arith, front-is, ap (λ k. 2 ^ k * packed rest) front-size)) in
    bits-by_number 40 _ (front ++ rest) (omega (arith, length-append front rest)) number
