-- The linear register that an IV and a tail fill.
use Rattle.std.proofs.Common.{◌≡◌, ℕ, ◌*◌, ◌%◌, ◌^◌, ◌<◌, Bool, List, ◌++◌, length, take, sym, ap, ◌∙◌, subst, arith, length-append, shl_exact}
use lib.Bits.{bit_or, or_shifted_r}
use Rattle.stream.specs.Bits.{bits, packed, octet_bits}
use Rattle.registers.proofs.Filling.{bits-by_number, number_whole}
use Rattle.stream.proofs.Packed.{length-bits, length-octet_bits, packed-append, packed-bits, packed_lt}

pub iv-filled : (iv : List ℕ) (tail n : ℕ) (rest : List Bool) → length iv ≡ 12 → tail < 2 ^ 32 → bits 32 tail ≡ rest → n ≡ packed (octet_bits (take 16 iv))
    → bits 128 (bit_or n ((tail * 2 ^ 96) % 2 ^ 128)) ≡ octet_bits iv ++ rest
iv-filled iv tail n rest size fits rest-is n-is =
    let front : List Bool = octet_bits iv in
    let front-size : length front ≡ 96 = omega (arith, length-octet_bits iv) in
    let rest-size : length rest ≡ 32 = ap length (sym rest-is) ∙ length-bits 32 tail in
    let tail-is : tail ≡ packed rest = omega (arith, packed-bits 32 tail, ap packed rest-is) in
    let n-front : n ≡ packed front = number_whole iv n (omega arith) n-is in
    let below : n < 2 ^ 96 = subst (λ k. n < 2 ^ k) front-size (subst (λ m. m < 2 ^ length front) (sym n-front) (packed_lt front)) in
    bits-by_number 128 _ (front ++ rest) (omega (arith, length-append front rest))
    (ap (bit_or n) (shl_exact 32 96 128 fits (omega arith)) ∙ or_shifted_r tail 96 n below
    ∙ omega (arith, packed-append front rest, ap (λ k. 2 ^ k * packed rest) front-size))
