-- Masks and shifts as the code writes them.
use Rattle.std.proofs.Common.{◌≡◌, ℕ, ◌+◌, ◌*◌, ◌/◌, ◌%◌, ◌^◌, ◌<◌, ◌≤◌, ap, ◌∙◌, ap₂, mod-lt, arith, pow_pos, shl_exact, shr_lt}
use lib.Bits.{bit_and, bit_or, and_mask, or_shifted, or_shifted_r}

-- a low part, and above it m bits that fit a word of w
pub stacked : (lo x m k w : ℕ) → lo < 2 ^ k → m + k ≤ w → bit_or lo ((x % 2 ^ m * 2 ^ k) % 2 ^ w) ≡ x % 2 ^ m * 2 ^ k + lo
stacked lo x m k w h fits =
    ap (bit_or lo) (shl_exact m k w (mod-lt x (pow_pos m)) fits) ∙ or_shifted_r (x % 2 ^ m) k lo h

-- what is left of size bits moved down by m
pub moved-lt : (r m k : ℕ) → r % 2 ^ (k + m) / 2 ^ m < 2 ^ k
moved-lt r m k = shr_lt k m (mod-lt r (pow_pos (k + m)))

-- a number doubled in 128 bits, with a bit in front
pub doubled : (r x : ℕ) → bit_or ((r * 2) % 2 ^ 128) (bit_and x 1) ≡ r % 2 ^ 127 * 2 + x % 2
doubled r x =
    let top : (r * 2) % 2 ^ 128 ≡ r % 2 ^ 127 * 2 ^ 1 = omega arith in
    let low : bit_and x 1 ≡ x % 2 = and_mask x 1 in
    ap₂ bit_or top low ∙ or_shifted (r % 2 ^ 127) 1 (x % 2) (omega arith)
