-- Polynomials worked out for many clocks at once: bit j of a word is the value j clocks later.
use Rattle.std.specs.Prelude.{ℕ, zero, suc, ◌+◌, ◌-◌, ◌*◌, ◌/◌, ◌%◌, ◌^◌, Bool, true, false, cond, bit_and, bit_xor, nat_le}
use Rattle.registers.specs.Polynomials.{Poly, S, B, fixed, ◌⊕◌, ◌⊗◌}
use Rattle.registers.specs.declared.window.Window.{Window}

-- three overlapping parts of a register of up to 128 bits: bits 0 to 63, 32 to 95 and 64 to 127
unfoldable pub window_of : ℕ → Window
window_of r = record { low = r % 2 ^ 64; middle = r / 2 ^ 32 % 2 ^ 64; high = r / 2 ^ 64 % 2 ^ 64 }

-- a number shifted down
abbrev pub shifted : ℕ → ℕ → ℕ
shifted x zero = x
shifted x (suc i) = x / 2 ^ suc i

-- the bits from an index on, taken from the part that has 32 of them
abbrev pub from_index : Window → ℕ → ℕ
from_index w i = cond (nat_le i 32) (shifted w.low i) (cond (nat_le i 64) (shifted w.middle (i - 32)) (shifted w.high (i - 64)))

-- a word of one bit
abbrev pub filled : Bool → ℕ
filled true = 0xffff_ffff_ffff_ffff
filled false = 0

abbrev pub word : Window → Window → Poly → ℕ
word s b (S i) = from_index s i
word s b (B i) = from_index b i
word s b (fixed x) = filled x
word s b (p ⊕ q) = bit_xor (word s b p) (word s b q)
word s b (p ⊗ q) = bit_and (word s b p) (word s b q)

-- a register of so many bits moved down by m, with the m lowest bits of x put last
abbrev pub moved_by : ℕ → ℕ → ℕ → ℕ → ℕ
moved_by size m r x = x % 2 ^ m * 2 ^ (size - m) + r % 2 ^ size / 2 ^ m
