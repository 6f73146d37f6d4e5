-- What Grain-128 and Grain-128a share: registers of 128 bits, a key of 16 octets, an IV of 12, 256 initialisation clocks.
use Rattle.std.specs.Prelude.{◌≡◌, ℕ, ◌≤◌, Bool, T, List, ◌++◌, slice_set}
use Rattle.std.proofs.Common.{lit≤}
use Rattle.stream.specs.Bits.{octet_bits, times}
use Rattle.stream.specs.Ciphers.{Cipher, Bounds, OneCipher}
use Rattle.stream.specs.declared.figures.Figures.{Figures}
use Rattle.registers.specs.Polynomials.{Poly, S, ◌⊕◌, within, lone_b}
use Rattle.registers.specs.Registers.{Registers, Shape, clock, value_at}

-- the new bit of the linear register
abbrev pub linear : Poly
linear = S 0 ⊕ S 7 ⊕ S 38 ⊕ S 70 ⊕ S 81 ⊕ S 96

-- In what the ciphers of the family differ.
pub record Member : Type 0 where
  -- the new bit of the nonlinear register
  pub nonlinear : Poly
  -- the output z
  pub output : Poly
  -- what fills s96 to s127
  pub tail : List Bool
  -- whether an IV has a bit that must be 0 and is not
  pub forbids : List ℕ → Bool
  pub nonlinear_within : T (within 97 nonlinear)
  pub output_within : T (within 97 output)
  pub nonlinear_lone : T (lone_b nonlinear)
  pub forbids_free : (iv : List ℕ) (i x : ℕ) → 1 ≤ i → i ≤ 4 → forbids (slice_set iv i x) ≡ forbids iv

abbrev pub shape : Member → Shape
shape m = record {
  size = 128;
  width = 32;
  linear = linear;
  nonlinear = m.nonlinear;
  output = m.output;
  reach = 97;
  size_high = lit≤ tt;
  reach_low = lit≤ tt;
  reach_high = lit≤ tt;
  width_low = lit≤ tt;
  width_high = lit≤ tt;
  fits = lit≤ tt;
  linear_within = tt;
  nonlinear_within = m.nonlinear_within;
  output_within = m.output_within;
  linear_lone = tt;
  linear_without = tt;
  nonlinear_lone = m.nonlinear_lone;
}

-- the key fills b, the IV fills s0 to s95
abbrev pub loaded : Member → List ℕ → List ℕ → Registers
loaded m key iv = record { linear = octet_bits iv ++ m.tail; nonlinear = octet_bits key }

-- one clock
abbrev pub next : Member → Registers → Registers
next m = clock linear m.nonlinear

-- one clock of the initialisation: z is added to both new bits
abbrev pub initial : Member → Registers → Registers
initial m = clock (linear ⊕ m.output) (m.nonlinear ⊕ m.output)

abbrev pub figures : ℕ → Figures
figures stride = record { key = 16; iv = 12; label = 8; stride = stride; ceiling = 16777216 }

pub bounds : (stride : ℕ) → 1 ≤ stride → stride ≤ 32 → Bounds (figures stride)
bounds stride low high = record {
  key_low = lit≤ tt;
  key_high = lit≤ tt;
  label_low = lit≤ tt;
  label_high = lit≤ tt;
  iv_is = mathlib.Core.Path.refl;
  stride_low = low;
  stride_high = high;
  ceiling_low = lit≤ tt;
  ceiling_high = lit≤ tt;
}

-- the cipher at a stride
abbrev pub cipher : Member → (stride : ℕ) → 1 ≤ stride → stride ≤ 32 → Cipher
cipher m stride low high = record {
  State = Registers;
  next = next m;
  output = λ t. value_at t m.output;
  start = λ key iv. times 256 (initial m) (loaded m key iv);
  forbids = m.forbids;
  figures = figures stride;
  bounds = bounds stride low high;
  forbids_free = m.forbids_free;
}

-- d is the cipher c: of one cipher with it, and with the same figures, the stride too
pub record SameCipher (c d : Cipher) : Type 0 where
  pub one : OneCipher c d
  pub figures : d.figures ≡ c.figures
