-- Sprout: registers of 40 bits, a key of 10 octets that stays in use, an IV of 9, a counter of the clocks modulo 80.
use Rattle.std.specs.Prelude.{◌≡◌, ℕ, ◌+◌, ◌≤◌, Bool, true, false, cond, ◌||◌, T, List, [], ◌∷◌, ◌++◌, take, drop, replicate, ◌==◌, slice_index_or, slice_set, refl}
use Rattle.std.proofs.Common.{ap, arith, lit≤, get_or-set_other}
use Rattle.stream.specs.Bits.{bit, bits, octet_bits, octets_bit, times}
use Rattle.stream.specs.Ciphers.{Cipher, Bounds}
use Rattle.stream.specs.declared.figures.Figures.{Figures}
use Rattle.registers.specs.Polynomials.{Poly, S, B, fixed, ◌⊕◌, ◌⊗◌, within, lone_b}
use Rattle.registers.specs.Registers.{Registers, Shape, clock, held_in, value_at}
use Rattle.sprout.specs.declared.engine.Sprout.{Sprout}

-- the new bit of the linear register
abbrev pub linear : Poly
linear = S 0 ⊕ S 5 ⊕ S 15 ⊕ S 20 ⊕ S 25 ⊕ S 34

-- the new bit of the nonlinear register, by the round key and bit 4 of the counter
abbrev pub nonlinear : Poly → Bool → Poly
nonlinear round_key counter-bit =
    round_key ⊕ S 0 ⊕ fixed counter-bit ⊕ B 0 ⊕ B 13 ⊕ B 19 ⊕ B 35 ⊕ B 39
    ⊕ B 2 ⊗ B 25 ⊕ B 3 ⊗ B 5 ⊕ B 7 ⊗ B 8 ⊕ B 14 ⊗ B 21 ⊕ B 16 ⊗ B 18 ⊕ B 22 ⊗ B 24 ⊕ B 26 ⊗ B 32
    ⊕ B 33 ⊗ B 36 ⊗ B 37 ⊗ B 38 ⊕ B 10 ⊗ B 11 ⊗ B 12 ⊕ B 27 ⊗ B 30 ⊗ B 31

-- the round key by a bit of the key: in the first 80 clocks that bit, later its product with a sum of register bits
abbrev pub round_key : Bool → Bool → Poly
round_key true key-bit = fixed key-bit
round_key false key-bit = fixed key-bit ⊗ (S 4 ⊕ S 21 ⊕ S 37 ⊕ B 9 ⊕ B 20 ⊕ B 29)

-- the output z
abbrev pub output : Poly
output =
    B 1 ⊕ B 6 ⊕ B 15 ⊕ B 17 ⊕ B 23 ⊕ B 28 ⊕ B 34 ⊕ S 30
    ⊕ B 4 ⊗ S 6 ⊕ S 8 ⊗ S 10 ⊕ S 32 ⊗ S 17 ⊕ S 19 ⊗ S 23 ⊕ B 4 ⊗ S 32 ⊗ B 38

-- The registers, the bits of the key, and the counter.
pub record SproutState : Type 0 where
  pub registers : Registers
  pub key : List Bool
  pub counter : ℕ

-- the counter one clock later
abbrev pub counted : ℕ → ℕ
counted c = cond (c == 79) 0 (c + 1)

-- the new bit of the nonlinear register in a state; early says that it is one of the first 80 clocks
abbrev pub feedback : Bool → SproutState → Poly
feedback early t = nonlinear (round_key early (slice_index_or t.key t.counter false)) (bit t.counter 4)

-- one clock
abbrev pub next : SproutState → SproutState
next t = record {
  registers = clock linear (feedback false t) t.registers;
  key = t.key;
  counter = counted t.counter;
}

-- one clock of the initialisation: z is added to both new bits
abbrev pub initial : Bool → SproutState → SproutState
initial early t = record {
  registers = clock (linear ⊕ output) (feedback early t ⊕ output) t.registers;
  key = t.key;
  counter = counted t.counter;
}

-- IV bits 0 to 39 fill b, IV bits 40 to 69 fill s0 to s29, s30 to s38 are ones, s39 is zero
abbrev pub loaded : List ℕ → List ℕ → SproutState
loaded key iv = record {
  registers = record {
    linear = take 30 (drop 40 (octet_bits iv)) ++ (replicate 9 true ++ (false ∷ []));
    nonlinear = take 40 (octet_bits iv);
  };
  key = octet_bits key;
  counter = 0;
}

-- 320 initialisation clocks
abbrev pub start : List ℕ → List ℕ → SproutState
start key iv = times 240 (initial false) (times 80 (initial true) (loaded key iv))

-- IV bits 70 and 71 must be 0
abbrev pub forbids : List ℕ → Bool
forbids iv = octets_bit iv 70 || octets_bit iv 71

-- they lie in octet 8
pub forbids_free : (iv : List ℕ) (i x : ℕ) → 1 ≤ i → i ≤ 4 → forbids (slice_set iv i x) ≡ forbids iv
forbids_free iv i x low high = ap (λ octet. bit octet 6 || bit octet 7) (get_or-set_other iv i 8 x 0 (omega arith))

abbrev pub figures : Figures
figures = record { key = 10; iv = 9; label = 5; stride = 1; ceiling = 131072 }

pub bounds : Bounds figures
bounds = record {
  key_low = lit≤ tt;
  key_high = lit≤ tt;
  label_low = lit≤ tt;
  label_high = lit≤ tt;
  iv_is = refl;
  stride_low = lit≤ tt;
  stride_high = lit≤ tt;
  ceiling_low = lit≤ tt;
  ceiling_high = lit≤ tt;
}

abbrev pub sprout : Cipher
sprout = record {
  State = SproutState;
  next = next;
  output = λ t. value_at t.registers output;
  start = start;
  forbids = forbids;
  figures = figures;
  bounds = bounds;
  forbids_free = forbids_free;
}

-- The registers at one clock, as a shape that is clocked once.

pub early_within : (early key-bit counter-bit : Bool) → T (within 40 (nonlinear (round_key early key-bit) counter-bit))
early_within true key-bit counter-bit = tt
early_within false key-bit counter-bit = tt

pub early_lone : (early key-bit counter-bit : Bool) → T (lone_b (nonlinear (round_key early key-bit) counter-bit))
early_lone true key-bit counter-bit = tt
early_lone false key-bit counter-bit = tt

abbrev pub shape : Bool → Bool → Bool → Shape
shape early key-bit counter-bit = record {
  size = 40;
  width = 1;
  linear = linear;
  nonlinear = nonlinear (round_key early key-bit) counter-bit;
  output = output;
  reach = 40;
  size_high = lit≤ tt;
  reach_low = lit≤ tt;
  reach_high = lit≤ tt;
  width_low = lit≤ tt;
  width_high = lit≤ tt;
  fits = lit≤ tt;
  linear_within = tt;
  nonlinear_within = early_within early key-bit counter-bit;
  output_within = tt;
  linear_lone = tt;
  linear_without = tt;
  nonlinear_lone = early_lone early key-bit counter-bit;
}

-- the state that an engine's numbers stand for
abbrev pub state_of : Sprout → SproutState
state_of engine = record { registers = held_in 40 engine.pair; key = bits 80 engine.key; counter = engine.counter }
