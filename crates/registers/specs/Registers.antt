-- A linear and a nonlinear shift register of equal length, and their clock.
use Rattle.std.specs.Prelude.{ℕ, ◌+◌, ◌≤◌, Bool, false, T, List, [], ◌∷◌, ◌++◌, slice_index_or}
use Rattle.stream.specs.Bits.{bits}
use Rattle.registers.specs.declared.pair.Pair.{Pair}
use Rattle.registers.specs.Polynomials.{Poly, ◌⊕◌, value, within, without_b, lone_s, lone_b}

pub record Registers : Type 0 where
  pub linear : List Bool
  pub nonlinear : List Bool

-- every bit moves down one index, index 0 is dropped, and the new bit is put last
unfoldable pub moved : List Bool → Bool → List Bool
moved [] x = []
moved (y ∷ ys) x = ys ++ (x ∷ [])

-- the value of a polynomial at the bits that the registers hold
unfoldable pub value_at : Registers → Poly → Bool
value_at t p = value (λ i. slice_index_or t.linear i false) (λ i. slice_index_or t.nonlinear i false) p

-- one clock: f gives the new bit of the linear register, g that of the nonlinear one
unfoldable pub clock : Poly → Poly → Registers → Registers
clock f g t = record { linear = moved t.linear (value_at t f); nonlinear = moved t.nonlinear (value_at t g) }

-- the registers of so many bits that two numbers hold, index 0 in bit 0
unfoldable pub held : ℕ → ℕ → ℕ → Registers
held size s b = record { linear = bits size s; nonlinear = bits size b }

-- the registers of so many bits that a pair of numbers holds
abbrev pub held_in : ℕ → Pair → Registers
held_in size pair = held size pair.linear pair.nonlinear

-- A pair of registers with its feedbacks and its output.
pub record Shape : Type 0 where
  -- the length of each register
  pub size : ℕ
  -- how many clocks are worked out at once, at the most
  pub width : ℕ
  -- the new bit of the linear register, the new bit of the nonlinear one, and the output
  pub linear : Poly
  pub nonlinear : Poly
  pub output : Poly
  -- every index is below reach, so that no index passes a register's end within width clocks
  pub reach : ℕ
  pub size_high : size ≤ 128
  pub reach_low : 1 ≤ reach
  pub reach_high : reach ≤ 97
  pub width_low : 1 ≤ width
  pub width_high : width ≤ 32
  pub fits : reach + width ≤ size + 1
  pub linear_within : T (within reach linear)
  pub nonlinear_within : T (within reach nonlinear)
  pub output_within : T (within reach output)
  -- so that a clock can be undone
  pub linear_lone : T (lone_s linear)
  pub linear_without : T (without_b linear)
  pub nonlinear_lone : T (lone_b nonlinear)

-- the registers that a pair of numbers holds, at a shape's length
abbrev pub held_by : Shape → Pair → Registers
held_by shape pair = held_in shape.size pair

-- one clock by a shape's feedbacks
abbrev pub next_by : Shape → Registers → Registers
next_by shape = clock shape.linear shape.nonlinear

-- one clock of the initialisation: the output is added to both new bits
abbrev pub initial_by : Shape → Registers → Registers
initial_by shape = clock (shape.linear ⊕ shape.output) (shape.nonlinear ⊕ shape.output)

-- a shape's output bit
abbrev pub output_by : Shape → Registers → Bool
output_by shape t = value_at t shape.output
