-- One clock forward and back, by the taps that the code has made.
use Rattle.std.proofs.Common.{◌≡◌, ℕ, ◌+◌, ◌<◌, Bool, false, eqb, List, get_or, sym, ap, ◌∙◌, ap₂, arith}
use Rattle.std.proofs.lemmas.Bool.{eqb-true, cond_both}
use Rattle.stream.specs.Bits.{bit, first, packed, times}
use Rattle.stream.specs.Ciphers.{later, stream}
use Rattle.registers.specs.Polynomials.{Poly}
use Rattle.registers.specs.Registers.{Registers, clock, value_at}
use Rattle.sprout.specs.Sprout.{SproutState, sprout, next, counted, feedback, linear, nonlinear, round_key, output}

-- the taps are those of the definition
pub same-feedback : (e early k key-bit b counter-bit : Bool) → e ≡ early → k ≡ key-bit → b ≡ counter-bit
    → nonlinear (round_key e k) b ≡ nonlinear (round_key early key-bit) counter-bit
same-feedback e early k key-bit b counter-bit e-is k-is b-is = ap₂ nonlinear (ap₂ round_key e-is k-is) b-is

-- one clock is one
pub once : (f : Registers → Registers) (t u : Registers) → u ≡ times 1 f t → u ≡ f t
unfolding times
once f t u e = e

-- a state by its parts
pub parts_same : (r u : Registers) (k : List Bool) (m n : ℕ) → r ≡ u → m ≡ n
    → ◌≡◌ {A = SproutState} (record { registers = r; key = k; counter = m }) (record { registers = u; key = k; counter = n })
parts_same r u k m n r-is m-is = λ i. record { registers = r-is i; key = k; counter = m-is i }

-- one bit drawn
pub one_drawn : (t : SproutState) (g : Poly) (m x : ℕ) → m ≡ 1 → x ≡ packed (first 1 (λ p. value_at (times p (clock linear g) t.registers) output)) → x ≡ packed (stream sprout m t)
unfolding first times
one_drawn t g m x one e = e ∙ sym (ap (λ k. packed (stream sprout k t)) one)

pub one-moved : (t u : SproutState) (m : ℕ) → m ≡ 1 → u ≡ next t → u ≡ later sprout m t
unfolding times
one-moved t u m one e = e ∙ sym (ap (λ k. later sprout k t) one)

-- the counter goes back in one way
counted_alone : (m n : ℕ) → n < 80 → counted m ≡ counted n → m ≡ n
counted_alone m n h e =
    cond_both (eqb m 79) 0 (m + 1) (λ x. x ≡ counted n → m ≡ n)
    (λ m-last. cond_both (eqb n 79) 0 (n + 1) (λ x. 0 ≡ x → m ≡ n)
    (λ n-last f. eqb-true m 79 m-last ∙ sym (eqb-true n 79 n-last)) (λ n-not f. absurd (omega arith)))
    (λ m-not. cond_both (eqb n 79) 0 (n + 1) (λ x. m + 1 ≡ x → m ≡ n)
    (λ n-last f. absurd (omega arith)) (λ n-not f. omega arith))
    e

-- a state with the same next state as one whose registers have no other state before them
pub state_alone : (t u : SproutState) → u.counter < 80
    → ((r : Registers) → clock linear (feedback false u) r ≡ clock linear (feedback false u) u.registers → u.registers ≡ r)
    → next t ≡ next u → u ≡ t
state_alone t u h alone e =
    let key_is : t.key ≡ u.key = ap (λ s. s.key) e in
    let counter-is : t.counter ≡ u.counter = counted_alone t.counter u.counter h (ap (λ s. s.counter) e) in
    let taps-are : feedback false u ≡ feedback false t =
    ap₂ (λ k n. nonlinear (round_key false (get_or k n false)) (bit n 4)) (sym key_is) (sym counter-is) in
    let registers-are : u.registers ≡ t.registers =
    alone t.registers (ap (λ g. clock linear g t.registers) taps-are ∙ ap (λ s. s.registers) e) in
    λ i. record { registers = registers-are i; key = sym key_is i; counter = sym counter-is i }

-- the state before another, found by its registers and its counter
pub state-before : (t u : SproutState) (g : Poly) → g ≡ feedback false u → u.key ≡ t.key → counted u.counter ≡ t.counter → u.counter < 80
    → clock linear g u.registers ≡ t.registers → ((r : Registers) → clock linear g r ≡ t.registers → u.registers ≡ r)
    → ((s : SproutState) → next s ≡ t → u ≡ s) × (next u ≡ t)
state-before t u g g-is key_is counter-is h found alone =
    let clocked : (r : Registers) → clock linear g r ≡ clock linear (feedback false u) r = λ r. ap (λ p. clock linear p r) g-is in
    let next-is : next u ≡ t = λ i. record { registers = (sym (clocked u.registers) ∙ found) i; key = key_is i; counter = counter-is i } in
    (λ s e. state_alone s u h (λ r same. alone r (clocked r ∙ same ∙ sym (clocked u.registers) ∙ found)) (e ∙ sym next-is), next-is)
