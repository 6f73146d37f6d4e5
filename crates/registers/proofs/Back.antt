-- Stepping back: a clock whose feedbacks each have index 0 of their own register as a term of its own can be undone, in one way.
use Rattle.std.proofs.Common.{◌≡◌, ℕ, zero, suc, ◌+◌, ◌-◌, ◌*◌, ◌/◌, ◌%◌, ◌^◌, ◌<◌, ◌≤◌, Bool, true, false, T, List, [], ◌∷◌, ◌++◌, length, get_or, sym, refl, ap, ◌∙◌, ap₂, add-zero, add-one, one-add, arith, length-append}
use lib.Bits.{bit_xor}
use Rattle.stream.specs.Bits.{bit, bits, first, plus}
use Rattle.stream.proofs.Packed.{first-add, first_cong, get_or-first, length-bits}
use Rattle.registers.specs.Polynomials.{Poly, within, swapped, without_b, lone_s, lone_b}
use Rattle.registers.specs.Words.{window_of, word}
use Rattle.registers.specs.declared.window.Window.{Window}
use Rattle.registers.specs.Registers.{Registers, Shape, moved, value_at, clock, held}
use Rattle.registers.proofs.Bit.{bit-xor, bit_shr, bit-mod, bit-zero, bit_join_low, bit_join_high}
use Rattle.registers.proofs.Values.{value_cong, word-bit, lone_value, without_value, value-swapped}
use Rattle.registers.proofs.Strides.{of}

-- adding the same bit twice
pub plus_twice : (x v : Bool) → plus (plus v x) v ≡ x
plus_twice true true = refl
plus_twice false true = refl
plus_twice true false = refl
plus_twice false false = refl

plus_cancel : (x y v : Bool) → plus x v ≡ plus y v → x ≡ y
plus_cancel x y false e = e
plus_cancel true true true e = refl
plus_cancel false false true e = refl
plus_cancel true false true e = sym e
plus_cancel false true true e = sym e

-- index 0 of each register in the values of the two feedbacks
pub linear-first : (f : Poly) → T (lone_s f) → T (without_b f) → (x y : Bool) (s b : List Bool) → value_at (of (x ∷ s) (y ∷ b)) f ≡ plus x (value_at (of (false ∷ s) (false ∷ b)) f)
unfolding value_at
linear-first f alone without x y s b =
    let bits_of : List Bool → ℕ → Bool = λ l i. get_or l i false in
    lone_value (bits_of (x ∷ s)) (bits_of (false ∷ s)) (bits_of (y ∷ b)) (λ i. refl) refl f alone
    ∙ ap (plus x)
    (sym (value-swapped (bits_of (y ∷ b)) (bits_of (false ∷ s)) f)
    ∙ without_value (bits_of (y ∷ b)) (bits_of (false ∷ b)) (bits_of (false ∷ s)) (λ i. refl) (swapped f) without
    ∙ value-swapped (bits_of (false ∷ b)) (bits_of (false ∷ s)) f)

pub nonlinear-first : (g : Poly) → T (lone_b g) → (y : Bool) (s b : List Bool) → value_at (of s (y ∷ b)) g ≡ plus y (value_at (of s (false ∷ b)) g)
unfolding value_at
nonlinear-first g alone y s b =
    let bits_of : List Bool → ℕ → Bool = λ l i. get_or l i false in
    sym (value-swapped (bits_of (y ∷ b)) (bits_of s) g)
    ∙ lone_value (bits_of (y ∷ b)) (bits_of (false ∷ b)) (bits_of s) (λ i. refl) refl (swapped g) alone
    ∙ ap (plus y) (value-swapped (bits_of (false ∷ b)) (bits_of s) g)

abbrev head_or : Bool → List Bool → Bool
head_or d [] = d
head_or d (x ∷ xs) = x

abbrev tail_of : List Bool → List Bool
tail_of [] = []
tail_of (x ∷ xs) = xs

-- a last element and what stands before it
last_same : (s u : List Bool) (x y : Bool) → s ++ (x ∷ []) ≡ u ++ (y ∷ []) → (s ≡ u) × (x ≡ y)
last_same [] [] x y e = (refl, ap (head_or x) e)
last_same [] (c ∷ u) x y e = absurd (omega (arith, ap length e, length-append u (y ∷ [])))
last_same (a ∷ s) [] x y e = absurd (omega (arith, ap length e, length-append s (x ∷ [])))
last_same (a ∷ s) (c ∷ u) x y e =
    let r = last_same s u x y (ap tail_of e) in
    (ap₂ ◌∷◌ (ap (head_or a) e) r.0, r.1)

module _ (f g : Poly) (f-alone : T (lone_s f)) (f-without : T (without_b f)) (g-alone : T (lone_b g)) where
  -- two registers with the same next ones are the same
  clock_injective : (x y a c : Bool) (s b u v : List Bool) → clock f g (of (x ∷ s) (y ∷ b)) ≡ clock f g (of (a ∷ u) (c ∷ v)) → of (x ∷ s) (y ∷ b) ≡ of (a ∷ u) (c ∷ v)
  unfolding clock moved
  clock_injective x y a c s b u v e =
      let front = last_same s u _ _ (ap (λ t. t.linear) e) in
      let back = last_same b v _ _ (ap (λ t. t.nonlinear) e) in
      let x-is : x ≡ a =
      plus_cancel x a (value_at (of (false ∷ s) (false ∷ b)) f)
      (sym (linear-first f f-alone f-without x y s b) ∙ front.1 ∙ linear-first f f-alone f-without a c u v
      ∙ ap₂ (λ k l. plus a (value_at (of (false ∷ k) (false ∷ l)) f)) (sym front.0) (sym back.0)) in
      let s-is : x ∷ s ≡ a ∷ u = ap₂ ◌∷◌ x-is front.0 in
      let y-is : y ≡ c =
      plus_cancel y c (value_at (of (x ∷ s) (false ∷ b)) g)
      (sym (nonlinear-first g g-alone y (x ∷ s) b) ∙ back.1 ∙ nonlinear-first g g-alone c (a ∷ u) v
      ∙ ap₂ (λ k l. plus c (value_at (of k (false ∷ l)) g)) (sym s-is) (sym back.0)) in
      ap₂ of s-is (ap₂ ◌∷◌ y-is back.0)

  length_moved : (l : List Bool) (x : Bool) → length (moved l x) ≡ length l
  unfolding moved
  length_moved [] x = refl
  length_moved (y ∷ ys) x = omega (arith, length-append ys (x ∷ []))

  before : (s b p q : List Bool) → 0 < length s → 0 < length b → clock f g (of p q) ≡ clock f g (of s b) → of p q ≡ of s b
  unfolding clock
  before [] b p q hs hb e = absurd (omega arith)
  before (x ∷ s) [] p q hs hb e = absurd (omega arith)
  before (x ∷ s) (y ∷ b) [] q hs hb e =
      let same = ap (λ t. length t.linear) e in
      absurd (omega (arith, length_moved [] (value_at (of [] q) f), length_moved (x ∷ s) (value_at (of (x ∷ s) (y ∷ b)) f)))
  before (x ∷ s) (y ∷ b) (a ∷ p) [] hs hb e =
      let same = ap (λ t. length t.nonlinear) e in
      absurd (omega (arith, length_moved [] (value_at (of (a ∷ p) []) g), length_moved (y ∷ b) (value_at (of (x ∷ s) (y ∷ b)) g)))
  before (x ∷ s) (y ∷ b) (a ∷ p) (c ∷ q) hs hb e = clock_injective a c x y p q s b e

  -- registers of at least one bit have one predecessor at most
  pub one_before : (size u v : ℕ) → 0 < size → (t : Registers) → clock f g t ≡ clock f g (held size u v) → held size u v ≡ t
  unfolding held
  one_before size u v h t e =
      sym (before (bits size u) (bits size v) t.linear t.nonlinear (omega (arith, length-bits size u)) (omega (arith, length-bits size v)) e)

  front_bits : (k s u : ℕ) → ((i : ℕ) → i < k → bit u (suc i) ≡ bit s i) → bits (suc k) u ≡ bit u 0 ∷ bits k s
  unfolding bits first
  front_bits k s u same = ap (λ l. bit u 0 ∷ l) (first_cong k _ _ same)

  last_bit : (k s : ℕ) → bits k s ++ (bit s k ∷ []) ≡ bits (suc k) s
  unfolding bits first
  last_bit k s =
      ap (λ i. first k (bit s) ++ (bit s i ∷ [])) (sym (add-zero k)) ∙ sym (first-add k 1 (bit s)) ∙ ap (λ n. first n (bit s)) (add-one k)

  -- the registers moved up by one, with the bits in front that the feedbacks lost, are clocked to those found
  pub undone : (k s b u v : ℕ) → ((i : ℕ) → i < k → bit u (suc i) ≡ bit s i) → ((i : ℕ) → i < k → bit v (suc i) ≡ bit b i)
      → bit u 0 ≡ plus (value_at (of (false ∷ bits k s) (false ∷ bits k b)) f) (bit s k)
      → bit v 0 ≡ plus (value_at (of (bits (suc k) u) (false ∷ bits k b)) g) (bit b k)
      → clock f g (held (suc k) u v) ≡ held (suc k) s b
  unfolding clock held moved
  undone k s b u v hu hv u-is v-is =
      let s-front = front_bits k s u hu in
      let b-front = front_bits k b v hv in
      let f-is : value_at (of (bit u 0 ∷ bits k s) (bit v 0 ∷ bits k b)) f ≡ bit s k =
      linear-first f f-alone f-without (bit u 0) (bit v 0) (bits k s) (bits k b)
      ∙ ap (λ x. plus x (value_at (of (false ∷ bits k s) (false ∷ bits k b)) f)) u-is
      ∙ plus_twice (bit s k) (value_at (of (false ∷ bits k s) (false ∷ bits k b)) f) in
      let g-is : value_at (of (bits (suc k) u) (bit v 0 ∷ bits k b)) g ≡ bit b k =
      nonlinear-first g g-alone (bit v 0) (bits (suc k) u) (bits k b)
      ∙ ap (λ x. plus x (value_at (of (bits (suc k) u) (false ∷ bits k b)) g)) v-is
      ∙ plus_twice (bit b k) (value_at (of (bits (suc k) u) (false ∷ bits k b)) g) in
      ap₂ (λ l r. clock f g (of l r)) s-front b-front
      ∙ ap₂ of
      (ap (λ x. bits k s ++ (x ∷ [])) f-is ∙ last_bit k s)
      (ap (λ x. bits k b ++ (x ∷ [])) (ap (λ l. value_at (of l (bit v 0 ∷ bits k b)) g) (sym s-front) ∙ g-is) ∙ last_bit k b)

pub bits_at : (n r i : ℕ) → i < n → get_or (bits n r) i false ≡ bit r i
unfolding bits
bits_at n r i h = get_or-first n (bit r) i false h

-- the lowest bit of a polynomial's word is its value at registers that the two numbers hold
word_lowest : (reach size u v : ℕ) (s b : List Bool) → reach ≤ size → reach ≤ 97 → ((i : ℕ) → i < size → bit u i ≡ get_or s i false) → ((i : ℕ) → i < size → bit v i ≡ get_or b i false)
    → (p : Poly) → T (within reach p) → bit (word (window_of u) (window_of v) p) 0 ≡ value_at (of s b) p
unfolding value_at
word_lowest reach size u v s b h top hs hb p t =
    word-bit u v 0 reach (omega arith) top p t
    ∙ value_cong reach _ _ _ _
    (λ i below. ap (bit u) (add-zero i) ∙ hs i (omega arith))
    (λ i below. ap (bit v) (add-zero i) ∙ hb i (omega arith)) p t

moved_up_first : (r x : ℕ) → bit (r % 2 ^ 127 * 2 + x % 2) 0 ≡ bit x 0
moved_up_first r x = bit_join_low (r % 2 ^ 127) 1 (x % 2) 0 (omega arith) (omega arith) ∙ bit-mod x 1 0 (omega arith)

moved_up_rest : (r x i : ℕ) → i < 127 → bit (r % 2 ^ 127 * 2 + x % 2) (suc i) ≡ bit r i
moved_up_rest r x i h =
    ap (bit (r % 2 ^ 127 * 2 + x % 2)) (sym (one-add i)) ∙ bit_join_high (r % 2 ^ 127) 1 (x % 2) i (omega arith) ∙ bit-mod r 127 i h

-- a register moved up with a 0 in front
moved_up_bits : (k r i : ℕ) → k ≤ 127 → i < suc k → bit (r % 2 ^ 127 * 2 + 0 % 2) i ≡ get_or (false ∷ bits k r) i false
moved_up_bits k r zero h below = moved_up_first r 0 ∙ bit-zero 0
moved_up_bits k r (suc i) h below = moved_up_rest r 0 i (omega arith) ∙ sym (bits_at k r i (omega arith))

-- the bit that a feedback lost
lost_bit : (w r k : ℕ) → bit (bit_xor w (r / 2 ^ k % 2)) 0 ≡ plus (bit w 0) (bit r k)
lost_bit w r k =
    bit-xor w (r / 2 ^ k % 2) 0 ∙ ap (plus (bit w 0)) (bit-mod (r / 2 ^ k) 1 0 (omega arith) ∙ bit_shr r k 0 ∙ ap (bit r) (add-zero k))

module _ (shape : Shape) (s b : ℕ) where
  abbrev up : ℕ → ℕ → ℕ
  up r x = r % 2 ^ 127 * 2 + x % 2

  -- what the code works out: the registers before a clock
  pub undone_by : (k x y : ℕ) → shape.size ≡ suc k
      → x ≡ bit_xor (word (window_of (up s 0)) (window_of (up b 0)) shape.linear) (s / 2 ^ k % 2)
      → y ≡ bit_xor (word (window_of (up s x)) (window_of (up b 0)) shape.nonlinear) (b / 2 ^ k % 2)
      → clock shape.linear shape.nonlinear (held (suc k) (up s x) (up b y)) ≡ held (suc k) s b
  undone_by k x y size_is x-is y-is =
      let top : k ≤ 127 = omega (arith, shape.size_high) in
      let reach : shape.reach ≤ suc k = omega (arith, shape.fits, shape.width_low) in
      undone shape.linear shape.nonlinear shape.linear_lone shape.linear_without shape.nonlinear_lone k s b (up s x) (up b y)
      (λ i below. moved_up_rest s x i (omega arith)) (λ i below. moved_up_rest b y i (omega arith))
      (moved_up_first s x ∙ ap (λ n. bit n 0) x-is ∙ lost_bit _ s k
      ∙ ap (λ t. plus t (bit s k))
      (word_lowest shape.reach (suc k) (up s 0) (up b 0) (false ∷ bits k s) (false ∷ bits k b) reach shape.reach_high
      (λ i below. moved_up_bits k s i top below) (λ i below. moved_up_bits k b i top below) shape.linear shape.linear_within))
      (moved_up_first b y ∙ ap (λ n. bit n 0) y-is ∙ lost_bit _ b k
      ∙ ap (λ t. plus t (bit b k))
      (word_lowest shape.reach (suc k) (up s x) (up b 0) (bits (suc k) (up s x)) (false ∷ bits k b) reach shape.reach_high
      (λ i below. sym (bits_at (suc k) (up s x) i below)) (λ i below. moved_up_bits k b i top below) shape.nonlinear shape.nonlinear_within))

  -- the same of the code's own steps
  pub undone_steps : (size k u v x y a d s₀ b₀ : ℕ) (p q r : Window) → size ≡ shape.size → k ≡ size - 1
      → s₀ ≡ up s 0 → p ≡ window_of s₀ → b₀ ≡ up b 0 → q ≡ window_of b₀ → x ≡ word p q shape.linear → a ≡ s / 2 ^ k % 2 → u ≡ up s (bit_xor x a)
      → r ≡ window_of u → y ≡ word r q shape.nonlinear → d ≡ b / 2 ^ k % 2 → v ≡ up b (bit_xor y d)
      → clock shape.linear shape.nonlinear (held shape.size u v) ≡ held shape.size s b
  undone_steps size k u v x y a d s₀ b₀ p q r size_is k-is s₀-is p-is b₀-is q-is x-is a-is u-is r-is y-is d-is v-is =
      let whole : shape.size ≡ suc k = omega (arith, shape.fits, shape.reach_low, shape.width_low) in
      let first-window : p ≡ window_of (up s 0) = p-is ∙ ap window_of s₀-is in
      let second-window : q ≡ window_of (up b 0) = q-is ∙ ap window_of b₀-is in
      let x-lost : bit_xor x a ≡ bit_xor (word (window_of (up s 0)) (window_of (up b 0)) shape.linear) (s / 2 ^ k % 2) =
      ap₂ bit_xor (x-is ∙ ap₂ (λ l m. word l m shape.linear) first-window second-window) a-is in
      let y-lost : bit_xor y d ≡ bit_xor (word (window_of (up s (bit_xor x a))) (window_of (up b 0)) shape.nonlinear) (b / 2 ^ k % 2) =
      ap₂ bit_xor (y-is ∙ ap₂ (λ l m. word l m shape.nonlinear) (r-is ∙ ap window_of u-is) second-window) d-is in
      let at_size : (n : ℕ) → shape.size ≡ n → clock shape.linear shape.nonlinear (held n (up s (bit_xor x a)) (up b (bit_xor y d))) ≡ held n s b
      → clock shape.linear shape.nonlinear (held shape.size u v) ≡ held shape.size s b =
      λ n e h. ap₂ (λ l m. clock shape.linear shape.nonlinear (held shape.size l m)) u-is v-is
      ∙ ap (λ l. clock shape.linear shape.nonlinear (held l (up s (bit_xor x a)) (up b (bit_xor y d)))) e ∙ h ∙ ap (λ l. held l s b) (sym e) in
      at_size (suc k) whole (undone_by k (bit_xor x a) (bit_xor y d) whole x-lost y-lost)

  -- and there is no other state before
  pub undone_alone : (u v : ℕ) → clock shape.linear shape.nonlinear (held shape.size u v) ≡ held shape.size s b
      → (t : Registers) → clock shape.linear shape.nonlinear t ≡ held shape.size s b → held shape.size u v ≡ t
  undone_alone u v found t e =
      one_before shape.linear shape.nonlinear shape.linear_lone shape.linear_without shape.nonlinear_lone shape.size u v
      (omega (arith, shape.fits, shape.reach_low, shape.width_low)) t (e ∙ sym found)
