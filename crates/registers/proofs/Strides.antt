-- Many clocks at once: what the strides share, over the length of the registers and the number of clocks.
use Rattle.std.proofs.Common.{◌≡◌, ℕ, zero, suc, ◌+◌, ◌-◌, ◌*◌, ◌/◌, ◌%◌, ◌^◌, ◌<◌, ◌≤◌, Bool, false, cond, T, ltb, List, [], ◌∷◌, ◌++◌, sym, refl, ap, ◌∙◌, subst, ap₂, ⊎_elim, add-zero, add-one, arith}
use Rattle.std.proofs.lemmas.Bool.{lt-ltb, le-ltb, cond-true, cond-false, cases_lt}
use Rattle.stream.specs.Bits.{bit, bits, first, packed, times}
use Rattle.stream.proofs.Packed.{first-add, first_cong, get_or-first, times-add, packed-bits}
use Rattle.registers.specs.Polynomials.{Poly, value, within}
use Rattle.registers.specs.Registers.{Registers, Shape, moved, value_at, clock, held}
use Rattle.registers.specs.Words.{window_of, word, moved_by}
use Rattle.registers.specs.declared.window.Window.{Window}
use Rattle.registers.proofs.Bit.{bit_shr, bit-mod, bit_join_low, bit_join_high}
use Rattle.registers.proofs.Masks.{moved-lt}
use Rattle.registers.proofs.Values.{value_cong, word-bit}

-- the bits of a register of so many bits, and after them those of a word
pub joined : ℕ → ℕ → ℕ → ℕ → Bool
joined size r x i = cond (ltb i size) (bit r i) (bit x (i - size))

pub joined_front : (size r x i : ℕ) → i < size → joined size r x i ≡ bit r i
unfolding joined
joined_front size r x i h = cond-true (ltb i size) _ _ (lt-ltb i size h)

pub joined_back : (size r x i : ℕ) → joined size r x (size + i) ≡ bit x i
unfolding joined
joined_back size r x i =
    cond-false (ltb (size + i) size) _ _ (le-ltb (size + i) size (omega arith)) ∙ ap (bit x) (omega arith)

abbrev pub of : List Bool → List Bool → Registers
of s b = record { linear = s; nonlinear = b }

-- a register that holds a sequence holds it from the next place on, where the new bit is the one that follows
pub moved-first : (size : ℕ) (h : ℕ → Bool) (x : Bool) → x ≡ h size → moved (first size h) x ≡ first size (λ i. h (suc i))
unfolding moved first
moved-first zero h x e = refl
moved-first (suc n) h x e =
    ap (λ y. first n (λ i. h (suc i)) ++ (y ∷ [])) (e ∙ ap (λ k. h (suc k)) (sym (add-zero n)))
    ∙ sym (first-add n 1 (λ i. h (suc i))) ∙ ap (λ k. first k (λ i. h (suc i))) (add-one n)

pub times-suc : {A : Type 0} (n : ℕ) (f : A → A) (x : A) → times (suc n) f x ≡ f (times n f x)
times-suc n f x = ap (λ k. times k f x) (sym (add-one n)) ∙ times-add n 1 f x ∙ unfold times in refl

module _ (size reach m : ℕ) (fits : reach + m ≤ size + 1) (s b x y : ℕ) (f g : Poly)
    (f-within : T (within reach f)) (g_within : T (within reach g))
    (x-is : (j : ℕ) → j < m → bit x j ≡ value (λ i. bit s (i + j)) (λ i. bit b (i + j)) f)
    (y-is : (j : ℕ) → j < m → bit y j ≡ value (λ i. bit s (i + j)) (λ i. bit b (i + j)) g) where
  -- the registers p clocks later
  abbrev pub run : ℕ → Registers
  run p = of (first size (λ i. joined size s x (i + p))) (first size (λ i. joined size b y (i + p)))

  -- within m clocks a polynomial sees the first bits alone
  pub run_value : (p : ℕ) → p < m → (q : Poly) → T (within reach q) → value_at (run p) q ≡ value (λ i. bit s (i + p)) (λ i. bit b (i + p)) q
  unfolding value_at
  run_value p h q t =
      value_cong reach _ _ _ _
      (λ i below. get_or-first size (λ k. joined size s x (k + p)) i false (omega arith) ∙ joined_front size s x (i + p) (omega arith))
      (λ i below. get_or-first size (λ k. joined size b y (k + p)) i false (omega arith) ∙ joined_front size b y (i + p) (omega arith))
      q t

  run_next : (p : ℕ) → p < m → clock f g (run p) ≡ run (suc p)
  unfolding clock
  run_next p h =
      let shift : (r w i : ℕ) → joined size r w (suc i + p) ≡ joined size r w (i + suc p) = λ r w i. ap (joined size r w) (omega arith) in
      ap₂ of
      (moved-first size (λ i. joined size s x (i + p)) _ (run_value p h f f-within ∙ sym (x-is p h) ∙ sym (joined_back size s x p))
      ∙ first_cong size _ _ (λ i _. shift s x i))
      (moved-first size (λ i. joined size b y (i + p)) _ (run_value p h g g_within ∙ sym (y-is p h) ∙ sym (joined_back size b y p))
      ∙ first_cong size _ _ (λ i _. shift b y i))

  -- p clocks, for every p up to m
  pub clocks : (p : ℕ) → p ≤ m → times p (clock f g) (held size s b) ≡ run p
  unfolding times held bits
  clocks zero h =
      ap₂ of
      (first_cong size _ _ (λ i below. sym (joined_front size s x i below) ∙ ap (joined size s x) (sym (add-zero i))))
      (first_cong size _ _ (λ i below. sym (joined_front size b y i below) ∙ ap (joined size b y) (sym (add-zero i))))
  clocks (suc p) h = times-suc p (clock f g) (held size s b) ∙ ap (clock f g) (clocks p (omega arith)) ∙ run_next p h

  -- the registers after m clocks are held by two numbers that have the bits from m on
  pub clocks_held : (u v : ℕ) → ((i : ℕ) → i < size → bit u i ≡ joined size s x (i + m)) → ((i : ℕ) → i < size → bit v i ≡ joined size b y (i + m)) → held size u v ≡ times m (clock f g) (held size s b)
  unfolding held bits
  clocks_held u v hu hv = ap₂ of (first_cong size _ _ hu) (first_cong size _ _ hv) ∙ sym (clocks m (omega arith))

  -- the outputs of m clocks are the lowest bits of the output's word
  pub outputs : (z : Poly) (w : ℕ) → T (within reach z) → ((j : ℕ) → j < m → bit w j ≡ value (λ i. bit s (i + j)) (λ i. bit b (i + j)) z) → packed (first m (λ p. value_at (times p (clock f g) (held size s b)) z)) ≡ w % 2 ^ m
  unfolding bits
  outputs z w t w-is =
      ap packed (first_cong m _ (bit w) (λ p h. ap (λ r. value_at r z) (clocks p (omega arith)) ∙ run_value p h z t ∙ sym (w-is p h)))
      ∙ packed-bits m w

-- the bits of a register that was moved down by m
moved_by-bit : (k m r x i : ℕ) → i < k + m → bit (moved_by (k + m) m r x) i ≡ joined (k + m) r x (i + m)
moved_by-bit k m r x i h =
    let size_is : k + m - m ≡ k = omega arith in
    ap (λ n. bit (x % 2 ^ m * 2 ^ n + r % 2 ^ (k + m) / 2 ^ m) i) size_is
    ∙ ⊎_elim
    (λ below. bit_join_low (x % 2 ^ m) k (r % 2 ^ (k + m) / 2 ^ m) i (moved-lt r m k) below ∙ bit_shr (r % 2 ^ (k + m)) m i
    ∙ bit-mod r (k + m) (m + i) (omega arith) ∙ sym (joined_front (k + m) r x (m + i) (omega arith)) ∙ ap (joined (k + m) r x) (omega arith))
    (λ above. let j : ℕ = i - k in
    ap (bit (x % 2 ^ m * 2 ^ k + r % 2 ^ (k + m) / 2 ^ m)) (omega arith)
    ∙ bit_join_high (x % 2 ^ m) k (r % 2 ^ (k + m) / 2 ^ m) j (moved-lt r m k) ∙ bit-mod x m j (omega arith)
    ∙ sym (joined_back (k + m) r x j) ∙ ap (joined (k + m) r x) (omega arith))
    (cases_lt i k)

-- words of the shape's polynomials, or of their sums, moved in
module _ (shape : Shape) (m : ℕ) (low : 1 ≤ m) (high : m ≤ shape.width) (s b : ℕ) (f g : Poly)
    (f-within : T (within shape.reach f)) (g_within : T (within shape.reach g)) where
  abbrev word_of : Poly → ℕ
  word_of p = word (window_of s) (window_of b) p

  word_is : (p : Poly) → T (within shape.reach p) → (j : ℕ) → j < m → bit (word_of p) j ≡ value (λ i. bit s (i + j)) (λ i. bit b (i + j)) p
  word_is p t j h = word-bit s b j shape.reach (omega (arith, shape.width_high)) shape.reach_high p t

  fits : shape.reach + m ≤ shape.size + 1
  fits = omega (arith, shape.fits)

  moved_is : (r x i : ℕ) → i < shape.size → bit (moved_by shape.size m r x) i ≡ joined shape.size r x (i + m)
  moved_is r x i h =
      let whole : shape.size - m + m ≡ shape.size = omega (arith, shape.fits, shape.reach_low) in
      let P : ℕ → Type 0 = λ n. i < n → bit (moved_by n m r x) i ≡ joined n r x (i + m) in
      subst P whole (moved_by-bit (shape.size - m) m r x i) h

  pub stepped : held shape.size (moved_by shape.size m s (word_of f)) (moved_by shape.size m b (word_of g)) ≡ times m (clock f g) (held shape.size s b)
  stepped =
      clocks_held shape.size shape.reach m fits s b (word_of f) (word_of g) f g f-within g_within (word_is f f-within) (word_is g g_within)
      _ _ (moved_is s (word_of f)) (moved_is b (word_of g))

  pub drawn : (z : Poly) → T (within shape.reach z) → word_of z % 2 ^ m ≡ packed (first m (λ p. value_at (times p (clock f g) (held shape.size s b)) z))
  drawn z t =
      sym (outputs shape.size shape.reach m fits s b (word_of f) (word_of g) f g f-within g_within (word_is f f-within) (word_is g g_within) z (word_of z) t (word_is z t))

  -- the same of what the code worked out
  pub stepped_by : (n size u v x y : ℕ) (p q : Window) → p ≡ window_of s → q ≡ window_of b → x ≡ word p q f → y ≡ word p q g → size ≡ shape.size
      → u ≡ moved_by size m s x → v ≡ moved_by size m b y → m ≡ n → held shape.size u v ≡ times n (clock f g) (held shape.size s b)
  stepped_by n size u v x y p q p-is q-is x-is y-is size_is u-is v-is n-is =
      let of_word : (r : Poly) → word p q r ≡ word_of r = λ r. ap₂ (λ k l. word k l r) p-is q-is in
      ap₂ (held shape.size)
      (u-is ∙ ap₂ (λ l k. moved_by l m s k) size_is (x-is ∙ of_word f))
      (v-is ∙ ap₂ (λ l k. moved_by l m b k) size_is (y-is ∙ of_word g))
      ∙ stepped ∙ ap (λ k. times k (clock f g) (held shape.size s b)) n-is

  pub drawn_by : (n w x : ℕ) (p q : Window) (z : Poly) → p ≡ window_of s → q ≡ window_of b → x ≡ word p q z → w ≡ x % 2 ^ m → m ≡ n → T (within shape.reach z)
      → w ≡ packed (first n (λ k. value_at (times k (clock f g) (held shape.size s b)) z))
  drawn_by n w x p q z p-is q-is x-is w-is n-is t =
      w-is ∙ ap (λ k. k % 2 ^ m) (x-is ∙ ap₂ (λ k l. word k l z) p-is q-is) ∙ drawn z t
      ∙ ap (λ k. packed (first k (λ j. value_at (times j (clock f g) (held shape.size s b)) z))) n-is

-- no clock at all
pub none_drawn : (m : ℕ) (h : ℕ → Bool) → m ≡ 0 → 0 ≡ packed (first m h)
unfolding packed first
none_drawn m h e = sym (ap (λ n. packed (first n h)) e)

pub none_moved : {A : Type 0} (m : ℕ) (f : A → A) (x : A) → m ≡ 0 → x ≡ times m f x
unfolding times
none_moved m f x e = sym (ap (λ n. times n f x) e)
