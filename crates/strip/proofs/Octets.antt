-- Facts about single octets.
use Rattle.std.proofs.Common.{◌≡◌, ℕ, zero, suc, ◌+◌, ◌-◌, ◌<◌, Bool, true, false, ◌&&◌, ◌||◌, eqb, leb, List, [], ◌∷◌, length, sym, refl, ap, ◌∙◌, ⊎_elim, arith}
use lib.Bits.{bit_and}
use lib.Count as count
use Rattle.std.proofs.lemmas.Bool.{and_parts, or_cases, eqb-true, leb-true, cases_eq}
use Rattle.stream.specs.Bits.{bit, bits, first, packed}
use Rattle.stream.proofs.Packed.{length-bits, bits-packed}
use Rattle.strip.specs.Strips.{ones, zeros, first_cleared, lowered}

-- a test passes at every number below n
abbrev below : ℕ → (ℕ → Bool) → Bool
below zero test = true
below (suc n) test = test n && below n test

at : (n : ℕ) (test : ℕ → Bool) (x : ℕ) → below n test ≡ true → x < n → test x ≡ true
at zero test x all h = absurd (omega arith)
at (suc n) test x all h =
    let parts = and_parts (test n) (below n test) all in
    ⊎_elim (λ e. ap test e ∙ parts.0) (λ ne. at n test x parts.1 (omega arith)) (cases_eq x n)

-- the counts and the bit operations of the code mean the bits of an octet
abbrev agrees : ℕ → Bool
agrees x =
    eqb (count.ones x) (ones (bits 8 x)) && eqb (count.ones (255 - x)) (zeros (bits 8 x)) && eqb (bit_and x (x - 1)) (lowered x)
    && (eqb x 0 || leb 1 (ones (bits 8 x)))

every_octet : below 256 agrees ≡ true
unfolding ones zeros lowered first_cleared bits bit first packed count.ones
every_octet = refl

pub ones_of : (x : ℕ) → x < 256 → count.ones x ≡ ones (bits 8 x)
ones_of x h = eqb-true _ _ (and_parts _ _ (and_parts _ _ (and_parts _ _ (at 256 agrees x every_octet h)).0).0).0

pub zeros_of : (x : ℕ) → x < 256 → count.ones (255 - x) ≡ zeros (bits 8 x)
zeros_of x h = eqb-true _ _ (and_parts _ _ (and_parts _ _ (and_parts _ _ (at 256 agrees x every_octet h)).0).0).1

-- an octet and one less, bit by bit
pub lowest_cleared : (x : ℕ) → x < 256 → bit_and x (x - 1) ≡ lowered x
lowest_cleared x h = eqb-true _ _ (and_parts _ _ (and_parts _ _ (at 256 agrees x every_octet h)).0).1

-- an octet that is not 0 has a one bit
pub some_one : (x : ℕ) → x < 256 → 0 < x → 0 < ones (bits 8 x)
some_one x h pos =
    ⊎_elim (λ e. absurd (omega (arith, eqb-true x 0 e))) (λ t. leb-true 1 (ones (bits 8 x)) t)
    (or_cases (eqb x 0) (leb 1 (ones (bits 8 x))) (and_parts _ _ (at 256 agrees x every_octet h)).1)

pub no_one : ones (bits 8 0) ≡ 0
unfolding ones bits bit first
no_one = refl

first_cleared-length : (xs : List Bool) → length (first_cleared xs) ≡ length xs
unfolding first_cleared
first_cleared-length [] = refl
first_cleared-length (true ∷ xs) = refl
first_cleared-length (false ∷ xs) = ap suc (first_cleared-length xs)

-- the bits of a lowered octet
bits-lowered : (x : ℕ) → bits 8 (lowered x) ≡ first_cleared (bits 8 x)
unfolding lowered
bits-lowered x =
    let size : length (first_cleared (bits 8 x)) ≡ 8 = first_cleared-length (bits 8 x) ∙ length-bits 8 x in
    ap (λ n. bits n (lowered x)) (sym size) ∙ bits-packed (first_cleared (bits 8 x))

first_cleared-ones : (xs : List Bool) → 0 < ones xs → ones (first_cleared xs) + 1 ≡ ones xs
unfolding ones first_cleared
first_cleared-ones [] h = absurd (omega arith)
first_cleared-ones (true ∷ xs) h = omega arith
first_cleared-ones (false ∷ xs) h = first_cleared-ones xs h

-- a lowered octet has one one bit less
pub lowered-ones : (x : ℕ) → 0 < ones (bits 8 x) → ones (bits 8 (lowered x)) + 1 ≡ ones (bits 8 x)
lowered-ones x h = rw bits-lowered (first_cleared-ones (bits 8 x) h)
