-- What a column means once its first blank pair was written over.
use Rattle.std.proofs.Common.{◌≡◌, ℕ, suc, ◌+◌, ◌<◌, ◌≤◌, max, Bool, true, false, cond, eqb, List, [], ◌∷◌, ◌++◌, length, take, drop, refl, ap, ◌∙◌, ⊎_elim, arith, length-take}
use Rattle.std.proofs.lemmas.List.{append-nil, drop_all, take_all, take_at}
use Rattle.std.proofs.lemmas.Bool.{and_parts, cases_lt, cond-false, eqb-true, ne_eqb}
use Rattle.column.specs.Columns.{used, all_ones, counts, blank, largest, blanks, written, rewritten, column_mark}

pub one_of : (t : Bool) → cond {A = ℕ} t 1 0 ≤ 1
one_of true = omega arith
one_of false = omega arith

-- a blank pair does not count
pub blank-counts_nothing : (a b : ℕ) → blank a b ≡ true → cond (counts a b) a 0 ≡ 0
blank-counts_nothing a b h =
    let both = and_parts (eqb a all_ones) (eqb b all_ones) h in
    let first : a ≡ all_ones = eqb-true a all_ones both.0 in
    let second : b ≡ all_ones = eqb-true b all_ones both.1 in
    cond-false (counts a b) a 0 (ne_eqb (a + b) all_ones (λ e. omega arith))

pub length-written : (x y : ℕ) (words : List ℕ) → length (written x y words) ≡ length words
unfolding written
length-written x y [] = refl
length-written x y (a ∷ []) = refl
length-written x y (a ∷ (b ∷ rest)) =
    elim (blank a b) as (λ t. length (cond t (x ∷ (y ∷ rest)) (a ∷ (b ∷ written x y rest))) ≡ suc (suc (length rest)))
    [ true ↦ refl | false ↦ ap (λ n. suc (suc n)) (length-written x y rest) ]

largest_step : (t : Bool) (a b x y : ℕ) (rest : List ℕ) → (t ≡ true → cond (counts a b) a 0 ≡ 0) → 0 < cond t 1 0 + blanks rest
    → (0 < blanks rest → largest (written x y rest) ≡ max (cond (counts x y) x 0) (largest rest))
    → largest (cond t (x ∷ (y ∷ rest)) (a ∷ (b ∷ written x y rest))) ≡ max (cond (counts x y) x 0) (max (cond (counts a b) a 0) (largest rest))
unfolding largest
largest_step true a b x y rest nothing some later = omega (arith, nothing refl)
largest_step false a b x y rest nothing some later = omega (arith, later (omega arith))

pub largest-written : (x y : ℕ) (words : List ℕ) → 0 < blanks words → largest (written x y words) ≡ max (cond (counts x y) x 0) (largest words)
unfolding largest blanks written
largest-written x y [] h = absurd (omega arith)
largest-written x y (a ∷ []) h = absurd (omega arith)
largest-written x y (a ∷ (b ∷ rest)) h = largest_step (blank a b) a b x y rest (blank-counts_nothing a b) h (largest-written x y rest)

blanks-step : (t : Bool) (a b x y : ℕ) (rest : List ℕ) → t ≡ blank a b → 0 < cond t 1 0 + blanks rest
    → (0 < blanks rest → blanks (written x y rest) + 1 ≡ cond (blank x y) 1 0 + blanks rest)
    → blanks (cond t (x ∷ (y ∷ rest)) (a ∷ (b ∷ written x y rest))) + 1 ≡ cond (blank x y) 1 0 + (cond t 1 0 + blanks rest)
unfolding blanks
blanks-step true a b x y rest e some later = omega arith
blanks-step false a b x y rest e some later = omega (arith, ap (λ t. cond {A = ℕ} t 1 0) e, later (omega arith))

pub blanks-written : (x y : ℕ) (words : List ℕ) → 0 < blanks words → blanks (written x y words) + 1 ≡ cond (blank x y) 1 0 + blanks words
unfolding blanks written
blanks-written x y [] h = absurd (omega arith)
blanks-written x y (a ∷ []) h = absurd (omega arith)
blanks-written x y (a ∷ (b ∷ rest)) h = blanks-step (blank a b) a b x y rest refl h (blanks-written x y rest)

-- a new front of the same length
take_front : (n : ℕ) (front words : List ℕ) → length front ≡ length (take n words) → take n (front ++ drop n words) ≡ front
take_front n front words e =
    ⊎_elim
    (λ less. ap (λ rest. take n (front ++ rest)) (drop_all n words (omega arith)) ∙ ap (take n) (append-nil front) ∙ take_all n front (omega (arith, length-take n words)))
    (λ more. take_at front (drop n words) n (omega (arith, length-take n words)))
    (cases_lt (length words) n)

used-rewritten : (x y : ℕ) (words : List ℕ) → used (rewritten x y words) ≡ written x y (used words)
used-rewritten x y words = take_front 8192 (written x y (used words)) words (length-written x y (used words))

pub mark-rewritten : (x y : ℕ) (words : List ℕ) → 0 < blanks (used words)
    → column_mark (rewritten x y words) ≡ max (cond (counts x y) x 0) (column_mark words)
mark-rewritten x y words h = ap largest (used-rewritten x y words) ∙ largest-written x y (used words) h

pub blanks-rewritten : (x y : ℕ) (words : List ℕ) → 0 < blanks (used words)
    → blanks (used (rewritten x y words)) + 1 ≡ cond (blank x y) 1 0 + blanks (used words)
blanks-rewritten x y words h = ap (λ n. n + 1) (ap blanks (used-rewritten x y words)) ∙ blanks-written x y (used words) h
