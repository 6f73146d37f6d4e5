-- The scan over the pairs of a column.
use Rattle.std.proofs.Common.{◌≡◌, ℕ, zero, suc, ◌+◌, ◌*◌, ◌/◌, ◌<◌, ◌≤◌, max, Bool, true, false, cond, eqb, List, [], ◌∷◌, ◌++◌, length, get_or, take, drop, set, fold, count_by, Option, None, Some, MatchOption, sym, refl, ap, ◌∙◌, arith, suc-le-suc, le_of_suc-le-suc, zero-lt-suc, length-set, take-append-drop, length-take, get_or-take, take_all}
use borrow.Author.Count.{below_more}
use lib.Seq.{set-append_left}
use Rattle.std.specs.Simd.{first_chunks}
use Rattle.std.specs.Option.{option_or}
use Rattle.std.proofs.lemmas.List.Sums.{fold_more, sum_by_more, sum_by-cons}
use Rattle.std.proofs.lemmas.Bool.{and_parts, cond-true, cond-false, eqb-true}
use Rattle.column.specs.Columns.{used, all_ones, counts, blank, largest, blanks, written}
use Rattle.column.specs.Scans.{pairs, Vacant, Scanned}
use Rattle.column.proofs.Rewriting.{one_of}

-- the slice's chunks of two are its pairs
pub chunks_pairs : (xs : List ℕ) (k : ℕ) → k ≡ length xs / 2 → first_chunks 2 k xs ≡ pairs xs
chunks_pairs [] zero e = refl
chunks_pairs [] (suc k) e = absurd (omega arith)
chunks_pairs (a ∷ []) zero e = refl
chunks_pairs (a ∷ []) (suc k) e = absurd (omega arith)
chunks_pairs (a ∷ (b ∷ rest)) zero e = absurd (omega arith)
chunks_pairs (a ∷ (b ∷ rest)) (suc k) e = ap (λ ps. (a ∷ (b ∷ [])) ∷ ps) (chunks_pairs rest k (omega arith))

-- the mark that a pair gives, and whether it is blank
abbrev pub pair_mark : List ℕ → ℕ
pair_mark p = cond (counts (get_or p 0 0) (get_or p 1 0)) (get_or p 0 0) 0

abbrev pub pair_blank : List ℕ → Bool
pair_blank p = blank (get_or p 0 0) (get_or p 1 0)

marks-pairs : (words : List ℕ) (m : ℕ) → fold (λ a p. max a (pair_mark p)) m (pairs words) ≡ max m (largest words)
unfolding largest
marks-pairs [] m = omega arith
marks-pairs (a ∷ []) m = omega arith
marks-pairs (a ∷ (b ∷ rest)) m = omega (arith, marks-pairs rest (max m (cond (counts a b) a 0)))

blanks-pairs : (words : List ℕ) → count_by pair_blank (pairs words) ≡ blanks words
unfolding blanks
blanks-pairs [] = refl
blanks-pairs (a ∷ []) = refl
blanks-pairs (a ∷ (b ∷ rest)) = omega (arith, sum_by-cons (λ p. cond (pair_blank p) 1 0) (a ∷ (b ∷ [])) (pairs rest), blanks-pairs rest)

-- pair i is the first that is blank
pub record FirstBlank (ps : List (List ℕ)) (i : ℕ) : Type 0 where
  pub inside : i < length ps
  pub here : pair_blank (get_or ps i []) ≡ true
  pub before : (k : ℕ) → k < i → pair_blank (get_or ps k []) ≡ false

-- what the scan knows after the first i pairs
pub record Scanning (ps : List (List ℕ)) (i mark blank-pairs : ℕ) (first-blank : Option ℕ) : Type 0 where
  pub mark_is : mark ≡ fold (λ a p. max a (pair_mark p)) 0 (take i ps)
  pub blanks_are : blank-pairs ≡ count_by pair_blank (take i ps)
  pub few : blank-pairs ≤ i
  pub first_is : MatchOption first-blank ((blank-pairs ≡ 0) × ((k : ℕ) → k < i → pair_blank (get_or ps k []) ≡ false)) (λ j. (0 < blank-pairs) × FirstBlank ps j)

module _ (ps : List (List ℕ)) (i : ℕ) (inside : i < length ps) where
  -- the first blank pair of one pair more
  first_more : (blank-pairs : ℕ) (o : Option ℕ) (t : Bool) → pair_blank (get_or ps i []) ≡ t
      → MatchOption o ((blank-pairs ≡ 0) × ((k : ℕ) → k < i → pair_blank (get_or ps k []) ≡ false)) (λ j. (0 < blank-pairs) × FirstBlank ps j)
      → MatchOption (cond t (option_or o (Some i)) o)
      ((blank-pairs + cond t 1 0 ≡ 0) × ((k : ℕ) → k < i + 1 → pair_blank (get_or ps k []) ≡ false))
      (λ j. (0 < blank-pairs + cond t 1 0) × FirstBlank ps j)
  first_more n None true e h = (omega arith, record { inside = inside; here = e; before = h.1 })
  first_more n None false e h = (omega (arith, h.0), below_more (λ k. pair_blank (get_or ps k []) ≡ false) i h.1 e)
  first_more n (Some j) true e h = (omega arith, h.1)
  first_more n (Some j) false e h = (omega (arith, h.0), h.1)

  pub scan_steps : (mark mark' blank-pairs blank-pairs' : ℕ) (o o' : Option ℕ) → mark' ≡ max mark (pair_mark (get_or ps i []))
      → blank-pairs' ≡ blank-pairs + cond (pair_blank (get_or ps i [])) 1 0 → o' ≡ cond (pair_blank (get_or ps i [])) (option_or o (Some i)) o
      → Scanning ps i mark blank-pairs o → Scanning ps (i + 1) mark' blank-pairs' o'
  scan_steps mark mark' n n' o o' mark_is blanks_are first_is so_far =
      rw (mark_is, blanks_are, first_is)
      record {
        mark_is = ap (λ m. max m (pair_mark (get_or ps i []))) so_far.mark_is ∙ sym (fold_more (λ a p. max a (pair_mark p)) 0 ps i [] inside);
        blanks_are = ap (λ m. m + cond (pair_blank (get_or ps i [])) 1 0) so_far.blanks_are ∙ sym (sum_by_more (λ p. cond (pair_blank p) 1 0) ps i [] inside);
        few = omega (arith, so_far.few, one_of (pair_blank (get_or ps i [])));
        first_is = first_more n o (pair_blank (get_or ps i [])) refl so_far.first_is;
      }

twice : ℕ → ℕ
twice zero = 0
twice (suc n) = suc (suc (twice n))

twice-is : (n : ℕ) → twice n ≡ 2 * n
unfolding twice
twice-is zero = refl
twice-is (suc n) = omega (arith, twice-is n)

-- to write over the first blank pair is to write at this index
record BlankAt (words : List ℕ) (at : ℕ) : Type 0 where
  inside : suc at < length words
  second_is : get_or words (suc at) 0 ≡ all_ones
  writes : (x y : ℕ) → written x y words ≡ set (set words at x) (suc at) y

blank_at : (words : List ℕ) (i : ℕ) → FirstBlank (pairs words) i → BlankAt words (twice i)
unfolding written twice
blank_at [] i f = absurd (omega (arith, f.inside))
blank_at (a ∷ []) i f = absurd (omega (arith, f.inside))
blank_at (a ∷ (b ∷ rest)) zero f =
    record {
      inside = omega arith;
      second_is = eqb-true b all_ones (and_parts (eqb a all_ones) (eqb b all_ones) f.here).1;
      writes = λ x y. cond-true (blank a b) (x ∷ (y ∷ rest)) (a ∷ (b ∷ written x y rest)) f.here;
    }
blank_at (a ∷ (b ∷ rest)) (suc i) f =
    let later = blank_at rest i record { inside = le_of_suc-le-suc f.inside; here = f.here; before = λ k h. f.before (suc k) (suc-le-suc h) } in
    record {
      inside = omega (arith, later.inside);
      second_is = later.second_is;
      writes = λ x y.
          cond-false (blank a b) (x ∷ (y ∷ rest)) (a ∷ (b ∷ written x y rest)) (f.before 0 (zero-lt-suc i)) ∙ ap (λ l. a ∷ (b ∷ l)) (later.writes x y);
    }

-- two elements written of the front part of a list
set_front : (n : ℕ) (xs : List ℕ) (i x y : ℕ) → i + 1 < length (take n xs) → set (set xs i x) (i + 1) y ≡ set (set (take n xs) i x) (i + 1) y ++ drop n xs
set_front n xs i x y h =
    ap (λ l. set (set l i x) (i + 1) y) (sym (take-append-drop n xs))
    ∙ ap (λ l. set l (i + 1) y) (set-append_left (take n xs) (drop n xs) i x (omega arith))
    ∙ set-append_left (set (take n xs) i x) (drop n xs) (i + 1) y (omega (arith, length-set (take n xs) i x))

vacant : (words : List ℕ) (i : ℕ) → FirstBlank (pairs (used words)) i → Vacant words (2 * i)
vacant words i f =
    let at = blank_at (used words) i f in
    let at-is : suc (twice i) ≡ 2 * i + 1 = omega (arith, twice-is i) in
    let inside : 2 * i + 1 < length (used words) = rw at-is at at.inside in
    record {
      inside = omega (arith, length-take 8192 words);
      second_is = sym (get_or-take 8192 words (2 * i + 1) 0 (omega (arith, length-take 8192 words))) ∙ rw at-is at at.second_is;
      writes = λ x y.
          ap (λ l. l ++ drop 8192 words) (rw (at-is, twice-is i) at (at.writes x y)) ∙ sym (set_front 8192 words (2 * i) x y inside);
    }

first_vacant : (words : List ℕ) (o : Option ℕ) (blank-pairs i : ℕ)
    → MatchOption o ((blank-pairs ≡ 0) × ((k : ℕ) → k < i → pair_blank (get_or (pairs (used words)) k []) ≡ false)) (λ j. (0 < blank-pairs) × FirstBlank (pairs (used words)) j)
    → MatchOption o (blank-pairs ≡ 0) (λ j. (0 < blank-pairs) × Vacant words (2 * j))
first_vacant words None n i h = h.0
first_vacant words (Some j) n i h = (h.0, vacant words j h.1)

-- all pairs were scanned
pub scan_ends : (words : List ℕ) (ps : List (List ℕ)) (i mark blank-pairs : ℕ) (o : Option ℕ) → ps ≡ pairs (used words) → length ps ≤ i
    → Scanning ps i mark blank-pairs o → Scanned words mark blank-pairs o
scan_ends words ps i mark n o ps-are h so_far =
    let whole : take i ps ≡ pairs (used words) = take_all i ps h ∙ ps-are in
    record {
      mark_is = so_far.mark_is ∙ rw whole (marks-pairs (used words) 0 ∙ omega arith);
      blanks_are = so_far.blanks_are ∙ rw whole (blanks-pairs (used words));
      vacant = first_vacant words o n i (rw ps-are at so_far.first_is);
    }
