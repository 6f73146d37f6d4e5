-- What one scan over the words of a column finds.
use Rattle.std.specs.Prelude.{◌≡◌, ℕ, ◌+◌, ◌*◌, ◌<◌, List, [], ◌∷◌, length, slice_index_or, slice_set, Option, MatchOption}
use Rattle.column.specs.Columns.{used, all_ones, blanks, rewritten, column_mark}

-- the pairs of a list of words; an odd last word is in none
abbrev pub pairs : List ℕ → List (List ℕ)
pairs [] = []
pairs (a ∷ []) = []
pairs (a ∷ (b ∷ rest)) = (a ∷ (b ∷ [])) ∷ pairs rest

-- the first blank pair starts at this index: to write it over is to write there
pub record Vacant (words : List ℕ) (at : ℕ) : Type 0 where
  pub inside : at + 1 < length words
  pub second_is : slice_index_or words (at + 1) 0 ≡ all_ones
  pub writes : (x y : ℕ) → rewritten x y words ≡ slice_set (slice_set words at x) (at + 1) y

-- the mark, how many pairs are blank, and which of them is the first
pub record Scanned (words : List ℕ) (mark blank-pairs : ℕ) (first-blank : Option ℕ) : Type 0 where
  pub mark_is : mark ≡ column_mark words
  pub blanks_are : blank-pairs ≡ blanks (used words)
  pub vacant : MatchOption first-blank (blank-pairs ≡ 0) (λ i. (0 < blank-pairs) × Vacant words (2 * i))
