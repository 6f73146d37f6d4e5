-- The mark of a column and its raises left are together at most 4,294,967,295.
use Rattle.std.specs.Prelude.{◌≡◌, ℕ, ◌+◌, ◌≤◌, Bool, true, false, cond, T, List, [], ◌∷◌}
use Rattle.std.proofs.Common.{arith, eqb→eq}
use Rattle.marks.specs.Stores.{largest_mark}
use Rattle.column.specs.Columns.{used, all_ones, counts, largest, column_mark, column_left}

counted_bound : (t : Bool) (a b : ℕ) → (T t → a + b ≡ all_ones) → cond t a 0 ≤ all_ones
counted_bound true a b h = omega (arith, h tt)
counted_bound false a b h = omega arith

pub largest_bound : (words : List ℕ) → largest words ≤ all_ones
unfolding largest
largest_bound [] = omega arith
largest_bound (a ∷ []) = omega arith
largest_bound (a ∷ (b ∷ rest)) = omega (arith, counted_bound (counts a b) a b (eqb→eq (a + b) all_ones), largest_bound rest)

pub column_bound : (words : List ℕ) → column_mark words + column_left words ≤ largest_mark
column_bound words = omega (arith, largest_bound (used words))
