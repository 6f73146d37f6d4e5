-- The column: 32-bit words in pairs, of which at most the first 8,192 words are used; an odd last word is ignored.
use Rattle.std.specs.Prelude.{ℕ, zero, suc, ◌+◌, ◌-◌, min, max, Bool, cond, ◌&&◌, List, [], ◌∷◌, ◌++◌, take, drop, ◌==◌}

-- the words that are used
abbrev pub used : List ℕ → List ℕ
used words = take 8192 words

-- every bit of a word
abbrev pub all_ones : ℕ
all_ones = 4294967295

-- a pair counts when its second word is the complement of its first
abbrev pub counts : ℕ → ℕ → Bool
counts a b = a + b == all_ones

-- a pair is blank when both words are FFFFFFFF hex
abbrev pub blank : ℕ → ℕ → Bool
blank a b = a == all_ones && b == all_ones

-- the largest first word of a pair that counts, or 0
unfoldable pub largest : List ℕ → ℕ
largest [] = 0
largest (a ∷ []) = 0
largest (a ∷ (b ∷ rest)) = max (cond (counts a b) a 0) (largest rest)

-- how many pairs are blank
unfoldable pub blanks : List ℕ → ℕ
blanks [] = 0
blanks (a ∷ []) = 0
blanks (a ∷ (b ∷ rest)) = cond (blank a b) 1 0 + blanks rest

abbrev pub column_mark : List ℕ → ℕ
column_mark words = largest (used words)

-- R is the smaller of the number of blank pairs and 4,294,967,295 - M
abbrev pub column_left : List ℕ → ℕ
column_left words = min (blanks (used words)) (all_ones - column_mark words)

-- words with the first blank pair written over
unfoldable pub written : ℕ → ℕ → List ℕ → List ℕ
written x y [] = []
written x y (a ∷ []) = a ∷ []
written x y (a ∷ (b ∷ rest)) = cond (blank a b) (x ∷ (y ∷ rest)) (a ∷ (b ∷ written x y rest))

-- the whole memory after the first blank pair of its used part was written over
abbrev pub rewritten : ℕ → ℕ → List ℕ → List ℕ
rewritten x y words = written x y (used words) ++ drop 8192 words

-- a raise by k writes M + k in the first word of the first blank pair, then the complement in its second
abbrev pub raised_by : ℕ → List ℕ → List ℕ
raised_by k words = rewritten (column_mark words + k) (all_ones - (column_mark words + k)) words

-- the same where the power failed: before the first write ended the first word is junk and the second untouched, before the second ended the second is junk
unfoldable pub torn_by : ℕ → ℕ → ℕ → List ℕ → List ℕ
torn_by k zero junk words = rewritten junk all_ones words
torn_by k (suc zero) junk words = rewritten (column_mark words + k) junk words
torn_by k (suc (suc c)) junk words = raised_by k words
