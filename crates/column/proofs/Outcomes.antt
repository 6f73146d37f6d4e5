-- What a raise and a torn raise leave.
use Rattle.std.proofs.Common.{◌≡◌, ℕ, zero, suc, ◌+◌, ◌-◌, ◌<◌, ◌≤◌, min, Bool, true, false, cond, ◌⊎◌, List, get_or, set, sym, refl, ap, ◌∙◌, inl, inr, ⊎_elim, arith, get_or-set_other}
use lib.Seq.{set-get_or}
use Rattle.std.proofs.lemmas.Bool.{both_ways, cases_Bool, cases_lt, cond-true, cond-false, eqb-true, eq-eqb}
use Rattle.marks.specs.Stores.{Raised, Wasted, Torn}
use Rattle.column.specs.Columns.{used, all_ones, counts, blank, blanks, rewritten, column_mark, column_left, raised_by, torn_by}
use Rattle.column.specs.Scans.{Vacant}
use Rattle.column.proofs.Rewriting.{one_of, mark-rewritten, blanks-rewritten, blank-counts_nothing}

-- one blank pair less, or none less, at the same mark
left_wasted : (n n' m o : ℕ) → o ≤ 1 → n' + 1 ≡ o + n
    → (min n' (all_ones - m) ≡ min n (all_ones - m)) ⊎ (min n' (all_ones - m) + 1 ≡ min n (all_ones - m))
left_wasted n n' m o few e =
    ⊎_elim (λ less. inr (omega arith)) (λ more. inl (omega arith)) (cases_lt (min n' (all_ones - m)) (min n (all_ones - m)))

-- a pair that counts is not blank
counts-not-blank : (x y : ℕ) → x + y ≡ all_ones → 0 < x → cond {A = ℕ} (blank x y) 1 0 ≡ 0
counts-not-blank x y whole some =
    ⊎_elim
    (λ yes. absurd (omega (arith, blank-counts_nothing x y yes, cond-true (counts x y) x 0 (eq-eqb (x + y) all_ones whole))))
    (λ no. cond-false (blank x y) 1 0 no)
    (cases_Bool (blank x y))

module _ (x y : ℕ) (words : List ℕ) (left-some : 0 < column_left words) where
  some_blank : 0 < blanks (used words)
  some_blank = omega arith

  -- a pair with the next mark was written
  pub raised : x ≡ column_mark words + 1 → x + y ≡ all_ones → Raised column_mark column_left words (rewritten x y words)
  raised x-is whole =
      let counted : cond (counts x y) x 0 ≡ x = cond-true (counts x y) x 0 (eq-eqb (x + y) all_ones whole) in
      let mark_is : column_mark (rewritten x y words) ≡ column_mark words + 1 = omega (arith, mark-rewritten x y words some_blank, counted) in
      record { mark_is = mark_is; left_is = omega (arith, blanks-rewritten x y words some_blank, counts-not-blank x y whole (omega arith), mark_is) }

  -- a pair was written that gives no higher mark
  pub wasted : cond (counts x y) x 0 ≤ column_mark words → Wasted column_mark column_left words (rewritten x y words)
  wasted low =
      let mark_is : column_mark (rewritten x y words) ≡ column_mark words = omega (arith, mark-rewritten x y words some_blank, low) in
      record {
        mark_is = mark_is;
        left_is =
            rw mark_is
            (left_wasted (blanks (used words)) (blanks (used (rewritten x y words))) (column_mark words) (cond (blank x y) 1 0) (one_of (blank x y))
            (blanks-rewritten x y words some_blank));
      }

pub raised_by-one : (words : List ℕ) → 0 < column_left words → Raised column_mark column_left words (raised_by 1 words)
raised_by-one words some = raised (column_mark words + 1) (all_ones - (column_mark words + 1)) words some refl (omega arith)

counted_low : (t : Bool) (x m : ℕ) → (t ≡ true → x ≡ 0) → cond t x 0 ≤ m
counted_low true x m h = omega (arith, h refl)
counted_low false x m h = omega arith

-- the first write was under way
torn-first : (junk : ℕ) (words : List ℕ) → 0 < column_left words → Wasted column_mark column_left words (rewritten junk all_ones words)
torn-first junk words some =
    wasted junk all_ones words some (counted_low (counts junk all_ones) junk (column_mark words) (λ e. omega (arith, eqb-true (junk + all_ones) all_ones e)))

-- the second write was under way
torn_second : (junk : ℕ) (words : List ℕ) → 0 < column_left words
    → Raised column_mark column_left words (rewritten (column_mark words + 1) junk words) ⊎ Wasted column_mark column_left words (rewritten (column_mark words + 1) junk words)
torn_second junk words some =
    let x : ℕ = column_mark words + 1 in
    ⊎_elim
    (λ yes. inl (raised x junk words some refl (eqb-true (x + junk) all_ones yes)))
    (λ no. inr (wasted x junk words some (counted_low (counts x junk) x (column_mark words) (λ yes. absurd (both_ways (counts x junk) no yes)))))
    (cases_Bool (counts x junk))

pub torn_by-one : (c junk : ℕ) (words : List ℕ) → 0 < column_left words → Torn column_mark column_left 2 c words (torn_by 1 c junk words)
unfolding torn_by
torn_by-one zero junk words some = record { either = inr (torn-first junk words some); whole = λ h. absurd (omega arith) }
torn_by-one (suc zero) junk words some = record { either = torn_second junk words some; whole = λ h. absurd (omega arith) }
torn_by-one (suc (suc c)) junk words some = record { either = inl (raised_by-one words some); whole = λ _. raised_by-one words some }

-- the answer of a raise whose memory is known
pub raise_granted : (words after : List ℕ) → 0 < column_left words → after ≡ raised_by 1 words
    → (0 < column_left words) × ((after ≡ raised_by 1 words) × Raised column_mark column_left words after)
raise_granted words after some e = (some, (e, rw e (raised_by-one words some)))

-- the answer of a torn raise whose memory is known
pub torn_granted : (c junk : ℕ) (words after : List ℕ) → 0 < column_left words → after ≡ torn_by 1 c junk words
    → (0 < column_left words) × ((after ≡ torn_by 1 c junk words) × Torn column_mark column_left 2 c words after)
torn_granted c junk words after some e = (some, (e, rw e (torn_by-one c junk words some)))

module _ (words : List ℕ) (at mark : ℕ) (vacant : Vacant words at) (mark_is : mark ≡ column_mark words + 1) where
  pub both_written : set (set words at mark) (at + 1) (all_ones - mark) ≡ raised_by 1 words
  both_written = rw mark_is (sym (vacant.writes (column_mark words + 1) (all_ones - (column_mark words + 1))))

  pub none_written : (c junk : ℕ) → c ≡ 0 → set words at junk ≡ torn_by 1 c junk words
  unfolding torn_by
  none_written c junk c-is =
      let same : get_or (set words at junk) (at + 1) 0 ≡ all_ones = get_or-set_other words at (at + 1) junk 0 (λ e. omega arith) ∙ vacant.second_is in
      rw c-is
      (sym (vacant.writes junk all_ones ∙ ap (set (set words at junk) (at + 1)) (sym same) ∙ set-get_or (set words at junk) (at + 1) 0))

  pub one_written : (c junk : ℕ) → c ≡ 1 → set (set words at mark) (at + 1) junk ≡ torn_by 1 c junk words
  unfolding torn_by
  one_written c junk c-is = rw (c-is, mark_is) (sym (vacant.writes (column_mark words + 1) junk))

  pub all_written : (c junk : ℕ) → 2 ≤ c → set (set words at mark) (at + 1) (all_ones - mark) ≡ torn_by 1 c junk words
  unfolding torn_by
  all_written zero junk h = absurd (omega arith)
  all_written (suc zero) junk h = absurd (omega arith)
  all_written (suc (suc c)) junk h = both_written
