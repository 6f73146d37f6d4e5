-- Lines in a row: what becomes of them one by one, and their rows.
use Rattle.std.proofs.Common.{◌≡◌, ℕ, ◌+◌, ◌<◌, List, [], ◌∷◌, ◌++◌, length, get_or, take, string_bytes, String, Result, sym, refl, ap, ◌∙◌, subst, ◌⊎◌, ⊎_elim, arith, append_assoc, append-nil}
use Rattle.std.proofs.lemmas.List.{take_more}
use Rattle.runs.specs.declared.calls.SenderStep.{SenderStep}
use Rattle.runs.specs.declared.calls.ReceiverStep.{ReceiverStep}
use Rattle.trial.specs.declared.plan.Plan.{Plan}
use Rattle.trial.specs.declared.plan.Planned.{Planned}
use Rattle.bench_run.specs.Noted.{Noted, NotedAll}
use Rattle.bench_run.specs.Rows.{answer_text, row_text, rows_text}
use Rattle.bench_run.specs.declared.note.BadLine.{BadLine}

abbrev Note : Type 0
Note = Result Planned BadLine

module _ {Y : Type 0} where
  noted_snoc : (lines : List (String Y)) (notes : List Note) (line : String Y) (note : Note) (p t q : Plan) → NotedAll p lines notes t → Noted t (string_bytes line) note q
      → NotedAll p (lines ++ (line ∷ [])) (notes ++ (note ∷ [])) q
  noted_snoc [] [] line note p t q run step = (q, subst (λ v. Noted v (string_bytes line) note q) (sym run) step, refl)
  noted_snoc [] (n ∷ ns) line note p t q run step = absurd run
  noted_snoc (l ∷ ls) [] line note p t q run step = absurd run
  noted_snoc (l ∷ ls) (n ∷ ns) line note p t q (u, here, rest) step = (u, here, noted_snoc ls ns line note u t q rest step)

  -- one more turn of a loop over the lines
  pub noted_more : (lines : List (String Y)) (i : ℕ) (notes more : List Note) (line : String Y) (note : Note) (bytes : List ℕ) (p t q : Plan) → i < length lines → line ≡ get_or lines i line
      → bytes ≡ string_bytes line → NotedAll p (take i lines) notes t → Noted t bytes note q → more ≡ notes ++ (note ∷ []) → NotedAll p (take (i + 1) lines) more q
  noted_more lines i notes more line note bytes p t q h line-is bytes-are run step more-is =
      let front : take (i + 1) lines ≡ take i lines ++ (line ∷ []) = take_more lines i line h ∙ ap (λ x. take i lines ++ (x ∷ [])) (sym line-is) in
      subst (λ ls. NotedAll p ls more q) (sym front) (subst (λ ns. NotedAll p (take i lines ++ (line ∷ [])) ns q) (sym more-is)
      (noted_snoc (take i lines) notes line note p t q run (subst (λ b. Noted t b note q) bytes-are step)))

  module _ (calls : List SenderStep) (receipts : List ReceiverStep) where
    abbrev rows : ℕ → List (String Y) → List Note → List ℕ
    rows = rows_text {Y = Y} calls receipts

    -- one more row, where a line and its note are taken off those that are left
    pub rows_more : (index count next : ℕ) (lines after : List (String Y)) (notes left : List Note) (line : String Y) (note : Note) (bytes text all : List ℕ) → lines ≡ line ∷ after → notes ≡ note ∷ left
        → index ≡ count → next ≡ count + 1 → bytes ≡ string_bytes line → text ++ rows (count + 1) lines notes ≡ all
        → (text ++ row_text (index + 1) bytes (answer_text note calls receipts)) ++ rows (next + 1) after left ≡ all
    unfolding rows_text
    rows_more index count next lines after notes left line note bytes text all ls ns at on is so =
        let row = row_text (index + 1) bytes (answer_text note calls receipts) in
        let here : row ++ rows (next + 1) after left ≡ rows (count + 1) (line ∷ after) (note ∷ left) =
        λ i. row_text (at i + 1) (is i) (answer_text note calls receipts) ++ rows (on i + 1) after left in
        append_assoc text row (rows (next + 1) after left) ∙ ap (λ r. text ++ r) (here ∙ (λ i. rows (count + 1) (sym ls i) (sym ns i))) ∙ so

    no_lines : (n : ℕ) (lines : List (String Y)) (notes : List Note) → length lines ≡ 0 → rows n lines notes ≡ []
    unfolding rows_text
    no_lines n [] notes e = refl
    no_lines n (l ∷ ls) notes e = absurd (omega arith)

    no_notes : (n : ℕ) (lines : List (String Y)) (notes : List Note) → length notes ≡ 0 → rows n lines notes ≡ []
    unfolding rows_text
    no_notes n [] notes e = refl
    no_notes n (l ∷ ls) [] e = refl
    no_notes n (l ∷ ls) (m ∷ ms) e = absurd (omega arith)

    -- all rows, where no line or no note is left
    pub rows_all : {A B : Type 0} (n : ℕ) (lines : List (String Y)) (notes : List Note) (text all : List ℕ) → A ⊎ B → (A → length lines ≡ 0) → (B → length notes ≡ 0) → text ++ rows n lines notes ≡ all → text ≡ all
    rows_all n lines notes text all ends a b so =
        sym (append-nil text) ∙ ap (λ r. text ++ r) (sym (⊎_elim (λ x. no_lines n lines notes (a x)) (λ y. no_notes n lines notes (b y)) ends)) ∙ so
