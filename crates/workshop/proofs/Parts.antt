-- Words taken apart.
use Rattle.std.proofs.Common.{Ok, Err, IsErrAnd, Result, MatchResult, subst, ◌≡◌, ℕ, List, ◌∷◌, ◌++◌, is_some, Some, None, MatchBool, Option, String, sym, ap, ◌∙◌, Bor, MatchOption}
use Rattle.std.proofs.lemmas.List.{append_cancel_left}
use Rattle.std.specs.Option.{ok_or}
use Rattle.workshop.specs.Fields.{Given, IsGiven, NotGiven}
use Rattle.workshop.specs.declared.field.Field.{Field}

-- what stands after a name is '=' and the value
pub value_after : (w name rest : List ℕ) (o : Option (Bor (List ℕ))) → w ≡ name ++ rest → MatchOption o ((v : List ℕ) → rest ≡ 61 ∷ v → ⊥) (λ x. rest ≡ 61 ∷ x.now) → MatchOption o ((v : List ℕ) → w ≡ name ++ (61 ∷ v) → ⊥) (λ x. w ≡ name ++ (61 ∷ x.now))
value_after w name rest None whole h = λ v e. h v (append_cancel_left _ _ _ (sym whole ∙ e))
value_after w name rest (Some x) whole h = whole ∙ ap (λ r. name ++ r) h

-- what `value_of` found, by the test whether it found a value
pub given_by_test : {Y : Type 0} (ws : List (String Y)) (f : Field) (o : Option (Bor (List ℕ))) → MatchOption o (NotGiven ws f) (λ v. Given ws f v.now) → MatchBool (is_some o) (IsGiven ws f) (NotGiven ws f)
given_by_test ws f None h = h
given_by_test ws f (Some x) h = (x.now, h)

-- what `ok_or` made an `Ok` of was there
pub found : {X E : Type 0} (o : Option X) (e : E) (x : X) (P : Type 0) (Q : X → Type 0) → ok_or o e ≡ Ok x → MatchOption o P Q → Q x
found None e x P Q was h = cc
found (Some y) e x P Q was h = let same : y ≡ x = cc in subst Q same h

-- what `ok_or` made an `Err` of was not there, and the error is the one that it was given
pub lacking : {X E : Type 0} (o : Option X) (e f : E) (P : Type 0) (Q : X → Type 0) → ok_or o e ≡ Err f → MatchOption o P Q → (f ≡ e) × P
lacking None e f P Q was h = let same : f ≡ e = cc in (same, h)
lacking (Some y) e f P Q was h = cc

-- what `map_err` left an `Ok` was one
pub kept : {X E D : Type 0} (r : Result X E) (s : Result X D) (x : X) (P : X → Type 0) (Q : E → Type 0) (R : E → D → Type 0)
    → MatchResult r (λ y. s ≡ Ok y) (λ e. IsErrAnd s (R e)) → s ≡ Ok x → MatchResult r P Q → P x
kept (Ok y) s x P Q R h was p = let same : y ≡ x = cc in subst P same p
kept (Err e) s x P Q R h was p = absurd (subst (λ t. IsErrAnd t (R e)) was h)
