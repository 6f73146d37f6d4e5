-- What it means that no check applied.
use Rattle.std.proofs.Common.{◌≡◌, ℕ, ◌+◌, ◌≤◌, Bool, true, false, ◌||◌, eqb, ltb, List, [], ◌∷◌, ◌++◌, Some, None, Option, refl, ◌∙◌, arith}
use Rattle.std.proofs.lemmas.Bool.{true≢false, eqb-false, ltb-false, or_parts}
use Rattle.stream.specs.Ciphers.{Cipher}
use Rattle.stream.specs.Refusals.{first_refusal}
use Rattle.link.specs.Sessions.{pairing_tests}
use Rattle.link.specs.Senders.{open_refusal, send_refusal}
use Rattle.histories.specs.Promises.{All}

-- a refusal is no acceptance
pub some_none : (n : ℕ) → ◌≡◌ {A = Option ℕ} (Some n) None → ⊥
some_none n e = let z : ◌≡◌ {A = ℕ} 0 1 = cc in omega arith

passed : (t : Bool) (n : ℕ) (ts : List (Bool × ℕ)) → first_refusal ((t, n) ∷ ts) ≡ None → (t ≡ false) × (first_refusal ts ≡ None)
passed true n ts e = absurd (some_none n e)
passed false n ts e = (refl, e)

-- where nothing is refused, no test applied
pub none_applied : (ts : List (Bool × ℕ)) → first_refusal ts ≡ None → All (λ t. t.0 ≡ false) ts
none_applied [] e = tt
none_applied (t ∷ ts) e = let p = passed t.0 t.1 ts e in (p.0, none_applied ts p.1)

-- an allowance that was accepted
pub allowed : (c : Cipher) (left : ℕ) (key label : List ℕ) (allowance : ℕ) → open_refusal c left key label allowance ≡ None → allowance ≤ 16777216
allowed c left key label allowance e =
    let fourth = (none_applied (pairing_tests c key label allowance ++ ((eqb left 0, 10) ∷ [])) e).1.1.1.0 in
    omega (arith, ltb-false c.figures.ceiling allowance (or_parts (eqb allowance 0) (ltb c.figures.ceiling allowance) fourth).1, c.bounds.ceiling_high)

-- a send that was accepted
pub record Fits (place allowance size : ℕ) : Type 0 where
  pub some : 1 ≤ size
  pub few : size ≤ 1024
  pub inside : place + size ≤ allowance

pub send_fits : (place allowance size room : ℕ) → send_refusal place allowance size room ≡ None → Fits place allowance size
send_fits place allowance size room e =
    let tests = none_applied ((eqb size 0 || ltb 1024 size, 5) ∷ (ltb room (10 + size), 7) ∷ (ltb allowance (place + size), 11) ∷ []) e in
    let size_is = or_parts (eqb size 0) (ltb 1024 size) tests.0 in
    let not_zero = eqb-false size 0 size_is.0 in
    record {
      some = omega arith;
      few = ltb-false 1024 size size_is.1;
      inside = ltb-false allowance (place + size) tests.1.1.0;
    }

skipped : (t : Bool) (n : ℕ) (ts : List (Bool × ℕ)) → t ≡ false → first_refusal ((t, n) ∷ ts) ≡ first_refusal ts
skipped true n ts e = absurd (true≢false e)
skipped false n ts e = refl

-- where no test applies, nothing is refused
pub none_refused : (ts : List (Bool × ℕ)) → All (λ t. t.0 ≡ false) ts → first_refusal ts ≡ None
none_refused [] h = refl
none_refused (t ∷ ts) (here, rest) = skipped t.0 t.1 ts here ∙ none_refused ts rest
