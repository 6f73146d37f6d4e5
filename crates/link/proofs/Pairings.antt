-- Calls that are not refused; the IVs of a label.
use Rattle.std.proofs.Common.{◌≡◌, ℕ, ◌+◌, ◌≤◌, Bool, true, false, List, [], ◌∷◌, length, None, sym, refl, ◌∙◌, arith, lit≤}
use Rattle.std.proofs.lemmas.Bool.{not-false, eqb-true, eqb-false, eq-eqb, ltb-false, or_parts}
use Rattle.stream.specs.Ciphers.{Cipher, load_refusal, session_iv}
use Rattle.stream.specs.Refusals.{first_refusal}
use Rattle.link.specs.Sessions.{pairing_tests, pair_refusal}

-- no test applies
abbrev pub Clear : List (Bool × ℕ) → Type 0
Clear [] = Unit {0}
Clear (t ∷ ts) = (t.0 ≡ false) × Clear ts

-- a call that is not refused: no test applies
pub clear : (ts : List (Bool × ℕ)) → first_refusal ts ≡ None → Clear ts
clear [] e = tt
clear ((true, n) ∷ ts) e = let z : ◌≡◌ {A = ℕ} 0 1 = cc in absurd (omega (arith, z))
clear ((false, n) ∷ ts) e = (refl, clear ts e)

-- a test that does not apply is passed over
pub passed : (b : Bool) (n : ℕ) (ts : List (Bool × ℕ)) → b ≡ false → first_refusal ((b, n) ∷ ts) ≡ first_refusal ts
passed b n ts e = rw e

-- the IV of a session is four octets longer than the label
pub length-session_iv : (label : List ℕ) (n : ℕ) → length (session_iv label n) ≡ length label + 4
length-session_iv [] n = refl
length-session_iv (x ∷ xs) n = omega arith

-- octets 1 to 4 have no part in whether an IV is forbidden
forbids-blank : (c : Cipher) (x p q r s : ℕ) (xs : List ℕ)
    → c.forbids (x ∷ p ∷ q ∷ r ∷ s ∷ xs) ≡ c.forbids (x ∷ 0 ∷ 0 ∷ 0 ∷ 0 ∷ xs)
forbids-blank c x p q r s xs =
    c.forbids_free (x ∷ 0 ∷ q ∷ r ∷ s ∷ xs) 1 p (lit≤ tt) (lit≤ tt)
    ∙ c.forbids_free (x ∷ 0 ∷ 0 ∷ r ∷ s ∷ xs) 2 q (lit≤ tt) (lit≤ tt)
    ∙ c.forbids_free (x ∷ 0 ∷ 0 ∷ 0 ∷ s ∷ xs) 3 r (lit≤ tt) (lit≤ tt)
    ∙ c.forbids_free (x ∷ 0 ∷ 0 ∷ 0 ∷ 0 ∷ xs) 4 s (lit≤ tt) (lit≤ tt)

-- whether a session's IV is forbidden does not depend on the session number
pub forbids_any : (c : Cipher) (label : List ℕ) (m n : ℕ)
    → 1 ≤ length label → c.forbids (session_iv label m) ≡ c.forbids (session_iv label n)
forbids_any c [] m n h = absurd (omega (arith, h))
forbids_any c (x ∷ xs) m n h = forbids-blank c x _ _ _ _ xs ∙ sym (forbids-blank c x _ _ _ _ xs)

-- The parts of a pairing that is not refused.
pub record Paired (c : Cipher) (key label : List ℕ) (allowance : ℕ) : Type 0 where
  pub key_is : length key ≡ c.figures.key
  pub label_is : length label ≡ c.figures.label
  pub allowed : c.forbids (session_iv label 0) ≡ false
  pub some : 1 ≤ allowance
  pub capped : allowance ≤ c.figures.ceiling

pub paired : (c : Cipher) (key label : List ℕ) (allowance : ℕ)
    → pair_refusal c key label allowance ≡ None → Paired c key label allowance
paired c key label allowance e =
    let t = clear (pairing_tests c key label allowance) e in
    let a = or_parts _ _ t.1.1.1.0 in
    let nonzero = eqb-false allowance 0 a.0 in
    record {
      key_is = eqb-true _ _ (not-false _ t.0);
      label_is = eqb-true _ _ (not-false _ t.1.0);
      allowed = t.1.1.0;
      some = omega arith;
      capped = ltb-false _ _ a.1;
    }

-- with the cipher's lengths, a load is refused only for a forbidden IV
load_of : (c : Cipher) (key label : List ℕ) (n : ℕ)
    → length key ≡ c.figures.key → length label ≡ c.figures.label
    → load_refusal c key (session_iv label n) ≡ first_refusal ((c.forbids (session_iv label n), 3) ∷ [])
load_of c key label n k l =
    let iv : length (session_iv label n) ≡ c.figures.iv = omega (arith, length-session_iv label n, c.bounds.iv_is) in
    rw (eq-eqb _ _ k, eq-eqb _ _ iv)

-- a pairing that is not refused loads at every session number
pub loads : (c : Cipher) (key label : List ℕ) (allowance n : ℕ)
    → pair_refusal c key label allowance ≡ None → load_refusal c key (session_iv label n) ≡ None
loads c key label allowance n e =
    let p = paired c key label allowance e in
    let low : 1 ≤ length label = omega (arith, p.label_is, c.bounds.label_low) in
    load_of c key label n p.key_is p.label_is ∙ passed _ 3 [] (forbids_any c label n 0 low ∙ p.allowed)
