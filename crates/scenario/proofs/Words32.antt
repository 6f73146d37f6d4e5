-- Numbers of 32 bits in 8 hexadecimal digits.
use Rattle.std.proofs.Common.{◌≡◌, ℕ, ◌^◌, ◌<◌, cond, Ok, Err, IsErrAnd, Result, MatchResult, List, length, get_or, drop, ap, subst, arith}
use Rattle.std.specs.Str.Parse.{ParsesUnsigned, IsNumeral, digits_value, without_leading_plus}
use Rattle.std.proofs.lemmas.Int.Digits.{digits_value-lt}
use Rattle.std.proofs.lemmas.Bool.{ne_eqb}
use Rattle.scenario.specs.Grammar.{word32_kind, ReadAs}
use Rattle.scenario.specs.Says.{Word32Of, WordsRefused}
use Rattle.scenario.specs.declared.fault.LineFault.{LineFault}
use Rattle.scenario.specs.declared.fault.LineFault.TheVariants.{BadWord32}

no_sign : (bs : List ℕ) → (get_or bs 0 0 ≡ 43 → ⊥) → without_leading_plus bs ≡ bs
no_sign bs plain = ap (λ b. drop (cond b 1 0) bs) (ne_eqb (get_or bs 0 0) 43 plain)

-- what reading 8 bytes with no sign in front answers
module _ (bs : List ℕ) (plain : get_or bs 0 0 ≡ 43 → ⊥) (size : length bs ≡ 8) where
  pub word32_read : (n : ℕ) → (IsNumeral 16 (without_leading_plus bs) × (digits_value 16 (without_leading_plus bs) < 2 ^ 32)) × (n ≡ digits_value 16 (without_leading_plus bs)) → Word32Of bs n
  word32_read n h =
      let g = subst (λ t. (IsNumeral 16 t × (digits_value 16 t < 2 ^ 32)) × (n ≡ digits_value 16 t)) (no_sign bs plain) h in
      record { eight = size; all_digits = g.0.0.1; reads = g.1 }

  pub word32_unread : (IsNumeral 16 (without_leading_plus bs) × (digits_value 16 (without_leading_plus bs) < 2 ^ 32) → ⊥) → (n : ℕ) → Word32Of bs n → ⊥
  word32_unread h n w =
      let g = subst (λ t. IsNumeral 16 t × (digits_value 16 t < 2 ^ 32) → ⊥) (no_sign bs plain) h in
      let few = subst (λ k. digits_value 16 bs < 16 ^ k) size (digits_value-lt 16 bs w.all_digits) in
      g ((omega arith, w.all_digits), few)

  -- what is answered for what reading the bytes gave, where each of its errors is made the one fault of such a word
  pub word32_answered : {E : Type 0} (r : Result ℕ E) (s : Result ℕ LineFault) (R : E → LineFault → Type 0)
      → MatchResult r (λ n. s ≡ Ok n) (λ e. IsErrAnd s (R e)) → ParsesUnsigned 32 16 bs r → ((e : E) (d : LineFault) → R e d → d ≡ BadWord32)
      → MatchResult s (Word32Of bs) (λ e. (ws : List (List ℕ)) → ReadAs word32_kind ws bs → WordsRefused ws e)
  word32_answered (Ok n) s R h p made = rw h (word32_read n p)
  word32_answered (Err e) (Ok n) R h p made = absurd h
  word32_answered (Err e) (Err d) R h p made = λ ws due. rw (made e d h) (bs, due, word32_unread p)
