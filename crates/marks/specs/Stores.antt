-- What a mark store means: two numbers, its mark M and its raises left R, whose sum is at most 4,294,967,295.
-- The relations below are over any type of store, with the functions that give its two numbers.
use Rattle.std.specs.Prelude.{◌≡◌, ℕ, ◌+◌, ◌<◌, ◌≤◌, ◌⊎◌, Result, MatchResult}
use Rattle.stream.specs.Refusals.{number}
use Rattle.stream.specs.declared.refusal.Refusal.{Refusal}

-- the largest number that a mark can be
abbrev pub largest_mark : ℕ
largest_mark = 4294967295

-- a raise went through: M + 1 and R - 1
pub record Raised {S : Type 0} (mark left : S → ℕ) (s s' : S) : Type 0 where
  pub mark_is : mark s' ≡ mark s + 1
  pub left_is : left s' + 1 ≡ left s

-- the power failed before the mark was raised: M, and R or R - 1
pub record Wasted {S : Type 0} (mark left : S → ℕ) (s s' : S) : Type 0 where
  pub mark_is : mark s' ≡ mark s
  pub left_is : (left s' ≡ left s) ⊎ (left s' + 1 ≡ left s)

-- the power failed in a raise of so many writes, of which the first c went through
pub record Torn {S : Type 0} (mark left : S → ℕ) (writes c : ℕ) (s s' : S) : Type 0 where
  pub either : Raised mark left s s' ⊎ Wasted mark left s s'
  pub whole : writes ≤ c → Raised mark left s s'

-- what a raise answers: accepted exactly when a raise is left, and then Done holds; else refused with 10, and nothing has changed
abbrev pub Granted : {S : Type 0} → (S → ℕ) → S → S → Type 0 → Result (Unit {0}) Refusal → Type 0
Granted left s s' Done r = MatchResult r (λ _. (0 < left s) × Done) (λ e. (number e ≡ 10) × (left s ≡ 0) × (s' ≡ s))
