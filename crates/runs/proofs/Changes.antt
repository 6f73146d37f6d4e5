-- A change added to octets one by one, and the frame that a step of an index wrote.
use Rattle.std.proofs.Common.{◌≡◌, ℕ, zero, suc, ◌+◌, ◌-◌, ◌<◌, ◌≤◌, min, List, [], ◌∷◌, length, get_or, take, set, None, vec_items, sym, refl, ap, ◌∙◌, subst, add-one, arith}
use Rattle.std.proofs.lemmas.List.{take_min}
use lib.Bits.{bit_xor}
use Rattle.runs.specs.Readings.{changed, frame_at, frame_in}
use Rattle.runs.specs.declared.calls.SenderAnswer.{SenderAnswer}
use Rattle.runs.specs.declared.calls.SenderAnswer.TheVariants.{Opened, Torn, Sent, Rested, Refused, NotAdmitted}
use Rattle.runs.specs.declared.calls.SenderStep.{SenderStep}
use Rattle.runs.specs.declared.size.FrameSize.{FrameSize}

pub changed_none : (xs : List ℕ) → changed xs [] ≡ xs
changed_none [] = refl
changed_none (x ∷ xs) = refl

-- one octet more
changed-suc : (xs cs : List ℕ) (i : ℕ) → i < length xs → i < length cs
    → changed xs (take (suc i) cs) ≡ set (changed xs (take i cs)) i (bit_xor (get_or (changed xs (take i cs)) i 0) (get_or cs i 0))
changed-suc [] cs i h k = absurd (omega arith)
changed-suc (x ∷ xs) [] i h k = absurd (omega arith)
changed-suc (x ∷ xs) (c ∷ cs) zero h k = ap (λ ys. bit_xor x c ∷ ys) (changed_none xs)
changed-suc (x ∷ xs) (c ∷ cs) (suc i) h k = ap (λ ys. bit_xor x c ∷ ys) (changed-suc xs cs i (omega arith) (omega arith))

pub changed_more : (xs cs ys : List ℕ) (i : ℕ) → ys ≡ changed xs (take i cs) → i < length xs → i < length cs
    → set ys i (bit_xor (get_or ys i 0) (get_or cs i 0)) ≡ changed xs (take (i + 1) cs)
changed_more xs cs ys i e h k =
    subst (λ zs. set zs i (bit_xor (get_or zs i 0) (get_or cs i 0)) ≡ changed xs (take (i + 1) cs)) (sym e)
    (subst (λ n. set (changed xs (take i cs)) i (bit_xor (get_or (changed xs (take i cs)) i 0) (get_or cs i 0)) ≡ changed xs (take n cs)) (sym (add-one i)) (sym (changed-suc xs cs i h k)))

-- all that there is to change
pub changed_all : (xs cs : List ℕ) (n : ℕ) → min (length xs) (length cs) ≤ n → changed xs (take n cs) ≡ changed xs cs
changed_all [] cs n h = refl
changed_all (x ∷ xs) [] zero h = refl
changed_all (x ∷ xs) [] (suc n) h = refl
changed_all (x ∷ xs) (c ∷ cs) zero h = absurd (omega arith)
changed_all (x ∷ xs) (c ∷ cs) (suc n) h = ap (λ ys. bit_xor x c ∷ ys) (changed_all xs cs n (omega arith))

pub frame_past : (steps : List SenderStep) (i : ℕ) → length steps ≤ i → frame_at steps i ≡ None
frame_past [] i h = refl
frame_past (s ∷ ss) zero h = absurd (omega arith)
frame_past (s ∷ ss) (suc i) h = frame_past ss i (omega arith)

pub frame_here : (steps : List SenderStep) (i : ℕ) (s : SenderStep) → i < length steps → s ≡ get_or steps i s → frame_at steps i ≡ frame_in s.answer (vec_items s.out)
frame_here [] i s h s-is = absurd (omega arith)
frame_here (x ∷ ss) zero s h s-is = ap (λ (v : SenderStep). frame_in v.answer (vec_items v.out)) (sym s-is)
frame_here (x ∷ ss) (suc i) s h s-is = frame_here ss i s (omega arith) s-is

-- a call that sent nothing wrote no frame
pub frame_none : (a : SenderAnswer) (out : List ℕ) → ((n : FrameSize) → a ≡ Sent n → ⊥) → frame_in a out ≡ None
frame_none (Opened n) out other = refl
frame_none Torn out other = refl
frame_none (Sent n) out other = absurd (other n refl)
frame_none Rested out other = refl
frame_none (Refused e) out other = refl
frame_none NotAdmitted out other = refl

-- the first n octets, or all where there are fewer
pub take_least : (n m : ℕ) (xs : List ℕ) → m ≡ min n (length xs) → take (m - 0) xs ≡ take n xs
take_least n m xs e = ap (λ k. take k xs) (let h : m - 0 ≡ min n (length xs) = omega arith in h) ∙ take_min n xs

-- what holds of a buffer holds of the `Vec` that lent it
pub lent : (R : List ℕ → List ℕ → Type 0) (from before to after : List ℕ) → from ≡ before → after ≡ to → R from to → R before after
lent R from before to after e f r = subst (λ b. R b after) e (subst (λ a. R from a) (sym f) r)
