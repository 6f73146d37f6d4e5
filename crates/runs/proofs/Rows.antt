-- Steps in a row: one more at the end, and the calls with their answers as a history.
use Rattle.std.proofs.Common.{◌≡◌, ℕ, ◌+◌, ◌<◌, ◌≤◌, List, [], ◌∷◌, ◌++◌, length, get_or, take, drop, set, Some, None, vec_items, Option, sym, refl, ap, ◌∙◌, subst, arith, length-set}
use Rattle.std.proofs.lemmas.List.{take_all, take_more, take_more_set, drop_more, drop-set-lt}
use Rattle.stream.specs.Ciphers.{Cipher}
use Rattle.histories.specs.Calls.{Receipt, Event}
use Rattle.histories.specs.Histories.{Sender, History, Receiver, Received}
use Rattle.runs.specs.Readings.{Turned, Row, entries, receipt_of, Happened, Taken, event_of, events}
use Rattle.runs.specs.declared.calls.SenderStep.{SenderStep}
use Rattle.runs.specs.declared.calls.ReceiverAnswer.{ReceiverAnswer}
use Rattle.runs.specs.declared.calls.ReceiverStep.{ReceiverStep}

-- Rows of any kind of step, from one standing to the next.
module _ {X P : Type 0} (R : P → X → X → P → Type 0) where
  row_more : (before after : List X) (a b : X) (s t u : P) → Row R s before after t → R t a b u → Row R s (before ++ (a ∷ [])) (after ++ (b ∷ [])) u
  row_more [] [] a b s t u run step = (u, subst (λ v. R v a b u) (sym run) step, refl)
  row_more [] (y ∷ ys) a b s t u run step = absurd run
  row_more (x ∷ xs) [] a b s t u run step = absurd run
  row_more (x ∷ xs) (y ∷ ys) a b s t u (v, here, rest) step = (v, here, row_more xs ys a b v t u rest step)

  -- what a loop over the steps in place keeps: those before the index are made, the others are as they were
  pub record Half (before now : List X) (i : ℕ) (s t : P) : Type 0 where
    pub size : length now ≡ length before
    pub row : Row R s (take i before) (take i now) t
    pub rest : drop i now ≡ drop i before

  -- one more turn of the loop
  pub half_more : (before now : List X) (i : ℕ) (d b : X) (s t u : P) → i < length before → Half before now i s t → R t (get_or now i d) b u → Half before (set now i b) (i + 1) s u
  half_more before now i d b s t u within half step =
      let h : i < length now = omega (arith, half.size) in
      let here : (get_or now i d ∷ drop (i + 1) now) ≡ (get_or before i d ∷ drop (i + 1) before) =
      sym (drop_more now i d h) ∙ half.rest ∙ drop_more before i d within in
      let was : get_or before i d ≡ get_or now i d = cc in
      let past : drop (i + 1) now ≡ drop (i + 1) before = cc in
      let front : take (i + 1) before ≡ take i before ++ (get_or now i d ∷ []) = take_more before i d within ∙ ap (λ x. take i before ++ (x ∷ [])) was in
      record {
        size = length-set now i b ∙ half.size;
        row = subst (λ xs. Row R s xs (take (i + 1) (set now i b)) u) (sym front)
            (subst (λ ys. Row R s (take i before ++ (get_or now i d ∷ [])) ys u) (sym (take_more_set now i b h))
            (row_more (take i before) (take i now) (get_or now i d) b s t u half.row step));
        rest = drop-set-lt (i + 1) now i b (omega arith) ∙ past;
      }

  -- the loop's end
  pub half_all : (before now : List X) (i : ℕ) (s t : P) → length before ≤ i → Half before now i s t → Row R s before now t
  half_all before now i s t h half =
      let all : take i now ≡ now = take_all i now (omega (arith, half.size)) in
      subst (λ xs. Row R s xs now t) (take_all i before h) (subst (λ ys. Row R s (take i before) ys t) all half.row)

module _ (c : Cipher) (w : ℕ) where
  pub turns_history : (before after : List SenderStep) (s t : Sender c) → Row (Turned c w) s before after t → History c w s (entries before after) t
  unfolding entries
  turns_history [] [] s t run = run
  turns_history [] (b ∷ bs) s t run = absurd run
  turns_history (a ∷ rest) [] s t run = absurd run
  turns_history (a ∷ rest) (b ∷ bs) s t (u, here, more) = (u, here.acted.step, turns_history rest bs u t more)

module _ (c : Cipher) (steps : List SenderStep) where
  -- what happened, before what came later
  received_after : (r : Option Receipt) (a : Option ReceiverAnswer) (out : List ℕ) (es : List Event) (s u t : Receiver c)
      → Happened c s r a out u → Received c u es t → Received c s (event_of r a out ++ es) t
  received_after None None out es s u t here more = subst (λ v. Received c v es t) (sym here) more
  received_after None (Some a) out es s u t here more = absurd here
  received_after (Some r) None out es s u t here more = absurd here
  received_after (Some r) (Some a) out es s u t here more = (u, here, more)

  pub comings_received : (before after : List ReceiverStep) (s t : Receiver c) → Row (Taken c steps) s before after t → Received c s (events steps before after) t
  unfolding events
  comings_received [] [] s t run = run
  comings_received [] (b ∷ bs) s t run = absurd run
  comings_received (a ∷ rest) [] s t run = absurd run
  comings_received (a ∷ rest) (b ∷ bs) s t (u, here, more) =
      received_after (receipt_of steps a.call (length (vec_items a.out))) b.answer (vec_items b.out) (events steps rest bs) s u t here.handled.happened
      (comings_received rest bs u t more)
