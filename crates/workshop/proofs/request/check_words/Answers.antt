use Rattle.std.proofs.Common.{take, string_bytes, subst, arith, below_more}
use native.Mathlib.Nat.{sub-zero}
use Rattle.std.specs.List.{HoldsAt}
use Rattle.std.proofs.lemmas.List.Elements.{at_read}
use Rattle.workshop.specs.Fields.{Gives, IsGiven, NotGiven}
use Rattle.workshop.proofs.Parts.{kept}
use Rattle.workshop.proofs.request.check_words.Goals as goal
use Rattle.workshop.proofs.request.check_words.Goals.{In_ok-field}

-- the word of this turn gives its field
word : (c : In_ok-field) → HoldsAt (λ w. Gives c.in_ok-field.field c.in_ok-field.field-0-1.now (string_bytes w)) c.args.words.now c.loop-i.i-counter
word c =
    let gives = kept c.read_word.result c.map_err.result _ _ _ _ c.map_err.ensures.cases c.in_ok-field.was c.read_word.ensures in
    at_read _ (λ w. Gives c.in_ok-field.field c.in_ok-field.field-0-1.now (string_bytes w)) c.loop-i.i-counter c.index-words-i.result (omega arith) c.index-words-i.is
    (rw (← c.as_str.ensures.value) gives)

pub returns-then-is_given : goal.returns-then-is_given
returns-then-is_given c =
    let i = c.loop-i.i-counter in
    let before = subst (λ n. IsGiven (take n c.args.words.now) c.in_ok-field.field) (sub-zero i) c.if-is_given.ensures in
    (i, omega arith, c.in_ok-field.field-0-1.now, before, word (goal.at.returns-then-is_given c).In_ok-field)

pub loop-i-preserved : goal.loop-i-preserved
loop-i-preserved c =
    let i = c.loop-i.i-counter in
    let before = subst (λ n. NotGiven (take n c.args.words.now) c.in_ok-field.field) (sub-zero i) c.if-is_given.ensures in
    below_more _ i c.loop-i.invariant (c.in_ok-field.field, c.in_ok-field.field-0-1.now, word (goal.at.loop-i-preserved c).In_ok-field, before)
