use Rattle.std.proofs.Common.{◌++◌, map, vec_items, string_bytes, sym, ap, ◌∙◌, append_assoc}
use Rattle.texts.specs.Words.{words_of}
use Rattle.texts.proofs.Readings.{around, marked, commented}
use Rattle.texts.proofs.words.split_words.Goals as goal

pub returns-in_default-next_line : goal.returns-in_default-next_line
returns-in_default-next_line c =
    let cut = c.in-Some.ensures.cases in
    let rest = c.loop-shown.rest.now in
    let parts = around 35 rest c.in-Some.shown.now c.in-Some.comment.now cut.0 cut.1 cut.2 cut.3 cut.4 in
    let same = marked rest c.in-Some.shown.now c.in-Some.comment.now c.loop-shown.invariant.0 parts.0 parts.1 c.in_default-next_line.ensures in
    c.in_ok-push_words.ensures ∙ ap (λ r. map string_bytes (vec_items c.loop-shown.words) ++ r) (sym same) ∙ c.loop-shown.invariant.1

pub loop-shown-preserved : goal.loop-shown-preserved
loop-shown-preserved c =
    let cut = c.in-Some.ensures.cases in
    let rest = c.loop-shown.rest.now in
    let after = c.in-Some-next_line.after.now in
    let parts = around 35 rest c.in-Some.shown.now c.in-Some.comment.now cut.0 cut.1 cut.2 cut.3 cut.4 in
    let both = commented rest c.in-Some.shown.now c.in-Some.comment.now after c.loop-shown.invariant.0 parts.0 parts.1 c.in-Some-next_line.ensures in (
      both.1,
      ap (λ v. v ++ words_of after) c.in_ok-push_words.ensures ∙ append_assoc (map string_bytes (vec_items c.loop-shown.words)) (words_of c.in-Some.shown.now) (words_of after)
          ∙ ap (λ r. map string_bytes (vec_items c.loop-shown.words) ++ r) (sym both.0) ∙ c.loop-shown.invariant.1,
    )
