use Rattle.std.proofs.Common.{◌≡◌, ◌++◌, ◌∷◌, [], map, vec_items, string_bytes, ap, ◌∙◌, rules}
use Rattle.std.specs.Str.Iter.{split_whitespace_rest}
use Rattle.std.proofs.lemmas.List.{map_push}
use Rattle.texts.proofs.Readings.{left_all, left_more, left_none}
use Rattle.texts.proofs.words.push_words.Goals as goal

pub loop-word-init : goal.loop-word-init
loop-word-init c =
    let rest : split_whitespace_rest c.into_iter-word-iterator.result ≡ c.args.text.now = search rules in
    rw rest (left_all _ c.args.text.now c.utf8.text c.requires)

pub loop-word-preserved : goal.loop-word-preserved
loop-word-preserved c =
    let step = c.in-Some.ensures.steps in
    let pushed : map string_bytes (vec_items c.push.new.self) ≡ map string_bytes (vec_items c.loop-word.words) ++ c.in-Some.word.now ∷ [] =
    ap (map string_bytes) c.in_ok-push.ensures.items ∙ map_push string_bytes _ _ ∙ ap (λ w. map string_bytes (vec_items c.loop-word.words) ++ w ∷ []) c.in_ok-from_str.ensures.ok in
    rw pushed (left_more _ _ _ step.0 c.in-Some.word.now _ step.5.0 c.loop-word.invariant step.1 step.2 step.3 step.4 step.5.1)

pub returns : goal.returns
returns c = left_none _ _ _ c.loop-word.invariant c.in-None.ensures.steps.1
