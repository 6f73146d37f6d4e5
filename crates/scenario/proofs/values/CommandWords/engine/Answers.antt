use Rattle.std.proofs.Common.{[], ◌∷◌, ap, ◌∙◌}
use Rattle.std.proofs.lemmas.Result.{MatchResult-weaker}
use Rattle.scenario.specs.Grammar.{command_word}
use Rattle.scenario.proofs.Places.{one_word, reads_engine}
use Rattle.scenario.proofs.values.CommandWords.engine.Goals as goal

pub returns : goal.returns
returns c =
    let command = c.args.self.now.command in
    let only = one_word c.args.self.now.rest.now _ _ c.in-len1.len_at_least c.in-len1.len_below c.word-item.is c.as_str.ensures.value in
    MatchResult-weaker c.engine.result c.engine.ensures
    (λ x p. ap (λ r. command_word command ∷ r) (only ∙ ap (λ w. w ∷ []) p))
    (λ e h. h _ (reads_engine command _ _ c.requires only))
