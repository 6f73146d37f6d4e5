use Rattle.std.proofs.Common.{◌∷◌, refl, ap, inl, inr}
use Rattle.std.proofs.lemmas.Result.{MatchResult-weaker}
use Rattle.scenario.specs.Grammar.{command_word}
use Rattle.scenario.proofs.Places.{one_word, reads_octets}
use Rattle.scenario.proofs.values.CommandWords.octets.Goals as goal

pub returns-in-len1 : goal.returns-in-len1
returns-in-len1 c =
    let command = c.args.self.now.command in
    let only = one_word c.args.self.now.rest.now _ _ c.in-len1.len_at_least c.in-len1.len_below c.word-item.is c.as_str.ensures.value in
    MatchResult-weaker c.octets.result c.octets.ensures
    (λ x p. inr (_, ap (λ r. command_word command ∷ r) only, p))
    (λ e h. h _ (reads_octets command _ _ _ c.requires (inr (inl refl)) only))
