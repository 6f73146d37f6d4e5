use Rattle.std.proofs.Common.{◌≡◌, ◌∷◌, codes, refl, ap, ◌∙◌, sym, inl, inr, rules}
use Rattle.texts.proofs.Exits.{exit}
use Rattle.scenario.specs.Grammar.{command_word}
use Rattle.scenario.proofs.Places.{one_word, two_words, reads_octets, reads_fresh}
use Rattle.scenario.proofs.values.CommandWords.memory.Goals as goal

pub returns-in_err-octets-in-len1 : goal.returns-in_err-octets-in-len1
returns-in_err-octets-in-len1 c =
    let only = one_word c.args.self.now.rest.now _ _ c.in-len1.len_at_least c.in-len1.len_below c.word-item.is c.as_str.ensures.value in
    exit _ _ _ _ c.from_residual.ensures.1
    (c.in_err-octets-in-len1.ensures _ (reads_octets c.args.self.now.command _ _ _ c.requires (inl refl) only))

pub returns-in_err-number-in-len2 : goal.returns-in_err-number-in-len2
returns-in_err-number-in-len2 c =
    let fresh : c.as_str-then-this-lt3.result.now ≡ codes "fresh" = search rules in
    let two = two_words c.args.self.now.rest.now _ _ _ _ c.in-len2.len_at_least c.in-len2.len_below c.mark-item.is c.count-item.is (sym fresh ∙ c.as_str-then-this-lt3.ensures.value) c.as_str-in-len2.ensures.value in
    exit _ _ _ _ c.from_residual-in_err-number-in-len2.ensures.1
    (c.in_err-number-in-len2.ensures _ (reads_fresh c.args.self.now.command _ _ _ c.requires (inr (inl refl)) two))

pub returns-in_ok-number-in-len2 : goal.returns-in_ok-number-in-len2
returns-in_ok-number-in-len2 c =
    let fresh : c.as_str-then-this-lt3.result.now ≡ codes "fresh" = search rules in
    let two = two_words c.args.self.now.rest.now _ _ _ _ c.in-len2.len_at_least c.in-len2.len_below c.mark-item.is c.count-item.is (sym fresh ∙ c.as_str-then-this-lt3.ensures.value) c.as_str-in-len2.ensures.value in
    (_, ap (λ r. command_word c.args.self.now.command ∷ r) two, c.in_ok-number-in-len2.ensures)
