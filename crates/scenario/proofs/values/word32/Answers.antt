use Rattle.std.proofs.Common.{arith, rules}
use Rattle.std.proofs.lemmas.Str.Pattern.{starts_char}
use Rattle.std.proofs.lemmas.Bool.Decides.{not_from_Decides}
use Rattle.scenario.proofs.Words32.{word32_answered}
use Rattle.scenario.proofs.values.word32.Goals as goal

pub returns : goal.returns
returns c =
    let bs = c.args.word.now in
    let plain = not_from_Decides _ (starts_char 43 bs _ c.starts_with.ensures.cases (omega arith) (omega arith)) c.if-starts_with.false in
    word32_answered bs plain (omega arith) c.from_str_radix.result c.map_err.result _ c.map_err.ensures.cases c.from_str_radix.ensures.value (λ e d p. search rules)
