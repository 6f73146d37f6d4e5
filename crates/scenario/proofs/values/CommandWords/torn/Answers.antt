use Rattle.std.proofs.Common.{refl, ap}
use Rattle.texts.proofs.Exits.{exit}
use Rattle.scenario.specs.Grammar.{takes}
use Rattle.scenario.proofs.Places.{two_words, reads_writes, reads_junk}
use Rattle.scenario.proofs.values.CommandWords.torn.Goals as goal

pub returns-in_err-number : goal.returns-in_err-number
returns-in_err-number c =
    let two = two_words c.args.self.now.rest.now _ _ _ _ c.in-len2.len_at_least c.in-len2.len_below c.writes-item.is c.junk-item.is c.as_str.ensures.value refl in
    exit _ _ _ _ c.from_residual.ensures.1 (c.in_err-number.ensures _ (reads_writes c.args.self.now.command _ _ _ (ap takes c.requires) two))

pub returns-in_err-word32 : goal.returns-in_err-word32
returns-in_err-word32 c =
    let two = two_words c.args.self.now.rest.now _ _ _ _ c.in-len2.len_at_least c.in-len2.len_below c.writes-item.is c.junk-item.is refl c.as_str-2.ensures.value in
    exit _ _ _ _ c.from_residual-in_err-word32.ensures.1 (c.in_err-word32.ensures _ (reads_junk c.args.self.now.command _ _ _ (ap takes c.requires) two))
