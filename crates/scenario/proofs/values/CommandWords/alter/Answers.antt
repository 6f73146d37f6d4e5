use Rattle.std.proofs.Common.{refl, ap}
use Rattle.texts.proofs.Exits.{exit}
use Rattle.scenario.specs.Grammar.{takes}
use Rattle.scenario.proofs.Places.{three_words, reads_frame, reads_at, reads_change}
use Rattle.scenario.proofs.values.CommandWords.alter.Goals as goal

pub returns-in_err-number : goal.returns-in_err-number
returns-in_err-number c =
    let three = three_words c.args.self.now.rest.now _ _ _ _ _ _ c.in-len3.len_at_least c.in-len3.len_below c.frame-item.is c.at-item.is c.change-item.is c.as_str.ensures.value refl refl in
    exit _ _ _ _ c.from_residual.ensures.1 (c.in_err-number.ensures _ (reads_frame c.args.self.now.command _ _ _ _ (ap takes c.requires) three))

pub returns-in_err-number-2 : goal.returns-in_err-number-2
returns-in_err-number-2 c =
    let three = three_words c.args.self.now.rest.now _ _ _ _ _ _ c.in-len3.len_at_least c.in-len3.len_below c.frame-item.is c.at-item.is c.change-item.is refl c.as_str-2.ensures.value refl in
    exit _ _ _ _ c.from_residual-in_err-number-2.ensures.1 (c.in_err-number-2.ensures _ (reads_at c.args.self.now.command _ _ _ _ (ap takes c.requires) three))

pub returns-in_err-octets : goal.returns-in_err-octets
returns-in_err-octets c =
    let three = three_words c.args.self.now.rest.now _ _ _ _ _ _ c.in-len3.len_at_least c.in-len3.len_below c.frame-item.is c.at-item.is c.change-item.is refl refl c.as_str-3.ensures.value in
    exit _ _ _ _ c.from_residual-in_err-octets.ensures.1 (c.in_err-octets.ensures _ (reads_change c.args.self.now.command _ _ _ _ (ap takes c.requires) three))
