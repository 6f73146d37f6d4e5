use Rattle.std.proofs.Common.{rules}
use Rattle.texts.proofs.Exits.{exit}
use Rattle.workshop.specs.declared.fault.Fault.TheVariants.{BadNumber}
use Rattle.workshop.proofs.Parts.{lacking}
use Rattle.workshop.proofs.request.Words.number.Goals as goal

pub returns-in_err-number : goal.returns-in_err-number
returns-in_err-number c =
    let unread = lacking c.decimal_number.result (BadNumber c.args.field) c.in_err-number.field-0.0 _ _ (search rules) c.decimal_number.ensures in
    exit _ _ _ _ c.from_residual.ensures.1 (rw unread.0 (c.in-Some.text.now, c.in-Some.ensures, unread.1))
