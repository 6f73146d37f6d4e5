use Rattle.std.proofs.Common.{rules}
use Rattle.texts.proofs.Exits.{exit}
use Rattle.workshop.specs.declared.fault.Fault.TheVariants.{Missing}
use Rattle.workshop.specs.declared.field.Field.TheVariants.{Cipher}
use Rattle.workshop.proofs.Parts.{found}
use Rattle.workshop.proofs.request.Words.cipher.Goals as goal

pub returns-in_err-parse : goal.returns-in_err-parse
returns-in_err-parse c =
    let given = found c.value_of.result (Missing Cipher) c.in_ok-word.word _ _ (search rules) c.value_of.ensures in
    exit _ _ _ _ c.from_residual-in_err-parse.ensures.1 (c.in_ok-word.word.now, given, c.in_err-parse.ensures.value)
