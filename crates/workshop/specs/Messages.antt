-- The line that is printed for a fault. It begins with the field that is at fault, or the place of the word.
use Rattle.std.specs.Prelude.{ℕ, List, ◌++◌, codes, decimal}
use Rattle.texts.specs.Hex.{hex_fault_text}
use Rattle.workshop.specs.Fields.{field_name}
use Rattle.workshop.specs.declared.fault.Fault.{Fault}
use Rattle.workshop.specs.declared.fault.Fault.TheVariants.{BadWord, Twice, BadHex, BadNumber, UnknownCipher, Missing, NoNonce, TwoNonces, LabelAlone, SessionAlone, TwoMessages, NoMemory}
use Rattle.workshop.specs.declared.field.WordFault.{WordFault}
use Rattle.workshop.specs.declared.field.WordFault.TheVariants.{NoEquals, UnknownField}

-- what is printed for a word that gives no field
abbrev pub word_fault_text : WordFault → List ℕ
word_fault_text NoEquals = codes "no '='"
word_fault_text UnknownField = codes "no such field"

-- what is printed for a request that is refused
abbrev pub fault_text : Fault → List ℕ
fault_text (BadWord i e) = codes "word " ++ (decimal i ++ (codes " (counted from 0): " ++ word_fault_text e))
fault_text (Twice f) = field_name f ++ codes ": given twice"
fault_text (BadHex f e) = field_name f ++ (codes ": " ++ hex_fault_text e)
fault_text (BadNumber f) = field_name f ++ codes ": no decimal number of 32 bits"
fault_text UnknownCipher = codes "cipher: no such cipher"
fault_text (Missing f) = field_name f ++ codes ": not given"
fault_text NoNonce = codes "iv: not given, and neither are label and session"
fault_text TwoNonces = codes "iv: given together with label or session"
fault_text LabelAlone = codes "label: given without session"
fault_text SessionAlone = codes "session: given without label"
fault_text TwoMessages = codes "message: given together with text"
fault_text NoMemory = codes "no memory"
