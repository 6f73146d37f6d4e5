-- The answer to a request as text, and the line that is printed where there is none.
use Rattle.std.specs.Prelude.{ℕ, List, [], ◌++◌, Some, None, vec_items, codes, decimal, Option}
use Rattle.stream.specs.Refusals.{number}
use Rattle.stream.specs.declared.figures.Figures.{Figures}
use Rattle.stream.specs.declared.refusal.Refusal.{Refusal}
use Rattle.stream.specs.declared.refusal.Refusal.TheVariants.{KeyLength, LabelLength, ForbiddenBit, BadAllowance, PlainLength, BadFrame, ShortBuffer, NoRaiseLeft, AboveAllowance, NeverPaired}
use Rattle.texts.specs.Dump.{hex_digits, dump_text}
use Rattle.texts.specs.Names.{cipher_word}
use Rattle.workshop.specs.declared.request.Nonce.{Nonce}
use Rattle.workshop.specs.declared.request.Nonce.TheVariants.{Iv, Session}
use Rattle.workshop.specs.declared.request.Request.{Request}
use Rattle.keystreams.specs.Named.{cipher_of}
use Rattle.keystreams.specs.declared.fault.Fault.{Fault}
use Rattle.keystreams.specs.declared.fault.Fault.TheVariants.{Refused, MessageRefused, NoMemory}
use Rattle.keystreams.specs.declared.report.Covered.{Covered}
use Rattle.keystreams.specs.declared.report.Report.{Report}

-- three dumps under their names; offsets are places in the keystream
unfoldable pub covered_text : ℕ → Covered → List ℕ
covered_text q m =
    codes "plain\n" ++ (dump_text q (vec_items m.plain)
    ++ (codes "covered\n" ++ (dump_text q (vec_items m.covered)
    ++ (codes "uncovered again\n" ++ dump_text q (vec_items m.uncovered)))))

abbrev pub message_text : ℕ → Option Covered → List ℕ
message_text q None = []
message_text q (Some m) = covered_text q m

unfoldable pub report_text : Request → Report → List ℕ
report_text q r =
    codes "cipher    " ++ (cipher_word q.cipher
    ++ (codes "\nkey       " ++ (hex_digits (vec_items q.key)
    ++ (codes "\niv        " ++ (hex_digits (vec_items r.iv)
    ++ (codes "\nkeystream\n" ++ (dump_text q.first (vec_items r.keystream)
    ++ message_text q.first r.message)))))))

-- the field that gives the IV, or the label that makes it
abbrev pub nonce_field : Nonce → List ℕ
nonce_field (Iv iv) = codes "iv"
nonce_field (Session label session) = codes "label"

-- the octets that the field has to have
abbrev pub nonce_octets : Figures → Nonce → ℕ
nonce_octets f (Iv iv) = f.iv
nonce_octets f (Session label session) = f.label

-- the field that a refusal is about, where `size` names what gives how many octets are used
abbrev pub field_refused : Nonce → List ℕ → Refusal → List ℕ
field_refused n size KeyLength = codes "key"
field_refused n size LabelLength = nonce_field n
field_refused n size ForbiddenBit = nonce_field n
field_refused n size BadAllowance = size
field_refused n size PlainLength = size
field_refused n size BadFrame = size
field_refused n size ShortBuffer = size
field_refused n size NoRaiseLeft = size
field_refused n size AboveAllowance = size
field_refused n size NeverPaired = size

-- what a refusal says
unfoldable pub reason_text : Figures → Nonce → Refusal → List ℕ
reason_text f n KeyLength = codes "its length is not the cipher's, " ++ (decimal f.key ++ codes " octets")
reason_text f n LabelLength = codes "its length is not the cipher's, " ++ (decimal (nonce_octets f n) ++ codes " octets")
reason_text f n ForbiddenBit = codes "a bit of the IV that must be 0 is 1"
reason_text f n BadAllowance = codes "not allowed"
reason_text f n PlainLength = codes "not allowed"
reason_text f n BadFrame = codes "not allowed"
reason_text f n ShortBuffer = codes "not allowed"
reason_text f n NoRaiseLeft = codes "not allowed"
reason_text f n AboveAllowance = codes "the octets end above the ceiling, " ++ (decimal f.ceiling ++ codes " octets")
reason_text f n NeverPaired = codes "not allowed"

unfoldable pub refusal_text : Request → List ℕ → Refusal → List ℕ
refusal_text q size e =
    field_refused q.nonce size e ++ (codes ": refused with " ++ (decimal (number e)
    ++ (codes ": " ++ reason_text (cipher_of q.cipher).figures q.nonce e)))

-- the line for a fault, without its end
unfoldable pub fault_line : Request → Fault → List ℕ
fault_line q (Refused e) = refusal_text q (codes "first and count") e
fault_line q (MessageRefused e) = refusal_text q (codes "first and message") e
fault_line q NoMemory = codes "no memory"
