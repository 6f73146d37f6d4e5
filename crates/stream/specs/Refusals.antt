-- The number by which each refusal is known, the text that is printed for it, and the first refusal that applies.
use Rattle.std.specs.Prelude.{◌≡◌, ℕ, Bool, true, false, List, [], ◌∷◌, codes, Some, None, Option, Result, MatchResult}
use Rattle.stream.specs.declared.refusal.Refusal.{Refusal}
use Rattle.stream.specs.declared.refusal.Refusal.TheVariants.{KeyLength, LabelLength, ForbiddenBit, BadAllowance, PlainLength, BadFrame, ShortBuffer, NoRaiseLeft, AboveAllowance, NeverPaired}

abbrev pub number : Refusal → ℕ
number KeyLength = 1
number LabelLength = 2
number ForbiddenBit = 3
number BadAllowance = 4
number PlainLength = 5
number BadFrame = 6
number ShortBuffer = 7
number NoRaiseLeft = 10
number AboveAllowance = 11
number NeverPaired = 12

-- why a call was refused
unfoldable pub reason_text : Refusal → List ℕ
reason_text KeyLength = codes "the key's length is not the cipher's"
reason_text LabelLength = codes "the label's length is not the cipher's"
reason_text ForbiddenBit = codes "the IV has a bit that must be 0 and is not"
reason_text BadAllowance = codes "the allowance is 0 or above the ceiling"
reason_text PlainLength = codes "the plain has 0 or more than 1,024 octets"
reason_text BadFrame = codes "no frame"
reason_text ShortBuffer = codes "the buffer is too short"
reason_text NoRaiseLeft = codes "the store has no raise left"
reason_text AboveAllowance = codes "place plus length is above the allowance"
reason_text NeverPaired = codes "never paired"

-- tests in the order in which they are made, each with the number of its refusal: the first that applies is the answer
abbrev pub first_refusal : List (Bool × ℕ) → Option ℕ
first_refusal [] = None
first_refusal (t ∷ ts) = elim t.0 [ true ↦ Some t.1 | false ↦ first_refusal ts ]

-- what a check answers: it accepts where no refusal is due, and else answers the refusal that has the number due
abbrev pub Checked : Option ℕ → Result (Unit {0}) Refusal → Type 0
Checked due r = MatchResult r (λ _. due ≡ None) (λ e. due ≡ Some (number e))
