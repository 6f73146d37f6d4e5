-- The words of a request: a field's name, '=', and the value that the word gives the field.
use Rattle.std.specs.Prelude.{◌≡◌, ℕ, ◌<◌, List, ◌∷◌, ◌++◌, length, take, string_bytes, codes, String, ◌≢◌, slice_index}
use Rattle.std.specs.List.{HoldsAt, AllWithin}
use Rattle.workshop.specs.declared.field.Field.{Field}
use Rattle.workshop.specs.declared.field.Field.TheVariants.{Cipher, Key, Iv, Label, Session, First, Count, Message, Text}
use Rattle.workshop.specs.declared.field.WordFault.{WordFault}
use Rattle.workshop.specs.declared.field.WordFault.TheVariants.{NoEquals, UnknownField}

-- the name of a field
abbrev pub field_name : Field → List ℕ
field_name Cipher = codes "cipher"
field_name Key = codes "key"
field_name Iv = codes "iv"
field_name Label = codes "label"
field_name Session = codes "session"
field_name First = codes "first"
field_name Count = codes "count"
field_name Message = codes "message"
field_name Text = codes "text"

-- the text has no '='
abbrev pub Plain : List ℕ → Type 0
Plain bs = (i : ℕ) → i < length bs → slice_index bs i ≢ 61

-- the word w gives the field f the value v
abbrev pub Gives : Field → List ℕ → List ℕ → Type 0
Gives f v w = w ≡ field_name f ++ (61 ∷ v)

-- why a word gives no field: it has no '=', or what stands before the first is no field's name
abbrev pub WordRefused : List ℕ → WordFault → Type 0
WordRefused w NoEquals = Plain w
WordRefused w UnknownField = (name : List ℕ) × (v : List ℕ) × (w ≡ name ++ (61 ∷ v)) × Plain name × ((f : Field) → name ≢ field_name f)

module _ {Y : Type 0} where
  -- one of the words gives the field f the value v
  abbrev pub Given : List (String Y) → Field → List ℕ → Type 0
  Given ws f v = (k : ℕ) × (k < length ws) × HoldsAt (λ w. Gives f v (string_bytes w)) ws k

  -- one of the words gives the field f some value
  abbrev pub IsGiven : List (String Y) → Field → Type 0
  IsGiven ws f = (v : List ℕ) × Given ws f v

  -- none of the words gives the field f a value
  abbrev pub NotGiven : List (String Y) → Field → Type 0
  NotGiven ws f = AllWithin (λ w. (v : List ℕ) → Gives f v (string_bytes w) → ⊥) ws 0 (length ws)

  -- each of the first n words gives a field that none before it gives
  abbrev pub Apart : List (String Y) → ℕ → Type 0
  Apart ws n = (k : ℕ) → k < n → (f : Field) × (v : List ℕ) × HoldsAt (λ w. Gives f v (string_bytes w)) ws k × NotGiven (take k ws) f
