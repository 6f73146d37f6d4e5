-- What a request asks for, and why words are refused as a request.
use Rattle.std.specs.Prelude.{◌≡◌, ℕ, ◌<◌, ◌⊎◌, List, length, take, Some, None, vec_items, string_bytes, Option, Vec, String, ◌≢◌}
use Rattle.std.specs.List.{HoldsAt}
use Rattle.texts.specs.Hex.{HexOf, HexRefused}
use Rattle.texts.specs.Names.{cipher_word, DecimalOf}
use Rattle.texts.specs.declared.names.CipherName.{CipherName}
use Rattle.workshop.specs.Fields.{Gives, WordRefused, Given, IsGiven, NotGiven, Apart}
use Rattle.workshop.specs.declared.fault.Fault.{Fault}
use Rattle.workshop.specs.declared.fault.Fault.TheVariants.{BadWord, Twice, BadHex, BadNumber, UnknownCipher, Missing, NoNonce, TwoNonces, LabelAlone, SessionAlone, TwoMessages, NoMemory}
use Rattle.workshop.specs.declared.field.Field.{Field}
use Rattle.workshop.specs.declared.field.Field.TheVariants.{Cipher, Key, Iv, Label, Session, First, Count, Message, Text}
use Rattle.workshop.specs.declared.request.Nonce.{Nonce}
use Rattle.workshop.specs.declared.request.Nonce.TheVariants.{Iv as ByIv, Session as BySession}
use Rattle.workshop.specs.declared.request.Request.{Request}

module _ {Y : Type 0} (ws : List (String Y)) where
  -- what holds of the words where they are refused
  abbrev pub RequestRefused : Fault → Type 0
  RequestRefused (BadWord i e) = (i < length ws) × HoldsAt (λ w. WordRefused (string_bytes w) e) ws i
  RequestRefused (Twice f) = (k : ℕ) × (k < length ws) × (v : List ℕ) × IsGiven (take k ws) f × HoldsAt (λ w. Gives f v (string_bytes w)) ws k
  RequestRefused (BadHex f e) = (v : List ℕ) × Given ws f v × HexRefused v e
  RequestRefused (BadNumber f) = (v : List ℕ) × Given ws f v × ((n : ℕ) → DecimalOf v n → ⊥)
  RequestRefused UnknownCipher = (v : List ℕ) × Given ws Cipher v × ((c : CipherName) → v ≢ cipher_word c)
  RequestRefused (Missing f) = NotGiven ws f
  RequestRefused NoNonce = NotGiven ws Iv × NotGiven ws Label × NotGiven ws Session
  RequestRefused TwoNonces = IsGiven ws Iv × (IsGiven ws Label ⊎ IsGiven ws Session)
  RequestRefused LabelAlone = IsGiven ws Label × NotGiven ws Session
  RequestRefused SessionAlone = IsGiven ws Session × NotGiven ws Label
  RequestRefused TwoMessages = IsGiven ws Message × IsGiven ws Text
  RequestRefused NoMemory = Unit {0}

  -- the octets that a field's hexadecimal digits write, if a word gives it
  abbrev pub OctetsIn : {Z : Type 0} → Field → Option (Vec ℕ Z) → Type 0
  OctetsIn f None = NotGiven ws f
  OctetsIn f (Some v) = (t : List ℕ) × Given ws f t × HexOf t (vec_items v)

  -- the number that a field's decimal digits write, if a word gives it
  abbrev pub NumberIn : Field → Option ℕ → Type 0
  NumberIn f None = NotGiven ws f
  NumberIn f (Some n) = (t : List ℕ) × Given ws f t × DecimalOf t n

  -- the number that a field's decimal digits write, or d where no word gives it
  abbrev pub NumberOr : Field → ℕ → ℕ → Type 0
  NumberOr f d n = ((t : List ℕ) × Given ws f t × DecimalOf t n) ⊎ (NotGiven ws f × (n ≡ d))

  -- an IV, or a label and a session number, and not both
  abbrev pub NonceIn : Nonce → Type 0
  NonceIn (ByIv iv) = OctetsIn Iv (Some iv) × NotGiven ws Label × NotGiven ws Session
  NonceIn (BySession label n) = OctetsIn Label (Some label) × NumberIn Session (Some n) × NotGiven ws Iv

  -- the message, if there is one: the octets that `message` writes, or those of `text` as they stand, and not both
  abbrev pub MessageIn : {Z : Type 0} → Option (Vec ℕ Z) → Type 0
  MessageIn None = NotGiven ws Message × NotGiven ws Text
  MessageIn (Some v) = (OctetsIn Message (Some v) × NotGiven ws Text) ⊎ (Given ws Text (vec_items v) × NotGiven ws Message)

  -- what the words ask for: each field as its word gives it, or its default
  pub record Asked (r : Request) : Type 0 where
    pub words : Apart ws (length ws)
    pub cipher : Given ws Cipher (cipher_word r.cipher)
    pub key : OctetsIn Key (Some r.key)
    pub nonce : NonceIn r.nonce
    pub first : NumberOr First 0 r.first
    pub count : NumberOr Count 16 r.count
    pub message : MessageIn r.message
