-- What an engine means: a cipher, its keystream, and covering octets with it.
use Rattle.std.specs.Prelude.{◌≡◌, ℕ, ◌+◌, ◌*◌, ◌/◌, ◌%◌, ◌≤◌, Bool, not, List, [], ◌∷◌, ◌++◌, length, take, drop, Option, ◌==◌, bit_xor, slice_set}
use Rattle.stream.specs.Bits.{first, packed, times}
use Rattle.stream.specs.Refusals.{first_refusal}
use Rattle.stream.specs.declared.figures.Figures.{Figures}

-- The bounds of a cipher's figures. Lengths and the ceiling are octets, the stride is bits.
pub record Bounds (f : Figures) : Type 0 where
  pub key_low : 1 ≤ f.key
  pub key_high : f.key ≤ 32
  pub label_low : 1 ≤ f.label
  pub label_high : f.label ≤ 12
  pub iv_is : f.iv ≡ f.label + 4
  pub stride_low : 1 ≤ f.stride
  pub stride_high : f.stride ≤ 32
  pub ceiling_low : 1 ≤ f.ceiling
  pub ceiling_high : f.ceiling ≤ 16777216

-- A cipher as one engine runs it.
pub record Cipher : Type 1 where
  pub State : Type 0
  -- the state one clock later
  pub next : State → State
  -- the output bit of a state
  pub output : State → Bool
  -- the state after initialisation, for the octets of a key and of an IV
  pub start : List ℕ → List ℕ → State
  -- whether the IV has a bit that must be 0 and is not
  pub forbids : List ℕ → Bool
  pub figures : Figures
  pub bounds : Bounds figures
  -- it depends on no IV octet from 1 to 4
  pub forbids_free : (iv : List ℕ) (i x : ℕ) → 1 ≤ i → i ≤ 4 → forbids (slice_set iv i x) ≡ forbids iv

-- the state n clocks later
abbrev pub later : (c : Cipher) → ℕ → c.State → c.State
later c n t = times n c.next t

-- the next n output bits of a state
abbrev pub stream : (c : Cipher) → ℕ → c.State → List Bool
stream c n t = first n (λ p. c.output (later c p t))

-- keystream bit p: the output bit p states on from the start state
unfoldable pub keystream_bit : (c : Cipher) → List ℕ → List ℕ → ℕ → Bool
keystream_bit c key iv p = c.output (later c p (c.start key iv))

-- the octet that the next eight output bits of a state make, the first in bit 0
unfoldable pub octet : (c : Cipher) → c.State → ℕ
octet c t = packed (stream c 8 t)

-- keystream octet q: keystream bits 8 q to 8 q + 7
unfoldable pub keystream_octet : (c : Cipher) → List ℕ → List ℕ → ℕ → ℕ
keystream_octet c key iv q = octet c (later c (8 * q) (c.start key iv))

-- octets covered with the keystream that a state gives: the keystream is added to them bit by bit.
-- Covering once more from the same state uncovers them.
unfoldable pub cover : (c : Cipher) → c.State → List ℕ → List ℕ
cover c t [] = []
cover c t (x ∷ xs) = bit_xor x (octet c t) ∷ cover c (later c 8 t) xs

-- why a load of this key and IV is refused, if it is
abbrev pub load_refusal : Cipher → List ℕ → List ℕ → Option ℕ
load_refusal c key iv =
    first_refusal
    ((not (length key == c.figures.key), 1) ∷
    (not (length iv == c.figures.iv), 2) ∷
    (c.forbids iv, 3) ∷ [])

-- Two engines are of one cipher: strides apart, figures, refusals and keystream agree for every key and IV.
pub record OneCipher (c d : Cipher) : Type 0 where
  pub same_key : c.figures.key ≡ d.figures.key
  pub same_iv : c.figures.iv ≡ d.figures.iv
  pub same_label : c.figures.label ≡ d.figures.label
  pub same_ceiling : c.figures.ceiling ≡ d.figures.ceiling
  pub same_refusals : (key iv : List ℕ) → load_refusal c key iv ≡ load_refusal d key iv
  pub same_keystream : (key iv : List ℕ) (p : ℕ) → keystream_bit c key iv p ≡ keystream_bit d key iv p

-- the four octets of a number, least significant first
abbrev pub four_octets : ℕ → List ℕ
four_octets n = n % 256 ∷ n / 256 % 256 ∷ n / 65536 % 256 ∷ n / 16777216 % 256 ∷ []

-- the IV of a session: label octet 0, the session number in four octets, the other label octets
abbrev pub session_iv : List ℕ → ℕ → List ℕ
session_iv label n = take 1 label ++ four_octets n ++ drop 1 label
