-- A part of the keystream of a key and an IV, and why its use is refused.
use Rattle.std.specs.Prelude.{ℕ, ◌+◌, ◌*◌, not, List, [], ◌∷◌, length, Option, ◌==◌, nat_lt}
use Rattle.stream.specs.Bits.{first}
use Rattle.stream.specs.Ciphers.{Cipher, later, keystream_octet}
use Rattle.stream.specs.Refusals.{first_refusal}
use Rattle.keystreams.specs.declared.parts.Start.{Start}

-- why `size` keystream octets from octet q on are refused, if they are: the load is, or they pass the ceiling
unfoldable pub use_refusal : Cipher → List ℕ → List ℕ → ℕ → ℕ → Option ℕ
use_refusal c key iv q size =
    first_refusal
    ((not (length key == c.figures.key), 1) ∷
    (not (length iv == c.figures.iv), 2) ∷
    (c.forbids iv, 3) ∷
    (nat_lt c.figures.ceiling (q + size), 11) ∷ [])

-- the state that gives keystream octet q next
abbrev pub place : (c : Cipher) → List ℕ → List ℕ → ℕ → c.State
place c key iv q = later c (8 * q) (c.start key iv)

-- n keystream octets from octet q on
abbrev pub keystream_octets : Cipher → List ℕ → List ℕ → ℕ → ℕ → List ℕ
keystream_octets c key iv q n = first n (λ i. keystream_octet c key iv (q + i))

-- why n octets of the part that begins there are refused, if they are
abbrev pub part_refusal : Cipher → Start → ℕ → Option ℕ
part_refusal c s n = use_refusal c s.key.now s.iv.now s.first n

-- the state that gives the first octet of the part next
abbrev pub part_start : (c : Cipher) → Start → c.State
part_start c s = place c s.key.now s.iv.now s.first

-- the state after n octets of the part
abbrev pub part_end : (c : Cipher) → Start → ℕ → c.State
part_end c s n = place c s.key.now s.iv.now (s.first + n)

-- the first n octets of the part
abbrev pub part_octets : Cipher → Start → ℕ → List ℕ
part_octets c s n = keystream_octets c s.key.now s.iv.now s.first n
