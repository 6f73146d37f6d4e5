-- Octets written out as text: as hexadecimal digits, and as the lines of a dump.
-- `digit_char d` is the digit of the value d, in lower case, and `flat_map f xs` is f of each of xs, one after the other.
use Rattle.std.specs.Prelude.{ℕ, Bool, true, false, ◌+◌, ◌*◌, ◌/◌, ◌%◌, min, List, [], ◌∷◌, ◌++◌, length, take, drop}
use Rattle.std.specs.List.{range_with_len, flat_map}
use Rattle.std.specs.Char.{digit_char}

-- the two digits of an octet, the high one first
abbrev pub hex_pair : ℕ → List ℕ
hex_pair x = digit_char (x / 16) ∷ digit_char (x % 16) ∷ []

-- the two digits of an octet, after a space or not
abbrev pub piece : Bool → ℕ → List ℕ
piece true x = 32 ∷ hex_pair x
piece false x = hex_pair x

-- the digits of octets, with nothing between them
abbrev pub hex_digits : List ℕ → List ℕ
hex_digits xs = flat_map hex_pair xs

-- the four octets of a number below 2 ^ 32, the most significant first
abbrev pub big_endian : ℕ → List ℕ
big_endian n = (n / 16777216 % 256) ∷ (n / 65536 % 256) ∷ (n / 256 % 256) ∷ (n % 256) ∷ []

-- a line of a dump: the offset as eight digits, a space, each octet after a space, and a newline
abbrev pub dump_line : ℕ → List ℕ → List ℕ
dump_line offset xs = hex_digits (big_endian offset) ++ (32 ∷ flat_map (λ x. 32 ∷ hex_pair x) xs) ++ (10 ∷ [])

-- line k of a dump, counted from 0: octets 16 k to 16 k + 15 of xs, under the offset start + 16 k, or 0xffffffff where that is above it
abbrev pub line_at : ℕ → List ℕ → ℕ → List ℕ
line_at start xs k = dump_line (min (start + 16 * k) 0xffff_ffff) (take 16 (drop (16 * k) xs))

-- a dump: as many lines of 16 octets as hold xs, the last one short where they do not fill it
abbrev pub dump_text : ℕ → List ℕ → List ℕ
dump_text start xs = flat_map (line_at start xs) (range_with_len 0 ((length xs + 15) / 16))
