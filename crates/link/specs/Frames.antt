-- The layout of a frame: session number (4 octets), place (4), length (2), all least significant octet first, then the payload.
use Rattle.std.specs.Prelude.{ℕ, ◌+◌, ◌*◌, ◌/◌, ◌%◌, Bool, not, ◌||◌, List, [], ◌∷◌, ◌++◌, length, take, drop, ◌==◌, nat_lt}
use Rattle.stream.specs.Ciphers.{four_octets}

-- the two octets of a number, least significant first
abbrev pub two_octets : ℕ → List ℕ
two_octets n = n % 256 ∷ n / 256 % 256 ∷ []

abbrev pub header : ℕ → ℕ → ℕ → List ℕ
header session place size = four_octets session ++ (four_octets place ++ two_octets size)

abbrev pub frame : ℕ → ℕ → List ℕ → List ℕ
frame session place payload = header session place (length payload) ++ payload

-- the number that octets write, least significant first
unfoldable pub octets_number : List ℕ → ℕ
octets_number [] = 0
octets_number (x ∷ xs) = x + 256 * octets_number xs

-- the fields of octets that came as a frame
abbrev pub frame_session : List ℕ → ℕ
frame_session f = octets_number (take 4 f)

abbrev pub frame_place : List ℕ → ℕ
frame_place f = octets_number (take 4 (drop 4 f))

abbrev pub frame_length : List ℕ → ℕ
frame_length f = octets_number (take 2 (drop 8 f))

abbrev pub frame_payload : List ℕ → List ℕ
frame_payload f = drop 10 f

-- octets that are no frame: under 10, or a length field of 0 or above 1,024, or a size that is not 10 plus that field
abbrev pub no_frame : List ℕ → Bool
no_frame f =
    nat_lt (length f) 10 || (frame_length f == 0 || (nat_lt 1024 (frame_length f) || not (length f == 10 + frame_length f)))
