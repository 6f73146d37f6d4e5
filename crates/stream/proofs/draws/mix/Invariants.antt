use Rattle.std.proofs.Common.{◌≡◌, ℕ, ◌*◌, ◌/◌, ◌%◌, ◌^◌, ◌<◌, ◌≤◌, get_or}
use lib.Bits.{bit_xor}
use Rattle.stream.proofs.draws.mix.Given as goal

-- the octets below the index are mixed, the others are as they were
abbrev pub invariant-loop-x : goal.invariant-loop-x
invariant-loop-x l =
    (l.rest ≡ l.word / 2 ^ (8 * l.x-index))
    × ((i : ℕ) → i < l.x-index → get_or l.octets i 0 ≡ bit_xor (get_or l.initial.octets i 0) (l.word / 2 ^ (8 * i) % 256))
    × ((i : ℕ) → l.x-index ≤ i → get_or l.octets i 0 ≡ get_or l.initial.octets i 0)
