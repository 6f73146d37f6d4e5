use Rattle.std.proofs.Common.{◌≡◌, ◌++◌, ℕ, List}
use Rattle.std.specs.Fmt.{HasWritten, IsPlainFormatter}
use Rattle.std.specs.List.{flat_map}
use Rattle.std.specs.Slice.Iter.{chunks_rest, chunks_size}
use Rattle.texts.specs.Dump.{piece}
use Rattle.texts.proofs.dump.PiecesDisplay.fmt.Given as goal

abbrev pub invariant-loop-octets : goal.invariant-loop-octets
invariant-loop-octets g l =
    (chunks_size l.octets-iterator ≡ 16)
    × ((front : List ℕ) × (l.self.octets.now ≡ front ++ chunks_rest l.octets-iterator)
    × (IsPlainFormatter l.initial.f → HasWritten g.W.Write.write_str_gives l.initial.f (flat_map (piece l.self.spaced) front) l.f))
