use Rattle.std.proofs.Common.{◌≡◌, ℕ, List}
use Rattle.std.specs.Fmt.{HasWritten, IsPlainFormatter}
use Rattle.std.specs.Slice.Iter.{chunks_rest, chunks_size}
use Rattle.texts.proofs.Lines.{Dumped}
use Rattle.texts.proofs.dump.DumpDisplay.fmt.Given as goal

abbrev pub invariant-loop-octets : goal.invariant-loop-octets
invariant-loop-octets g l =
    (chunks_size l.octets-iterator ≡ 16)
    × ((text : List ℕ) × Dumped l.self.first l.self.octets.now text (chunks_rest l.octets-iterator) l.offset
    × (IsPlainFormatter l.initial.f → HasWritten g.W.Write.write_str_gives l.initial.f text l.f))
