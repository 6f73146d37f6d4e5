use Rattle.std.proofs.Common.{◌≡◌, vec_items}
use Rattle.std.specs.Slice.Iter.{chunks_exact_rest, chunks_exact_size}
use Rattle.texts.proofs.Pairs.{Left}
use Rattle.texts.proofs.hex.hex_octets.Given as goal

abbrev pub invariant-loop-pair : goal.invariant-loop-pair
invariant-loop-pair l = (chunks_exact_size l.pair-iterator ≡ 2) × Left l.text (vec_items l.octets) (chunks_exact_rest l.pair-iterator)
