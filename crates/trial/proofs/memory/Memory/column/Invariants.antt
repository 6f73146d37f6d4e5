use Rattle.std.proofs.Common.{◌≡◌, ◌++◌, vec_items}
use Rattle.std.specs.Slice.Iter.{chunks_exact_rest, chunks_exact_size}
use Rattle.trial.specs.Plans.{words_in}
use Rattle.trial.proofs.memory.Memory.column.Given as goal

-- the words so far, and those of the octets that are left
abbrev pub invariant-loop-word : goal.invariant-loop-word
invariant-loop-word l =
    (chunks_exact_size l.word-iterator ≡ 4)
    × (vec_items l.words ++ words_in (chunks_exact_rest l.word-iterator) ≡ words_in l.octets)
