use Rattle.std.proofs.Common.{ap, refl, ◌∙◌}
use Rattle.std.proofs.lemmas.List.{take_min}
use Rattle.column.specs.Scans.{pairs}
use Rattle.column.proofs.Scanning.{chunks_pairs}
use Rattle.column.proofs.words.used_pairs.Goals as goal

pub returns-clause-value : goal.returns-clause-value
returns-clause-value c = c.as_chunks.ensures.front ∙ chunks_pairs _ _ refl ∙ ap pairs (rw c.min.ensures (take_min 8192 c.args.words.now))
