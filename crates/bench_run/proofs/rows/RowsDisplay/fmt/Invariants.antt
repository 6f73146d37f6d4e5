use Rattle.std.proofs.Common.{◌≡◌, ℕ, ◌+◌, List, ◌++◌}
use Rattle.std.specs.Fmt.{HasWritten, IsPlainFormatter}
use Rattle.std.specs.Iterator.Adapters.{enumerate_source, enumerate_count, zip_first, zip_second}
use Rattle.std.specs.Slice.Iter.{iter_rest}
use Rattle.bench_run.specs.Rows.{rows_text}
use Rattle.bench_run.proofs.rows.RowsDisplay.fmt.Given as goal

-- the rows so far, and those of the lines that are left
abbrev pub invariant-loop-index : goal.invariant-loop-index
invariant-loop-index g l =
    let rows = rows_text l.self.steps.calls.now l.self.steps.receipts.now in
    let left = enumerate_source l.index-iterator in
    (text : List ℕ)
    × (text ++ rows (enumerate_count l.index-iterator + 1) (iter_rest (zip_first left)) (iter_rest (zip_second left)) ≡ rows 1 l.self.lines.now l.self.notes.now)
    × (IsPlainFormatter l.initial.f → HasWritten g.W.Write.write_str_gives l.initial.f text l.f)
