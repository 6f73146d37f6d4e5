use Rattle.std.proofs.Common.{◌≡◌, ◌+◌, [], ◌++◌, refl, rules}
use Rattle.std.proofs.Output.{has_written_append, has_written_of_eq}
use Rattle.std.specs.Iterator.Adapters.{enumerate_source, enumerate_count, zip_first, zip_second}
use Rattle.std.specs.Slice.Iter.{iter_rest}
use Rattle.bench_run.specs.Rows.{answer_text, row_text, rows_text}
use Rattle.bench_run.proofs.Lines.{rows_more, rows_all}
use Rattle.bench_run.proofs.rows.RowsDisplay.fmt.Goals as goal

pub loop-index-init : goal.loop-index-init
loop-index-init g c =
    let all = c.args.self.now in
    let items = c.into_iter-index-iterator.result in
    let count : enumerate_count items ≡ 0 = search rules in
    let lines : iter_rest (zip_first (enumerate_source items)) ≡ all.lines.now = search rules in
    let notes : iter_rest (zip_second (enumerate_source items)) ≡ all.notes.now = search rules in
    ([], (λ i. rows_text all.steps.calls.now all.steps.receipts.now (count i + 1) (lines i) (notes i)), λ p. record { wrote = record { parts = []; calls = refl; whole = refl }; plain = p })

pub loop-index-preserved : goal.loop-index-preserved
loop-index-preserved g c =
    let step = c.in-Some.ensures.steps in
    let old = c.loop-index.invariant in
    let all = c.args.self.now in
    let calls = all.steps.calls.now in
    let receipts = all.steps.receipts.now in
    let items = c.loop-index.index-iterator in
    let rest = c.next.new.self in
    let row = row_text (c.in-Some.index + 1) c.as_str.result.now (answer_text c.in-Some.note.now calls receipts) in (
      old.0 ++ row,
      rows_more calls receipts c.in-Some.index (enumerate_count items) (enumerate_count rest) (iter_rest (zip_first (enumerate_source items))) (iter_rest (zip_first (enumerate_source rest)))
          (iter_rest (zip_second (enumerate_source items))) (iter_rest (zip_second (enumerate_source rest))) c.in-Some.line.now c.in-Some.note.now c.as_str.result.now old.0
          (rows_text calls receipts 1 all.lines.now all.notes.now) step.0.0 step.0.1 step.1 step.2 c.as_str.ensures.value old.1,
      λ p. has_written_append g.W.Write.write_str_gives c.args.f.now old.0 c.loop-index.f row c.write.new.self (old.2 p) (c.write.ensures.writes (old.2 p).plain (search rules)),
    )

pub returns-clause-writes : goal.returns-clause-writes
returns-clause-writes g c =
    let old = c.loop-index.invariant in
    let all = c.args.self.now in
    let calls = all.steps.calls.now in
    let receipts = all.steps.receipts.now in
    let items = c.loop-index.index-iterator in
    let text = rows_all calls receipts (enumerate_count items + 1) (iter_rest (zip_first (enumerate_source items))) (iter_rest (zip_second (enumerate_source items))) old.0
    (rows_text calls receipts 1 all.lines.now all.notes.now) c.in-None.ensures.steps.0 (λ e. e.1.0) (λ e. e.1.0) old.1 in
    λ p ok. has_written_of_eq g.W.Write.write_str_gives c.args.f.now old.0 (rows_text calls receipts 1 all.lines.now all.notes.now) c.loop-index.f text (old.2 p)
