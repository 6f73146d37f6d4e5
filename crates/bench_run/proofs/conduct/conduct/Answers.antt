use Rattle.std.proofs.Common.{◌≡◌, length, ◌∙◌, arith}
use Rattle.std.proofs.lemmas.List.{with_items_is}
use Rattle.std.proofs.lemmas.Result.{IfOk-weaker}
use Rattle.bench_run.proofs.conduct.conduct.Goals as goal

pub returns : goal.returns
returns c =
    let plan = c.note_lines.new.plan in
    let all-calls : length c.perform.new.calls ≡ plan.calls.len = omega (arith, c.perform.auto.calls, c.as_mut_slice.ensures.len) in
    let all-receipts : length c.perform.new.receipts ≡ plan.receipts.len = omega (arith, c.perform.auto.receipts, c.as_mut_slice-2.ensures.len) in
    let calls-are : c.as_slice.result.now ≡ c.perform.new.calls = c.as_slice.ensures.value ∙ with_items_is plan.calls c.perform.new.calls all-calls in
    let receipts-are : c.as_slice-2.result.now ≡ c.perform.new.receipts = c.as_slice-2.ensures.value ∙ with_items_is plan.receipts c.perform.new.receipts all-receipts in
    IfOk-weaker c.written.result _ _
    (λ r w. record {
      start = c.in_ok-plan.plan;
      blank = c.in_ok-plan.ensures;
      plan = plan;
      notes = c.as_slice-3.result.now;
      noted = rw c.as_slice-3.ensures.value c.in_ok-notes.ensures;
      calls = c.as_slice.result.now;
      receipts = c.as_slice-2.result.now;
      performed = rw (calls-are, receipts-are, ← c.as_mut_slice.ensures.value, ← c.as_mut_slice-2.ensures.value) c.perform.ensures;
      written = w;
    })
    c.written.ensures
