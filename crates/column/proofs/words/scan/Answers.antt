use Rattle.std.proofs.Common.{◌≡◌, ℕ, ◌+◌, max, cond, List, [], get_or, Some, sym, arith}
use Rattle.std.specs.Option.{option_or}
use Rattle.std.proofs.lemmas.Bool.{cond-true, cond-false}
use Rattle.column.proofs.Scanning.{pair_mark, pair_blank, scan_steps, scan_ends}
use Rattle.column.proofs.words.scan.Goals as goal
use Rattle.column.proofs.words.scan.Goals.{then-counted, else-counted, then-erased, else-erased}

pub loop-i-preserved : goal.loop-i-preserved
loop-i-preserved c =
    let ps : List (List ℕ) = c.used_pairs-first-items.result.now in
    let i : ℕ = c.loop-i.i in
    let p : List ℕ = get_or ps i [] in
    let mark_is : c.if-counted.mark ≡ max c.loop-i.mark (pair_mark p) =
    elim c.if-counted.branch [
      | then-counted w ↦ omega (arith, w.mark-is, w.max-mark.ensures, cond-true _ (get_or p 0 0) 0 (sym w.if-counted.ensures))
      | else-counted w ↦ omega (arith, w.mark-is, cond-false _ (get_or p 0 0) 0 (sym w.if-counted.ensures))
    ] in
    let blanks_are : c.if-erased.blanks ≡ c.loop-i.blanks + cond (pair_blank p) 1 0 =
    elim c.if-erased.branch [
      | then-erased w ↦ omega (arith, w.blanks-is, cond-true {A = ℕ} (pair_blank p) 1 0 (sym w.if-erased.ensures))
      | else-erased w ↦ omega (arith, w.blanks-is, cond-false {A = ℕ} (pair_blank p) 1 0 (sym w.if-erased.ensures))
    ] in
    let first_is : c.if-erased.first_blank ≡ cond (pair_blank p) (option_or c.loop-i.first_blank (Some i)) c.loop-i.first_blank =
    elim c.if-erased.branch [
      | then-erased w ↦ cc (cond-true (pair_blank p) (option_or c.loop-i.first_blank (Some i)) c.loop-i.first_blank (sym w.if-erased.ensures))
      | else-erased w ↦ cc (cond-false (pair_blank p) (option_or c.loop-i.first_blank (Some i)) c.loop-i.first_blank (sym w.if-erased.ensures))
    ] in
    scan_steps ps i c.loop-i-test.true _ _ _ _ _ _ mark_is blanks_are first_is c.loop-i.invariant

pub returns : goal.returns
returns c =
    scan_ends c.args.words.now _ c.loop-i.i _ _ _ c.used_pairs-first-items.ensures.value (omega arith) c.loop-i.invariant
