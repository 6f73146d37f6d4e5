use Rattle.std.proofs.Common.{◌≡◌, length, refl, arith}
use Rattle.std.proofs.lemmas.List.{with_items_is}
use Rattle.runs.specs.Readings.{Acted, stage_as}
use Rattle.runs.proofs.Changes.{lent}
use Rattle.runs.proofs.turns.turn.Goals as goal

pub returns : goal.returns
returns g c =
    let cipher = g.E.Engine.cipher in
    let as-sender = stage_as cipher g.E.Engine.state g.S.MarkStore.mark g.S.MarkStore.left in
    let step = c.args.step.now in
    let after = c.acted-stage.new.out in
    let whole : length after ≡ step.out.len = omega (arith, c.acted-stage.auto.out, c.as_mut_slice.ensures.len) in
    record {
      call = refl;
      acted = lent (λ b a. Acted cipher g.S.MarkStore.writes (as-sender c.args.stage) step.call b a c.acted-stage.result.1 (as-sender c.acted-stage.result.0)) _ _ _ _
          c.as_mut_slice.ensures.value (with_items_is step.out after whole) c.acted-stage.ensures;
      marks = c.store_numbers.ensures;
    }
