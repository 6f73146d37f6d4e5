use Rattle.std.proofs.Common.{◌≡◌, length, refl, arith}
use Rattle.std.proofs.lemmas.List.{with_items_is}
use Rattle.receiver.specs.Receiving.{holds}
use Rattle.runs.specs.Readings.{Handled, receiver_as}
use Rattle.runs.proofs.Changes.{lent}
use Rattle.runs.proofs.comings.take_in.Goals as goal

pub returns : goal.returns
returns g c =
    let cipher = g.F.Engine.cipher in
    let state = g.F.Engine.state in
    let step = c.args.step.now in
    let after = c.handled-step.new.out in
    let whole : length after ≡ step.out.len = omega (arith, c.handled-step.auto.out, c.as_mut_slice.ensures.len) in
    record {
      call = refl;
      handled = lent (λ b a. Handled cipher c.args.sent.now (receiver_as cipher (holds cipher state c.args.receiver.now)) step.call b a c.handled-step.result
          (receiver_as cipher (holds cipher state c.handled-step.new.receiver))) _ _ _ _ c.as_mut_slice.ensures.value (with_items_is step.out after whole) c.handled-step.ensures;
    }
