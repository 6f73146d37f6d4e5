use Rattle.std.proofs.Common.{◌≡◌, ◌-◌, take, Some, vec_items, sym, ap, ◌∙◌}
use Rattle.std.specs.Option.{option_map}
use Rattle.runs.specs.Readings.{frame_in}
use Rattle.runs.proofs.Changes.{frame_past, frame_here, frame_none, take_least}
use Rattle.runs.proofs.comings.frame_at.Goals as goal

pub returns-in_err-step-clause-value : goal.returns-in_err-step-clause-value
returns-in_err-step-clause-value c =
    ap (option_map (λ x. x.now)) c.from_residual.ensures ∙ sym (frame_past c.args.sent.now c.args.call c.in_err-step.ensures.lookup.3)

pub returns-in_default : goal.returns-in_default
returns-in_default c =
    let step = c.in_ok-step.step.now in
    let found = c.in_ok-step.ensures.lookup in
    record {
      value = sym (frame_here c.args.sent.now c.args.call step found.3.0 found.1 ∙ frame_none step.answer (vec_items step.out) c.in_default.not-Sent);
      short = tt;
    }

pub returns-clause-value : goal.returns-clause-value
returns-clause-value c =
    let step = c.in_ok-step.step.now in
    let found = c.in_ok-step.ensures.lookup in
    let out = c.as_slice-out.result.now in
    let size = c.in-Sent.size in
    let cut : take (c.min.result - 0) out ≡ take size.octets out = take_least size.octets c.min.result out c.min.ensures in
    let here = frame_here c.args.sent.now c.args.call step found.3.0 found.1 in
    ap Some (cut ∙ ap (take size.octets) c.as_slice-out.ensures.value) ∙ sym (here ∙ ap (λ a. frame_in a (vec_items step.out)) c.in-Sent.is)
