use Rattle.std.proofs.Common.{inr}
use Rattle.workshop.proofs.Parts.{kept}
use Rattle.keystreams.proofs.replies.reply_to.Goals as goal

pub returns-in-Ok : goal.returns-in-Ok
returns-in-Ok c = (
  c.in_ok-request.request,
  kept c.read_request.result c.try_map_err.result _ _ _ _ c.try_map_err.ensures.cases c.in_ok-request.was c.read_request.ensures,
  (c.in-Ok.report, c.in-Ok.ensures, c.in_ok-format-in-Ok.ensures.ok),
)

pub returns : goal.returns
returns c =
    inr (
      c.in_ok-request.request,
      kept c.read_request.result c.try_map_err.result _ _ _ _ c.try_map_err.ensures.cases c.in_ok-request.was c.read_request.ensures,
      (c.in-Err.fault, c.in-Err.ensures, c.in_ok-format-in-Err.ensures.ok),
    )
