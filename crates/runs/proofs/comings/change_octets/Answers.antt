use Rattle.std.proofs.Common.{sym, ◌∙◌, arith}
use Rattle.runs.proofs.Changes.{changed_none, changed_more, changed_all}
use Rattle.runs.proofs.comings.change_octets.Goals as goal

pub loop-i-init : goal.loop-i-init
loop-i-init c = sym (changed_none c.args.octets.now)

pub loop-i-preserved : goal.loop-i-preserved
loop-i-preserved c =
    changed_more c.args.octets.now c.args.change.now c.loop-i.octets c.loop-i.i c.loop-i.invariant (omega arith) (omega arith)

pub returns : goal.returns
returns c = c.loop-i.invariant ∙ changed_all c.args.octets.now c.args.change.now c.loop-i.i (omega arith)
