use Rattle.std.proofs.Common.{sym, refl, ◌∙◌, arith}
use Rattle.stream.proofs.Streams.{later_more, later-zero}
use Rattle.stream.proofs.draws.forward.Goals as goal

pub loop-left-preserved : goal.loop-left-preserved
loop-left-preserved g c =
    let before = g.E.Engine.state c.loop-left.engine in
    later_more g.E.Engine.cipher before _ _ _ _ _ c.draw-count.ensures.moves refl (omega arith)
    ∙ c.loop-left.invariant

pub returns : goal.returns
returns g c = sym (later-zero g.E.Engine.cipher c.loop-left.left _ (omega arith)) ∙ c.loop-left.invariant
