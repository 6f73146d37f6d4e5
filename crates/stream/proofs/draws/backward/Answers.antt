use Rattle.std.proofs.Common.{◌+◌, ◌-◌, ◌*◌, sym, ◌∙◌, arith}
use Rattle.stream.specs.Ciphers.{later}
use Rattle.stream.proofs.Streams.{later_last, later-zero}
use Rattle.stream.proofs.draws.backward.Goals as goal

pub loop-preserved : goal.loop-preserved
loop-preserved g c = λ t e.
    let cipher = g.E.Engine.cipher in
    let left = 8 * c.args.octets - (c.loop.counter + 1) in
    c.back.ensures (later cipher left t) (sym (later_last cipher left _ t (omega arith)) ∙ sym (c.loop.invariant t e))

pub returns : goal.returns
returns g c = λ t e. c.loop.invariant t e ∙ later-zero g.E.Engine.cipher _ t (omega arith)
