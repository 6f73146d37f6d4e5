use Rattle.std.proofs.Common.{◌≡◌, ◌*◌}
use Rattle.stream.specs.Ciphers.{later}
use Rattle.stream.proofs.draws.forward.Given as goal

-- the clocks that are left lead to the state wanted
abbrev pub invariant-loop-left : goal.invariant-loop-left
invariant-loop-left g l =
    let e = g.E.Engine in
    later e.cipher l.left (e.state l.engine) ≡ later e.cipher (8 * l.octets) (e.state l.initial.engine)

abbrev pub decreases-loop-left : goal.decreases-loop-left
decreases-loop-left g l = l.left
