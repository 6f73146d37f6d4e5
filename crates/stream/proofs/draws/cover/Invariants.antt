use Rattle.std.proofs.Common.{◌≡◌, ◌-◌, ◌*◌, ◌≤◌, ◌++◌, length, take, drop}
use Rattle.stream.specs.Ciphers.{later, cover}
use Rattle.stream.proofs.draws.cover.Given as goal

-- the octets done, with the others covered from the present state, are all of them covered; the engine stands after those done
abbrev pub invariant-loop-done : goal.invariant-loop-done
invariant-loop-done g l =
    let e = g.E.Engine in
    let start = e.state l.initial.engine in
    let rest = cover e.cipher (e.state l.engine) (drop l.done l.octets) in
    (l.done ≤ length l.initial.octets)
    × (take l.done l.octets ++ rest ≡ cover e.cipher start l.initial.octets)
    × (e.state l.engine ≡ later e.cipher (8 * l.done) start)

abbrev pub decreases-loop-done : goal.decreases-loop-done
decreases-loop-done g l = length l.initial.octets - l.done
