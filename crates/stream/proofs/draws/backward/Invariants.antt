use Rattle.std.proofs.Common.{◌≡◌, ◌-◌, ◌*◌}
use Rattle.stream.specs.Ciphers.{later}
use Rattle.stream.proofs.draws.backward.Given as goal

-- the engine stands as many clocks after the state wanted as are left
abbrev pub invariant-loop : goal.invariant-loop
invariant-loop g l =
    let e = g.E.Engine in
    (t : e.cipher.State)
    → later e.cipher (8 * l.octets) t ≡ e.state l.initial.engine
    → e.state l.engine ≡ later e.cipher (8 * l.octets - l.counter) t
