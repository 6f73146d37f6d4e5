use Rattle.std.proofs.Common.{◌≡◌, ◌-◌, ◌≤◌}
use Rattle.stream.specs.Bits.{packed}
use Rattle.stream.specs.Ciphers.{later, stream}
use Rattle.stream.proofs.draws.take_bits.Given as goal

-- the word is the bits so far, and the engine stands after them
abbrev pub invariant-loop-have : goal.invariant-loop-have
invariant-loop-have g l =
    let e = g.E.Engine in
    let start = e.state l.initial.engine in
    (l.have ≤ l.wanted)
    × (l.word ≡ packed (stream e.cipher l.have start))
    × (e.state l.engine ≡ later e.cipher l.have start)

abbrev pub decreases-loop-have : goal.decreases-loop-have
decreases-loop-have g l = l.wanted - l.have
