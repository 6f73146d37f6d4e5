use Rattle.std.proofs.Common.{◌≡◌, ◌-◌}
use Rattle.stream.specs.Bits.{times}
use Rattle.registers.specs.Registers.{initial_by, held_by}
use Rattle.registers.proofs.pair.Pair.initialised.Given as goal

-- what is left to do leads from the registers reached to those wanted
abbrev pub invariant-loop-done : goal.invariant-loop-done
invariant-loop-done g l =
    let shape = g.T.Taps.shape l.taps in
    times (l.clocks - l.done) (initial_by shape) (held_by shape l.reached) ≡ times l.clocks (initial_by shape) (held_by shape l.initial.reached)

abbrev pub decreases-loop-done : goal.decreases-loop-done
decreases-loop-done g l = l.clocks - l.done
