use Rattle.std.proofs.Common.{◌≡◌}
use Rattle.stream.specs.Bits.{times}
use Rattle.sprout.specs.Sprout.{initial, state_of}
use Rattle.sprout.proofs.engine.Sprout.initialise.Given as goal

-- so many clocks so far
abbrev pub invariant-loop : goal.invariant-loop
invariant-loop l = state_of l.self ≡ times l.counter (initial l.early) (state_of l.initial.self)
