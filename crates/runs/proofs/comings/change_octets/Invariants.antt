use Rattle.std.proofs.Common.{◌≡◌, take}
use Rattle.runs.specs.Readings.{changed}
use Rattle.runs.proofs.comings.change_octets.Given as goal

-- the octets so far are changed, the others as they were
abbrev pub invariant-loop-i : goal.invariant-loop-i
invariant-loop-i l = l.octets ≡ changed l.initial.octets (take l.i l.change)
