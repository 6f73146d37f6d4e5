use Rattle.std.proofs.Common.{◌≤◌, length}
use denote.Param.Always.{always_mut}
use Rattle.speed.proofs.links.written_in_turn.Given as goal

abbrev pub invariant-loop-piece : goal.invariant-loop-piece
invariant-loop-piece g l =
    (goal.iterator-loop-piece g).can_next l.piece-iterator ×
    (goal.iterator-loop-piece g).is_finite l.piece-iterator ×
    (always_mut g.F.FnMut l.initial.write → always_mut g.F.FnMut l.write) ×
    (l.written ≤ length l.out)
