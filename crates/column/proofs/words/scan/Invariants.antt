use Rattle.column.proofs.Scanning.{Scanning}
use Rattle.column.proofs.words.scan.Given as goal

abbrev pub invariant-loop-i : goal.invariant-loop-i
invariant-loop-i l = Scanning l.first-items l.i l.mark l.blanks l.first_blank
