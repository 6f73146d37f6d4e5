use Rattle.workshop.specs.Fields.{Apart}
use Rattle.workshop.proofs.request.check_words.Given as goal

abbrev pub invariant-loop-i : goal.invariant-loop-i
invariant-loop-i l = Apart l.words l.i-counter
