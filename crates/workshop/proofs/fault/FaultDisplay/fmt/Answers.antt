use Rattle.workshop.proofs.fault.FaultDisplay.fmt.Goals as goal

pub returns-in-BadWord-clause-writes : goal.returns-in-BadWord-clause-writes
returns-in-BadWord-clause-writes g c = rw c.in-BadWord.is c.write.ensures.writes
