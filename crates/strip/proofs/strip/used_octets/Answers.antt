use Rattle.std.proofs.lemmas.List.{take_min}
use Rattle.strip.proofs.strip.used_octets.Goals as goal

pub returns-clause-front : goal.returns-clause-front
returns-clause-front c = rw c.min.ensures (take_min 4096 c.args.octets.now)
