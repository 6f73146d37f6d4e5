use Rattle.std.proofs.Common.{arith}
use Rattle.strip.proofs.Octets.{lowest_cleared}
use Rattle.strip.proofs.strip.without_lowest.Goals as goal

pub returns : goal.returns
returns c = lowest_cleared c.args.octet (omega arith)
