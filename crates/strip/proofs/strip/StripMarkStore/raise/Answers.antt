use Rattle.std.proofs.lemmas.Result.{MatchResult-weaker}
use Rattle.strip.proofs.Raises.{raised, unchanged}
use Rattle.strip.proofs.strip.StripMarkStore.raise.Goals as goal

pub returns-clause-granted : goal.returns-clause-granted
returns-clause-granted c =
    MatchResult-weaker c.clear_lowest.result c.clear_lowest.ensures (λ _ p. (p.0, raised c.args.self.now _ p.0 p.1))
    (λ _ q. (q.0, q.1, unchanged c.args.self.now c.clear_lowest.new.octets q.2))
