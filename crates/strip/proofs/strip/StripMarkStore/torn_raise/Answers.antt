use Rattle.std.proofs.Common.{◌≡◌, cond, ap, ◌∙◌, arith}
use Rattle.std.proofs.lemmas.Result.{MatchResult-weaker}
use Rattle.std.proofs.lemmas.Bool.Decides.{nat_tests}
use Rattle.strip.specs.Strips.{raised_by, writes_made}
use Rattle.strip.specs.Memories.{memory}
use Rattle.strip.proofs.Raises.{torn, unchanged}
use Rattle.strip.proofs.strip.StripMarkStore.torn_raise.Goals as goal
use Rattle.strip.proofs.strip.StripMarkStore.torn_raise.Goals.{then-writes_done-ge-WRITES, else-writes_done-ge-WRITES}

made : (c : goal.After-clear_lowest) → raised_by (cond c.if-writes_done-ge-WRITES.written 1 0) (memory c.args.self.now) ≡ raised_by (writes_made 1 c.args.writes_done c.args.junk) (memory c.args.self.now)
made c =
    ap (λ k. raised_by k (memory c.args.self.now))
    (elim c.if-writes_done-ge-WRITES.branch [
      | then-writes_done-ge-WRITES w ↦ grind (arith, nat_tests)
      | else-writes_done-ge-WRITES w ↦ grind (arith, nat_tests)
    ])

pub returns-clause-granted : goal.returns-clause-granted
returns-clause-granted c =
    MatchResult-weaker c.clear_lowest.result c.clear_lowest.ensures
    (λ _ p. (p.0, torn c.args.self.now _ c.args.writes_done c.args.junk p.0 (p.1 ∙ made c)))
    (λ _ q. (q.0, q.1, unchanged c.args.self.now c.clear_lowest.new.octets q.2))

pub returns-clause-exact : goal.returns-clause-exact
returns-clause-exact c = MatchResult-weaker c.clear_lowest.result c.clear_lowest.ensures (λ _ p. p.1 ∙ made c) (λ _ q. q.2)
