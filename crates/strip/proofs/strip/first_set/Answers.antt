use Rattle.std.proofs.Common.{◌≡◌, ◌<◌, rules, tests}
use Rattle.std.proofs.lemmas.Iterator.{YieldsList-from_slice, IsFirst-from_position}
use Rattle.strip.proofs.Clearing.{first_found}
use Rattle.strip.proofs.strip.first_set.Goals as goal

pub returns : goal.returns
returns c =
    rw (c.ok_or.ensures.value, ← c.used_octets.ensures.front)
    (first_found c.used_octets.result.now c.position.result (IsFirst-from_position _ _ c.position.result (λ x. 0 < x) (λ x. x ≡ 0) c.position.ensures.ran (YieldsList-from_slice c.used_octets.result.now cc) (λ x q k. search (rules, tests)) (λ x q k. search (rules, tests))))
