use Rattle.std.proofs.Common.{◌<◌, ◌≤◌, arith, rules, tests}
use Rattle.std.specs.Char.{digit_value}
use Rattle.std.proofs.lemmas.Iterator.{IsFirst-from_position, YieldsList-from_slice}
use Rattle.std.proofs.option.Match.{if_some}
use Rattle.texts.proofs.hex.check_digits.Goals as goal

pub returns-in-Some : goal.returns-in-Some
returns-in-Some c =
    let first = if_some _ _ _ c.in-Some.is
    (IsFirst-from_position _ _ _ (λ x. 16 ≤ digit_value x) (λ x. digit_value x < 16) c.position.ensures.ran (YieldsList-from_slice _ c.iter.ensures.rest)
    (λ x q k. search (rules, tests)) (λ x q k. search (rules, tests))) in
    (first.0, λ i h. first.2 i 0 (omega arith) h, first.1 0)
