use Rattle.std.proofs.Common.{◌≡◌, ◌+◌, ◌*◌, [], ◌∷◌, ◌++◌, get_or, vec_items, refl, ◌∙◌, rules}
use Rattle.std.specs.Char.{digit_value}
use Rattle.std.specs.Slice.Iter.{chunks_exact_rest, chunks_exact_size}
use Rattle.texts.proofs.Pairs.{left_all, left_more, left_none}
use Rattle.texts.proofs.hex.hex_octets.Goals as goal

pub loop-pair-init : goal.loop-pair-init
loop-pair-init c =
    let size : chunks_exact_size c.into_iter-pair-iterator.result ≡ 2 = search rules in
    let rest : chunks_exact_rest c.into_iter-pair-iterator.result ≡ c.args.text.now = search rules in
    let none : vec_items c.in_ok-octets.octets ≡ [] = search rules in
    let checked = rw c.as_bytes-digits.ensures.value at c.in_ok-check_digits.ensures in
    (size, left_all _ _ _ none rest checked.0 checked.1)

pub loop-pair-preserved : goal.loop-pair-preserved
loop-pair-preserved c =
    let step = c.in-Some.ensures.steps in
    let old = c.loop-pair.invariant in
    let pair = c.in-Some.pair.now in
    let octet : 16 * digit_value (get_or pair 0 0) + digit_value (get_or pair 1 0) ≡ 16 * c.digit_value-high.result + c.digit_value-low.result = rw (c.digit_value-high.ensures, c.digit_value-low.ensures) refl in
    let items : vec_items c.push.new.self ≡ vec_items c.loop-pair.octets ++ (16 * digit_value (get_or pair 0 0) + digit_value (get_or pair 1 0)) ∷ [] = rw octet c.in_ok-push.ensures.items in
    (step.0 ∙ old.0, rw items (left_more _ _ _ pair _ old.1 step.1.0 (step.1.1 ∙ old.0)))

pub returns : goal.returns
returns c =
    let checked = rw c.as_bytes-digits.ensures.value at c.in_ok-check_digits.ensures in
    let few = c.in-None.ensures.steps.1 in
    record {
      all_digits = checked.0;
      even_count = checked.1;
      reads = left_none _ _ _ c.loop-pair.invariant.1 (rw c.loop-pair.invariant.0 at few.0);
    }
