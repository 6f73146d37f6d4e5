use Rattle.std.proofs.Common.{◌≡◌, ℕ, ◌+◌, ◌*◌, ◌/◌, ◌%◌, ◌^◌, ◌<◌, ◌≢◌, length, ap, ◌∙◌, arith, get_or-set_other, get_or-set_same, shr-shr, below_more}
use lib.Bits.{and_mask}
use Rattle.stream.proofs.draws.mix.Goals as goal

-- a word moved down by eight once more
moved_down : (word rest i : ℕ) → rest ≡ word / 2 ^ (8 * i) → rest / 256 ≡ word / 2 ^ (8 * (i + 1))
moved_down word rest i e =
    let sum : 8 * i + 8 ≡ 8 * (i + 1) = omega arith in
    ap (λ n. n / 256) e ∙ shr-shr word (8 * i) 8 ∙ ap (λ k. word / 2 ^ k) sum

pub loop-x-preserved : goal.loop-x-preserved
loop-x-preserved c =
    let i = c.loop-x.x-index in
    let inv = c.loop-x.invariant in
    let octets = c.loop-x.octets in
    let within : i < length octets = omega arith in
    let low = and_mask c.loop-x.rest 8 ∙ ap (λ n. n % 256) inv.0 in (
      moved_down _ _ i inv.0,
      below_more _ _
          (λ k h. let other : k ≢ i = omega arith in rw get_or-set_other (inv.1 k h))
          (rw (get_or-set_same, low, inv.2 i (omega arith))),
      λ k h. let other : k ≢ i = omega arith in rw get_or-set_other (inv.2 k (omega arith)),
    )
