use Rattle.std.proofs.Common.{◌≡◌, ◌+◌, ◌-◌, ◌*◌, ◌/◌, ◌%◌, ◌^◌, ◌<◌, ◌∙◌, subst, ap₂, arith}
use lib.Bits.{bit_or}
use Rattle.registers.proofs.Masks.{stacked, moved-lt}
use Rattle.registers.proofs.clocks.moved_by.Goals as goal

pub returns : goal.returns
returns c =
    let r = c.args.r in
    let m = c.args.m in
    let k = c.args.size - m in
    let whole : k + m ≡ c.args.size = omega arith in
    let low : r % 2 ^ c.args.size / 2 ^ m < 2 ^ k = subst (λ n. r % 2 ^ n / 2 ^ m < 2 ^ k) whole (moved-lt r m k) in
    ap₂ (λ a b. bit_or (a / 2 ^ m) (b * 2 ^ k % 2 ^ 128)) c.kept.ensures c.lowest.ensures
    ∙ stacked (r % 2 ^ c.args.size / 2 ^ m) c.args.x m k 128 low (omega arith)
