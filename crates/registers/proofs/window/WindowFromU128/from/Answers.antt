use Rattle.std.proofs.Common.{◌/◌, ◌^◌, ◌<◌, sym, arith}
use lib.Bits.{and_mask}
use lib.Pow.{shr_mod}
use Rattle.registers.specs.Words.{window_of}
use Rattle.registers.proofs.window.WindowFromU128.from.Goals as goal

pub returns : goal.returns
unfolding window_of
returns c =
    let fits : c.args.r < 2 ^ 128 = omega arith in
    λ i. record {
      low = and_mask c.args.r 64 i;
      middle = and_mask (c.args.r / 2 ^ 32) 64 i;
      high = sym (shr_mod {n = c.args.r} 64 64 fits) i;
    }
