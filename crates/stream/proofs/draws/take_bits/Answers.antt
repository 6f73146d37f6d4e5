use Rattle.std.proofs.Common.{◌≡◌, ℕ, ◌+◌, ◌*◌, ◌%◌, ◌^◌, ◌≤◌, sym, refl, arith, shl_exact}
use lib.Bits.{bit_or, or_shifted_r}
use Rattle.stream.specs.Bits.{packed, first}
use Rattle.stream.specs.Ciphers.{Cipher, later, stream}
use Rattle.stream.proofs.Streams.{later-zero, later_more, packed-stream-add, packed-stream-lt}
use Rattle.stream.proofs.draws.take_bits.Goals as goal

-- n more bits joined above those so far
joined : (c : Cipher) (start s : c.State) (have n count word bits : ℕ)
    → s ≡ later c have start → word ≡ packed (stream c have start)
    → count ≡ n → bits ≡ packed (stream c n s) → have + n ≤ 32
    → bit_or word (bits * 2 ^ have % 2 ^ 32) ≡ packed (stream c (have + count) start)
joined c start s have n count word bits here so_far counted more fits =
    let high = packed-stream-lt c n (later c have start) in
    let whole = shl_exact n have 32 high (omega arith) in
    let low = packed-stream-lt c have start in
    let sum = or_shifted_r (packed (stream c n (later c have start))) have (packed (stream c have start)) low in
    rw (more, so_far, here, counted, whole, sum) (omega (arith, packed-stream-add c have n start))

pub loop-have-init : goal.loop-have-init
unfolding packed first
loop-have-init g c = (omega arith, refl, sym (later-zero g.E.Engine.cipher 0 _ refl))

pub loop-have-preserved : goal.loop-have-preserved
loop-have-preserved g c =
    let cipher = g.E.Engine.cipher in
    let start = g.E.Engine.state c.args.engine.now in
    let inv = c.loop-have.invariant in
    let drawn = c.draw-bits.ensures in (
      omega arith,
      joined cipher start _ _ _ _ _ _ inv.2 inv.1 drawn.count drawn.drawn (omega arith),
      later_more cipher start _ _ _ _ _ inv.2 drawn.moves (omega arith),
    )
