use Rattle.std.proofs.Common.{◌≡◌, ℕ, ◌+◌, ◌-◌, sym, ap, ◌∙◌, arith}
use Rattle.stream.specs.Bits.{times}
use Rattle.stream.proofs.Packed.{times-add}
use Rattle.registers.specs.Registers.{Registers, held_by, initial_by}
use Rattle.registers.proofs.Strides.{none_moved}
use Rattle.registers.proofs.pair.Pair.initialised.Goals as goal

-- m clocks and then the rest of them
in_turn : (next : Registers → Registers) (m rest all : ℕ) (from to : Registers)
    → to ≡ times m next from → m + rest ≡ all → times rest next to ≡ times all next from
in_turn next m rest all from to there sum =
    ap (times rest next) there ∙ sym (times-add m rest next from) ∙ ap (λ n. times n next from) sum

pub loop-done-init : goal.loop-done-init
loop-done-init g c =
    let shape = g.T.Taps.shape c.args.taps in
    ap (λ n. times n (initial_by shape) (held_by shape c.args.self)) (omega arith)

pub loop-done-preserved : goal.loop-done-preserved
loop-done-preserved g c =
    in_turn (initial_by (g.T.Taps.shape c.args.taps)) c.min.result _ _ _ _ c.initialised_by-reached.ensures (omega arith) ∙ c.loop-done.invariant

pub returns : goal.returns
returns g c = none_moved (c.args.clocks - c.loop-done.done) _ _ (omega arith) ∙ c.loop-done.invariant

pub returns-2 : goal.returns-2
returns-2 g c =
    let shape = g.T.Taps.shape c.args.taps in
    c.initialised_by-reached.ensures ∙ ap (λ n. times n (initial_by shape) (held_by shape c.loop-done.reached)) (omega arith) ∙ c.loop-done.invariant
