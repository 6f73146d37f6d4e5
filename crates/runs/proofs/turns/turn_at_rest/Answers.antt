use Rattle.std.proofs.Common.{inl, inr, refl}
use Rattle.histories.specs.Histories.{send_at_rest, close_at_rest, cut_at_rest}
use Rattle.runs.proofs.Steps.{for_call, same_store, unwritten}
use Rattle.runs.proofs.turns.turn_at_rest.Goals as goal

pub returns-in-Send : goal.returns-in-Send
returns-in-Send g c = λ out. elim c.in-Send.is [
  | inl w ↦ for_call _ _ _ _ _ _ _ _ _ w.1 (record { step = send_at_rest; beyond = unwritten _ _ _ refl })
  | inr e ↦ for_call _ _ _ _ _ _ _ _ _ e (record { step = close_at_rest; beyond = unwritten _ _ _ refl })
]

pub returns-in-PowerCut : goal.returns-in-PowerCut
returns-in-PowerCut g c =
    λ out. for_call _ _ _ _ _ _ _ _ _ c.in-PowerCut.is (record {
      step = same_store g.S.MarkStore.mark g.S.MarkStore.left g.E.Engine.cipher g.S.MarkStore.writes _ _ c.args.sender.store _ c.power_cut.ensures cut_at_rest;
      beyond = unwritten _ _ _ refl;
    })
