use Rattle.std.proofs.Common.{inl, inr, refl}
use Rattle.histories.specs.Histories.{closed, cut, open_in_session, torn_in_session}
use Rattle.runs.proofs.Steps.{for_call, same_store, unwritten}
use Rattle.runs.proofs.turns.turn_in_session.Goals as goal

pub returns-in-Close : goal.returns-in-Close
returns-in-Close g c =
    for_call _ _ _ _ _ _ _ _ _ c.in-Close.is (record {
      step = same_store g.S.MarkStore.mark g.S.MarkStore.left g.E.Engine.cipher g.S.MarkStore.writes _ _ c.args.sender.store _ c.close.ensures closed;
      beyond = unwritten _ _ _ refl;
    })

pub returns-in-PowerCut : goal.returns-in-PowerCut
returns-in-PowerCut g c =
    for_call _ _ _ _ _ _ _ _ _ c.in-PowerCut.is (record {
      step = same_store g.S.MarkStore.mark g.S.MarkStore.left g.E.Engine.cipher g.S.MarkStore.writes _ _ c.args.sender.store _ c.power_cut.ensures cut;
      beyond = unwritten _ _ _ refl;
    })

pub returns-in-Open : goal.returns-in-Open
returns-in-Open g c = elim c.in-Open.is [
  | inl w ↦ for_call _ _ _ _ _ _ _ _ _ w.1 (record { step = open_in_session; beyond = unwritten _ _ _ refl })
  | inr w ↦ for_call _ _ _ _ _ _ _ _ _ w.3 (record { step = torn_in_session; beyond = unwritten _ _ _ refl })
]
