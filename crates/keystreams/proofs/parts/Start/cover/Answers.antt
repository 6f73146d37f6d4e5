use Rattle.std.proofs.Common.{refl}
use Rattle.keystreams.proofs.Octets.{moved_on, covered_at}
use Rattle.keystreams.proofs.parts.Start.cover.Goals as goal

pub returns : goal.returns
returns g c =
    let cipher = g.E.Engine.cipher in
    let start = c.args.self.now in
    let before = g.E.Engine.state c.place.new.engine in
    let placed = c.in_ok-place.ensures in (
      placed.0,
      covered_at cipher start.key.now start.iv.now c.args.octets.now c.cover.new.octets before start.first placed.1 c.cover.ensures.covered,
      moved_on cipher start.key.now start.iv.now before _ start.first _ _ placed.1 c.cover.ensures.moves refl,
    )
