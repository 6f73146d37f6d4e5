use Rattle.keystreams.proofs.Octets.{moved_on, zeros-covered}
use Rattle.keystreams.proofs.parts.Start.write_keystream.Goals as goal

pub returns : goal.returns
returns g c =
    let cipher = g.E.Engine.cipher in
    let start = c.args.self.now in
    let before = g.E.Engine.state c.place.new.engine in
    let placed = c.in_ok-place.ensures in
    let zeros = c.fill.ensures.after (λ y e. e) in (
      placed.0,
      zeros-covered cipher start.key.now start.iv.now c.fill.new.self c.cover.new.octets before start.first _ placed.1 zeros c.cover.ensures.covered,
      moved_on cipher start.key.now start.iv.now before _ start.first _ _ placed.1 c.cover.ensures.moves c.fill.ensures.len,
    )
