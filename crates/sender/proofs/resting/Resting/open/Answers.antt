use Rattle.std.proofs.Common.{ap, ◌∙◌, rules}
use Rattle.stream.specs.Ciphers.{session_iv}
use Rattle.link.proofs.Pairings.{loads}
use Rattle.sender.proofs.resting.Resting.open.Goals as goal

pub returns : goal.returns
returns g c =
    let cipher = g.E.Engine.cipher in
    let key = c.args.key.now in
    let label = c.args.label.now in
    let loaded = loads cipher key label c.args.allowance c.read-session.result c.in_ok-resting.ensures.0 in
    let same = c.in_ok-resting.ensures.1 in
    record {
      unrefused = search rules;
      session_is = search rules;
      place_is = search rules;
      allowance_is = search rules;
      raised = search rules;
      starts = c.load_session.ensures.starts loaded ∙ ap (λ n. cipher.start key (session_iv label n)) (rw same at c.read-session.ensures);
    }
