use Rattle.workshop.proofs.request.Words.message.Goals as goal

pub returns-in-Some-Some : goal.returns-in-Some-Some
returns-in-Some-Some c =
    let octets = rw c.in-Some-Some.is-0 at c.in_ok-message.ensures in
    ((octets.0, octets.1), (c.in-Some-Some.field-0-1.now, c.in-Some-Some.ensures))
