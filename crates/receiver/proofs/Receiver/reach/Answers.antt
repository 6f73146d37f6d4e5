use Rattle.std.proofs.Common.{◌≡◌, ℕ, ◌+◌, ◌*◌, sym, ap, ◌∙◌, arith}
use Rattle.stream.specs.Ciphers.{Cipher, later}
use Rattle.stream.proofs.Streams.{later-add, later_more}
use Rattle.receiver.proofs.Receiver.reach.Goals as goal
use Rattle.receiver.proofs.Receiver.reach.Goals.{then-from-place, else-from-place}

-- forward by the octets that lie between
ahead : (c : Cipher) (s before after : c.State) (from to d : ℕ)
    → from + d ≡ to → before ≡ later c (8 * from) s → after ≡ later c (8 * d) before → after ≡ later c (8 * to) s
ahead c s before after from to d sum here moved = later_more c s before after (8 * from) (8 * d) (8 * to) here moved (omega arith)

-- back by the octets that lie between
behind : (c : Cipher) (s before after : c.State) (from to d : ℕ)
    → to + d ≡ from → before ≡ later c (8 * from) s → ((t : c.State) → later c (8 * d) t ≡ before → after ≡ t)
    → after ≡ later c (8 * to) s
behind c s before after from to d sum here moved =
    let all : 8 * to + 8 * d ≡ 8 * from = omega arith in
    moved (later c (8 * to) s) (sym (later-add c (8 * to) (8 * d) s) ∙ ap (λ n. later c n s) all ∙ sym here)

pub returns-clause-moves : goal.returns-clause-moves
returns-clause-moves g c = λ s here.
    let cipher = g.E.Engine.cipher in
    let state = g.E.Engine.state in
    elim c.if-from-place.branch [
      | then-from-place w ↦ ap (λ r. state r.engine) w.self-is ∙ ahead cipher s _ _ _ _ _ (omega arith) here w.forward.ensures
      | else-from-place w ↦ ap (λ r. state r.engine) w.self-is ∙ behind cipher s _ _ _ _ _ (omega arith) here w.backward.ensures
    ]
