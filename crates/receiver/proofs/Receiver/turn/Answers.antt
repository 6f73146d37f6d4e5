use Rattle.std.proofs.Common.{◌≡◌, ℕ, ◌-◌, List, take, Some, None, Option, sym, refl, ap, ◌∙◌}
use native.Mathlib.Nat.{sub-zero}
use Rattle.stream.specs.Ciphers.{Cipher, session_iv, load_refusal}
use Rattle.stream.proofs.Streams.{later-zero}
use Rattle.link.specs.Receivers.{Known, Stands}
use Rattle.link.specs.Sessions.{state_at, pair_refusal}
use Rattle.link.proofs.Pairings.{loads}
use Rattle.receiver.specs.Receiving.{known}
use Rattle.receiver.proofs.InSession.{paired_of}
use Rattle.receiver.proofs.Receiver.turn.Goals as goal

-- a pairing that is not refused has the engine loaded at the session's start
at_start : (c : Cipher) (key label key-told label-told : List ℕ) (allowance n : ℕ) (s : c.State)
    → key-told ≡ key → label-told ≡ label
    → (load_refusal c key-told (session_iv label-told n) ≡ None → s ≡ c.start key-told (session_iv label-told n))
    → pair_refusal c key label allowance ≡ None → s ≡ state_at c key label n 0
unfolding state_at
at_start c key label key-told label-told allowance n s key_is label_is starts paired =
    let load = loads c key label allowance n paired in
    rw (key_is, label_is) at starts load ∙ sym (later-zero c 0 _ refl)

-- as many octets from the start as the figures say
as_many : (octets : List ℕ) {m n : ℕ} → m ≡ n → take (m - 0) octets ≡ take n octets
as_many octets {m} {n} same = ap (λ k. take k octets) (sub-zero m ∙ same)

-- an engine that was loaded for a session stands at its start
loaded : (c : Cipher) (o : Option Known) (k : Known) (present : Option ℕ) (place n : ℕ) (x s : c.State)
    → o ≡ Some k → (pair_refusal c k.key k.label k.allowance ≡ None → s ≡ state_at c k.key k.label n 0)
    → Stands c o present place x → Stands c o (Some n) 0 s
loaded c o k present place n x s told starts stood =
    rw told (let paired = paired_of c k present place x (rw told at stood) in (paired, starts paired))

pub returns-clause-stands : goal.returns-clause-stands
returns-clause-stands g c =
    let cipher = g.E.Engine.cipher in
    let same = c.figures-figures.ensures in
    let key_is = as_many c.args.pairing.key (ap (λ f. f.key) same) in
    let label_is = as_many c.args.pairing.label (ap (λ f. f.label) same) in
    loaded cipher _ _ _ _ _ _ _ (ap (known cipher) c.requires) (at_start cipher _ _ _ _ _ _ _ key_is label_is c.load_session.ensures.starts)
