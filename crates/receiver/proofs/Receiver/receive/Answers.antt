use Rattle.std.proofs.Common.{◌≡◌, ℕ, ◌+◌, ◌*◌, List, ◌++◌, length, take, drop, pos, ◌-ℤ◌, Some, Option, sym, refl, ap, ◌∙◌, ap₂, arith, w32, SFits, rules}
use Rattle.std.proofs.lemmas.Int.{to_z-of_z}
use Rattle.stream.specs.Ciphers.{Cipher, later, session_iv, cover}
use Rattle.stream.proofs.Streams.{later_more}
use Rattle.link.specs.Frames.{frame_length}
use Rattle.link.specs.Receivers.{Known, place_for, receive_refusal}
use Rattle.link.specs.Sessions.{state_at}
use Rattle.receiver.specs.Receiving.{Reached, InPlace, holds, known, frame_refusal}
use Rattle.receiver.proofs.InSession.{InSession, session_of, stands_at}
use Rattle.receiver.proofs.Receiver.receive.Goals as goal

-- moved from one place of a session to another
moved_to : (c : Cipher) (k : Known) (n here there : ℕ) (before after : c.State)
    → ((s : c.State) → before ≡ later c (8 * here) s → after ≡ later c (8 * there) s)
    → InSession c k n here before → InSession c k n there after
unfolding state_at
moved_to c k n here there before after moves stood = (stood.0, moves (c.start k.key (session_iv k.label n)) stood.1)

-- moved on by so many octets
passed_on : (c : Cipher) (k : Known) (n here size end : ℕ) (before after : c.State)
    → InSession c k n here before → after ≡ later c (8 * size) before → here + size ≡ end → InSession c k n end after
unfolding state_at
passed_on c k n here size end before after stood moved sum =
    (stood.0, later_more c (c.start k.key (session_iv k.label n)) before after (8 * here) (8 * size) (8 * end) stood.1 moved (omega arith))

-- the state reached, said of the frame
reached_at : (c : Cipher) (o : Option Known) (k : Known) (m n p q : ℕ) (x : c.State)
    → o ≡ Some k → m ≡ n → p ≡ q → InSession c k m p x → Reached c o n q x
reached_at c o k m n p q x told session place stood = rw told (stood.1 ∙ ap₂ (state_at c k.key k.label) session place)

-- a frame that is not refused under what was told
allowed_by : (o : Option Known) (k : Known) (f : List ℕ) (room : ℕ) → o ≡ Some k → frame_refusal k.allowance f room ≡ receive_refusal o f room
allowed_by o k f room told = rw told refl

pub returns : goal.returns
returns g c =
    let cipher = g.E.Engine.cipher in
    let fits : SFits w32 c.reach-distance.result = search rules in
    let frame = c.args.frame.now in
    let came = c.in_ok-frame.frame in
    let a = c.in_ok-frame.ensures in
    let told = ap (known cipher) c.in-Some.is in
    let turned = c.turn.ensures in
    let reached = c.reach-distance.ensures in
    let uncovered = c.uncover.ensures in
    let long : length came.payload.now ≡ frame_length frame = ap length a.payload ∙ a.size in
    let p = c.in-Some.pairing in
    let k : Known = record { key = take cipher.figures.key p.key; label = take cipher.figures.label p.label; allowance = p.allowance } in
    let before = holds cipher g.E.Engine.state c.args.self.now in
    let from = g.E.Engine.state c.reach-distance.new.self.engine in
    let at_frame : InPlace cipher before → InSession cipher k came.session came.place from =
    λ stood. moved_to cipher k _ _ _ _ _ reached.moves
    (session_of cipher _ _ k _ _ _ _ (ap (known cipher) turned.pairing) told turned.session (turned.stands stood)) in
    record {
      allowed = sym (allowed_by _ k frame _ told) ∙ a.allowed;
      size = long;
      distance = to_z-of_z w32 _ fits ∙ reached.distance
          ∙ ap₂ (λ m n. pos m -ℤ pos n) a.place (turned.place ∙ ap (place_for before.session before.place) a.session);
      pairing = ap (known cipher) (uncovered.pairing ∙ reached.pairing ∙ turned.pairing);
      session = uncovered.session ∙ reached.session ∙ turned.session ∙ ap Some a.session;
      place = uncovered.place ∙ ap₂ ◌+◌ (reached.place ∙ a.place) long;
      from = from;
      plain = uncovered.plain ∙ ap₂ (λ xs n. cover cipher from xs ++ drop n c.args.out.now) a.payload long;
      reached = λ stood. reached_at cipher _ _ _ _ _ _ _ told a.session a.place (at_frame stood);
      stands = λ stood. stands_at cipher _ _ _ _ _ _ _ (ap (known cipher) (uncovered.pairing ∙ reached.pairing ∙ turned.pairing)) told
          (uncovered.session ∙ reached.session ∙ turned.session)
          (passed_on cipher k _ _ _ _ _ _ (at_frame stood) uncovered.moves (ap (λ n. n + length came.payload.now) (sym reached.place) ∙ sym uncovered.place));
    }
