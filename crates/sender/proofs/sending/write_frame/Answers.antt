use Rattle.std.proofs.Common.{◌≡◌, ℕ, ◌+◌, ◌-◌, ◌*◌, ◌≤◌, List, ◌++◌, length, take, drop, sym, refl, ap, ◌∙◌, arith, length-append, length-drop, length-take, length-take-le, drop-drop, drop_at}
use borrow.Rule.Slice.PartMut.{put_mid}
use Rattle.std.proofs.lemmas.Slice.{between-put_mid, drop-put_mid}
use Rattle.stream.specs.Ciphers.{Cipher, later, cover}
use Rattle.stream.proofs.Streams.{length-cover}
use Rattle.link.specs.Frames.{header}
use Rattle.link.specs.Senders.{sent_frame}
use Rattle.sender.proofs.sending.write_frame.Goals as goal

-- a plain copied behind the room for a header is found there
copied_part : (plain p out : List ℕ) (k : ℕ)
    → k ≡ 10 + length plain - 10 → p ≡ plain → 10 + length plain ≤ length out → take k (drop 10 (put_mid 10 k out p)) ≡ plain
copied_part plain p out k size copied room =
    rw size (between-put_mid 10 _ out p (10 + length plain) (omega arith) (omega (arith, ap length copied))) ∙ copied

-- octets written over the plain stand behind the header, and the rest of the buffer is as it was
behind_header : (plain p q out : List ℕ) (k : ℕ)
    → k ≡ 10 + length plain - 10 → p ≡ plain → 10 + length plain ≤ length out
    → drop 10 (put_mid 10 k (put_mid 10 k out p) q) ≡ q ++ drop (10 + length plain) out
behind_header plain p q out k size copied room =
    let end = 10 + length plain in
    let mid = put_mid 10 k out p in
    let as_long = ap length copied in
    let long : 10 ≤ length mid = simp (length-append, length-take, length-drop) (omega arith) in
    let all : 10 + k ≡ end = omega arith in
    let rest = drop-put_mid 10 k out p end (omega arith) (omega arith) (omega arith) in
    drop_at (take 10 mid) _ 10 (length-take-le 10 mid long)
    ∙ ap (λ zs. q ++ zs) (drop-drop k 10 mid ∙ ap (λ n. drop n mid) all ∙ rest)

-- a plain copied behind the room for a header, covered in place and given its header is its frame
framed : (c : Cipher) (x : c.State) (session place : ℕ) (plain p q out after : List ℕ) (k : ℕ)
    → k ≡ 10 + length plain - 10 → p ≡ plain → 10 + length plain ≤ length out
    → q ≡ cover c x (take k (drop 10 (put_mid 10 k out p)))
    → (10 ≤ length (put_mid 10 k (put_mid 10 k out p) q)
    → after ≡ header session place (length plain) ++ drop 10 (put_mid 10 k (put_mid 10 k out p) q))
    → after ≡ sent_frame c session place x plain ++ drop (10 + length plain) out
framed c x session place plain p q out after k size copied room covered headed =
    let rest = drop (10 + length plain) out in
    let new : q ≡ cover c x plain = covered ∙ ap (cover c x) (copied_part plain p out k size copied room) in
    let behind = behind_header plain p q out k size copied room in
    let long : 10 ≤ length (put_mid 10 k (put_mid 10 k out p) q) =
    simp (length-append, length-take, length-drop) (omega (arith, ap length copied))
    in
    headed long
    ∙ ap (λ zs. header session place (length plain) ++ zs) (behind ∙ ap (λ ys. ys ++ rest) new)
    ∙ ap (λ n. header session place n ++ (cover c x plain ++ rest)) (sym (length-cover c x plain))

pub returns : goal.returns
returns g c =
    let cipher = g.E.Engine.cipher in
    let plain = c.args.plain.now in
    let out = c.args.out.now in
    let copied = c.copy_from_slice.ensures.after in
    let part = copied_part plain _ out _ refl copied c.requires.room in
    record {
      written = framed cipher _ _ _ plain _ _ out _ _ refl copied c.requires.room c.cover.ensures.covered c.write_header.ensures.written;
      moves = c.cover.ensures.moves ∙ ap (λ ys. later cipher (8 * length ys) (g.E.Engine.state c.args.engine.now)) part;
    }
