use Rattle.std.proofs.Common.{◌≡◌, ℕ, ◌+◌, ◌-◌, ◌*◌, ◌/◌, ◌%◌, ◌^◌, ◌<◌, ◌≤◌, List, ◌++◌, length, get_or, take, drop, sym, refl, ap, ◌∙◌, ap₂, append_assoc, append-nil, arith, length-drop, take-append-drop, length-take, take_all, drop-drop, ext_get_or}
use borrow.Rule.Slice.PartMut.{put_mid}
use lib.Bits.{bit_xor}
use Rattle.std.proofs.lemmas.List.{drop_all}
use Rattle.std.proofs.lemmas.Slice.{take-put_mid, drop-put_mid}
use Rattle.stream.specs.Bits.{packed}
use Rattle.stream.specs.Ciphers.{Cipher, later, stream, cover}
use Rattle.stream.proofs.Streams.{later-zero, later_more, packed-stream-octet, length-cover, get_or-cover, cover-append}
use Rattle.stream.proofs.draws.cover.Goals as goal

-- an octet with its octet of a word of output bits added is covered
octet_mixed : (c : Cipher) (s : c.State) (xs : List ℕ) (i word n : ℕ)
    → i < length xs → word ≡ packed (stream c n s) → n ≡ 8 * length xs
    → bit_xor (get_or xs i 0) (word / 2 ^ (8 * i) % 256) ≡ get_or (cover c s xs) i 0
octet_mixed c s xs i word n within taken size =
    let behind = 8 * (length xs - (i + 1)) in
    let bits : n ≡ 8 * i + (8 + behind) = omega arith in
    let word_is = taken ∙ ap (λ m. packed (stream c m s)) bits in
    let octet-is = ap (λ w. w / 2 ^ (8 * i) % 256) word_is ∙ packed-stream-octet c (8 * i) behind s in
    ap (bit_xor (get_or xs i 0)) octet-is ∙ sym (get_or-cover c s xs i within)

-- octets mixed with a word of output bits, eight an octet, are covered
by_word : (c : Cipher) (s : c.State) (xs ys : List ℕ) (word n : ℕ)
    → word ≡ packed (stream c n s) → n ≡ 8 * length xs → length ys ≡ length xs
    → ((i : ℕ) → i < length xs → get_or ys i 0 ≡ bit_xor (get_or xs i 0) (word / 2 ^ (8 * i) % 256))
    → ys ≡ cover c s xs
by_word c s xs ys word n taken size same mixed =
    ext_get_or 0 ys (cover c s xs) (same ∙ sym (length-cover c s xs))
    (λ i h. let within : i < length xs = omega arith in mixed i within ∙ octet_mixed c s xs i word n within taken size)

-- the octets from i to e mixed so, and the engine moved on by as much: covering the rest leads to what it led to before
part_covered : (c : Cipher) (s next : c.State) (xs ys : List ℕ) (i d e word n : ℕ)
    → i + d ≡ e → e ≤ length xs → n ≡ 8 * d → word ≡ packed (stream c n s) → next ≡ later c n s
    → length ys ≡ length (take d (drop i xs))
    → ((k : ℕ) → k < length (take d (drop i xs)) → get_or ys k 0 ≡ bit_xor (get_or (take d (drop i xs)) k 0) (word / 2 ^ (8 * k) % 256))
    → take e (put_mid i d xs ys) ++ cover c next (drop e (put_mid i d xs ys)) ≡ take i xs ++ cover c s (drop i xs)
part_covered c s next xs ys i d e word n end inside bits taken moved same mixed =
    let part = take d (drop i xs) in
    let rest = drop e xs in
    let start : i ≤ length xs = omega arith in
    let size : length part ≡ d = simp (length-take, length-drop) (omega arith) in
    let step : n ≡ 8 * length part = omega arith in
    let behind : drop d (drop i xs) ≡ rest = drop-drop d i xs ∙ ap (λ m. drop m xs) end in
    let split : drop i xs ≡ part ++ rest = sym (take-append-drop d (drop i xs)) ∙ ap (λ zs. part ++ zs) behind in
    let after : later c (8 * length part) s ≡ next = ap (λ m. later c m s) (sym step) ∙ sym moved in
    let new = by_word c s part ys word n taken step same mixed in
    let parts = ap (cover c s) split ∙ cover-append c s part rest in
    let covered = parts ∙ ap₂ (λ zs t. zs ++ cover c t rest) (sym new) after in
    let front = take-put_mid i d xs ys e (omega arith) start in
    let back = drop-put_mid i d xs ys e (omega arith) start (omega arith) in
    rw (front, back, covered) (append_assoc (take i xs) ys (cover c next rest))

-- nothing is left to cover
all_covered : (c : Cipher) (s : c.State) (xs : List ℕ) (n : ℕ) → length xs ≤ n → take n xs ++ cover c s (drop n xs) ≡ xs
unfolding cover
all_covered c s xs n h = rw (take_all, drop_all) (append-nil xs)

pub loop-done-init : goal.loop-done-init
loop-done-init g c = (omega arith, refl, sym (later-zero g.E.Engine.cipher 0 _ refl))

pub loop-done-preserved : goal.loop-done-preserved
loop-done-preserved g c =
    let cipher = g.E.Engine.cipher in
    let start = g.E.Engine.state c.args.engine.now in
    let inv = c.loop-done.invariant in
    let word = c.take_bits-word.ensures in (
      omega arith,
      part_covered cipher _ _ c.loop-done.octets _ _ _ _ _ _ (omega arith) (omega arith) (omega arith)
          word.taken word.moves c.mix.auto.octets c.mix.ensures
          ∙ inv.1,
      later_more cipher start _ _ _ _ _ inv.2 word.moves (omega arith),
    )

pub returns : goal.returns
returns g c =
    let cipher = g.E.Engine.cipher in
    let start = g.E.Engine.state c.args.engine.now in
    let inv = c.loop-done.invariant in
    let all : 8 * c.loop-done.done ≡ 8 * length c.args.octets.now = omega arith in
    record {
      covered = sym (all_covered cipher _ _ _ c.loop-done-test.false) ∙ inv.1;
      moves = inv.2 ∙ ap (λ n. later cipher n start) all;
    }
