-- Text that is written piece by piece.
use Rattle.std.proofs.Common.{◌≡◌, ℕ, Bool, true, false, ◌+◌, ◌-◌, ◌*◌, ◌/◌, ◌%◌, ◌^◌, ◌<◌, min, Ok, Err, Result, MatchResult, IsOk, Some, option_map, All, subst, List, [], ◌∷◌, ◌++◌, length, get_or, take, drop, refl, sym, ap, ◌∙◌, ⊎_elim, append-nil, arith}
use Rattle.std.specs.Fmt.{HasWritten, IsPlainFormatter, digits_output, styled_digits_output, radix_digits, radix_prefix, shown_prefix, padded_integral, format_spec}
use Rattle.std.proofs.lemmas.Fmt.{hex_byte}
use Rattle.std.specs.declared.fmt.Formatter.{Formatter}
use Rattle.std.specs.List.{range_with_len, flat_map, AllByRecursion}
use Rattle.std.specs.Char.{digit_char}
use Rattle.std.proofs.lemmas.List.Elements.{All-nil, All-cons, All-append}
use Rattle.std.proofs.lemmas.List.Concat.{flat_map-cons}
use Rattle.std.proofs.lemmas.List.FromFn.{map-range_with_len_more}
use Rattle.std.proofs.lemmas.List.{take_more, take_all, take_at, drop_at, drop-drop, drop_all, length-drop, length-append, nil_from_length, flat_map_more, map-id}
use Rattle.std.proofs.lemmas.Bool.{cases_lt}
use Rattle.texts.specs.Dump.{hex_pair, piece, dump_line, line_at, dump_text}

-- a result that cannot be an error
pub accepted : {X E : Type 0} (r : Result X E) (P : X → Type 0) (Q : E → Type 0) → MatchResult r P Q → ((e : E) → Q e → ⊥) → IsOk r
accepted (Ok x) P Q m never = refl
accepted (Err e) P Q m never = absurd (never e m)

digit_small : (d : ℕ) → d < 16 → digit_char d < 128
digit_small d fits = grind (arith)

pair_ascii : (x : ℕ) → x < 256 → All (λ b. b < 128) (hex_pair x)
pair_ascii x fits =
    All-cons (λ b. b < 128) (digit_char (x / 16)) (digit_char (x % 16) ∷ []) (digit_small (x / 16) (omega arith))
    (All-cons (λ b. b < 128) (digit_char (x % 16)) [] (digit_small (x % 16) (omega arith)) (All-nil (λ b. b < 128)))

piece_ascii : (spaced : Bool) (x : ℕ) → x < 256 → All (λ b. b < 128) (piece spaced x)
piece_ascii true x fits = All-cons (λ b. b < 128) 32 (hex_pair x) (omega arith) (pair_ascii x fits)
piece_ascii false x fits = pair_ascii x fits

-- the digits of octets are ASCII, and so are the spaces before them
pub pieces_ascii : (spaced : Bool) (xs : List ℕ) → AllByRecursion (λ x. x < 256) xs → All (λ b. b < 128) (flat_map (piece spaced) xs)
pieces_ascii spaced [] fits = All-nil (λ b. b < 128)
pieces_ascii spaced (x ∷ xs) fits =
    subst (All (λ b. b < 128)) (sym (flat_map-cons (piece spaced) x xs)) (All-append (λ b. b < 128) (piece spaced x) (flat_map (piece spaced) xs) (piece_ascii spaced x fits.0) (pieces_ascii spaced xs fits.1))

-- nothing was written
pub written_none : {W : Type 0} (took : W → List ℕ → W → Type 0) (f : Formatter W) → IsPlainFormatter f → HasWritten took f [] f
written_none took f plain = record { wrote = record { parts = []; calls = refl; whole = refl }; plain = plain }

-- what a hole `{:02x}` writes of an octet
pub octet_written : (n : ℕ) (d : _) (s : _) → n < 256 → digits_output d ≡ Some (radix_digits 16 false n) → s ≡ format_spec 32 0 4 2 (2 ^ 64 - 1) → styled_digits_output d s ≡ Some (hex_pair n)
octet_written n d s fits out spec =
    ap (option_map (padded_integral s false (shown_prefix s (radix_prefix d.base)))) out
    ∙ ap (λ t. Some (padded_integral t false (shown_prefix t (radix_prefix d.base)) (radix_digits 16 false n))) spec
    ∙ ap Some (hex_byte false n fits)

-- a piece for each of the first elements, and that of the next
pub piece_more : (f : ℕ → List ℕ) (xs piece : List ℕ) (i : ℕ) → i < length xs → piece ≡ f (get_or xs i 0) → flat_map f (take i xs) ++ piece ≡ flat_map f (take (i + 1) xs)
piece_more f xs piece i l e =
    ap (λ p. flat_map f (take i xs) ++ p) e ∙ flat_map_more f [] (take i xs) (get_or xs i 0) ∙ ap (flat_map f) (sym (take_more xs i 0 l))

counting_more : (k : ℕ) → range_with_len 0 (k + 1) ≡ range_with_len 0 k ++ k ∷ []
counting_more k = sym (map-id _) ∙ map-range_with_len_more (λ i. i) 0 k k (omega arith) ∙ ap (λ l. l ++ k ∷ []) (map-id _)

-- a front as long as n or the whole list is its first n elements
cut_front : (n : ℕ) (xs front back : List ℕ) → xs ≡ front ++ back → length front ≡ min n (length xs) → (front ≡ take n xs) × (back ≡ drop n xs)
cut_front n xs front back split size =
    let sizes : length xs ≡ length front + length back = ap length split ∙ length-append front back in
    ⊎_elim
    (λ short.
    let none = nil_from_length back (omega arith) in
    (sym (append-nil front) ∙ ap (λ r. front ++ r) (sym none) ∙ sym split ∙ sym (take_all n xs (omega arith)), none ∙ sym (drop_all n xs (omega arith))))
    (λ long. (sym (take_at front back n (omega arith)) ∙ ap (take n) (sym split), sym (drop_at front back n (omega arith)) ∙ ap (drop n) (sym split)))
    (cases_lt (length xs) n)

-- the lines so far of a dump of xs: what they are, the octets that are left, and the offset of the next line
pub record Dumped (start : ℕ) (xs text rest : List ℕ) (offset : ℕ) : Type 0 where
  pub lines : ℕ
  pub written : text ≡ flat_map (line_at start xs) (range_with_len 0 lines)
  pub left : rest ≡ drop (16 * lines) xs
  pub next : offset ≡ min (start + 16 * lines) 0xffff_ffff
  pub few : 16 * lines < length xs + 16

-- no line
pub dumped_none : (start offset : ℕ) (xs rest : List ℕ) → offset < 2 ^ 32 → offset ≡ start → rest ≡ xs → Dumped start xs [] rest offset
dumped_none start offset xs rest fits same all = record { lines = 0; written = refl; left = all; next = omega arith; few = omega arith }

-- one more line
pub dumped_more : (start : ℕ) (xs text rest row after more : List ℕ) (offset : ℕ) → Dumped start xs text rest offset → 0 < length rest → rest ≡ row ++ after → length row ≡ min 16 (length rest) → more ≡ text ++ dump_line offset row → Dumped start xs more after (min (offset + 16) 0xffff_ffff)
dumped_more start xs text rest row after more offset d some split size e =
    let k = d.lines in
    let room : length rest ≡ length xs - 16 * k = ap length d.left ∙ length-drop (16 * k) xs in
    let parts = cut_front 16 rest row after split size in
    let line : dump_line offset row ≡ line_at start xs k = λ i. dump_line (d.next i) ((parts.0 ∙ ap (take 16) d.left) i) in
    record {
      lines = k + 1;
      written = e ∙ (λ i. d.written i ++ line i) ∙ flat_map_more (line_at start xs) [] (range_with_len 0 k) k ∙ ap (flat_map (line_at start xs)) (sym (counting_more k));
      left = parts.1 ∙ ap (drop 16) d.left ∙ drop-drop 16 (16 * k) xs ∙ ap (λ n. drop n xs) (omega arith);
      next = omega (arith, d.next);
      few = omega arith;
    }

pub dumped_all : (start : ℕ) (xs text rest : List ℕ) (offset : ℕ) → Dumped start xs text rest offset → length rest ≡ 0 → text ≡ dump_text start xs
dumped_all start xs text rest offset d e =
    let room : length rest ≡ length xs - 16 * d.lines = ap length d.left ∙ length-drop (16 * d.lines) xs in
    let all : d.lines ≡ (length xs + 15) / 16 = omega (arith, d.few) in
    d.written ∙ ap (λ n. flat_map (line_at start xs) (range_with_len 0 n)) all
