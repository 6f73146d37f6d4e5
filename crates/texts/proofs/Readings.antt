-- The words of a text, part by part. A part of a text is the bytes of some characters: `encodes cs` is the bytes of the characters cs.
use Rattle.std.proofs.Common.{◌≡◌, ℕ, ◌<◌, Bool, true, false, take, drop, cond, not, eqb, List, [], ◌∷◌, ◌++◌, length, refl, sym, ap, ◌∙◌, subst, append_assoc, append-nil, arith, length-append}
use mathlib.Core.Bool.{◌&&◌}
use lib.Utf8.{encode, encodes, scalar, scalars}
use Rattle.std.specs.Char.{is_whitespace, is_not_whitespace}
use Rattle.std.specs.Str.{NonePass, NoCharPasses, EmptyOrStartsWithPassing, IsUtf8, chars}
use Rattle.std.proofs.lemmas.Str.{cons_from_encodes, encode_same, length-encode, len_utf8_bounds, encodes_same, encodes-chars, chars_from_encodes, scalars-chars, chars-encodes}
use Rattle.std.specs.Str.Pattern.{HasCharAt}
use Rattle.std.proofs.lemmas.Bool.{ne_eqb}
use Rattle.std.proofs.lemmas.List.{take-append-drop}
use Rattle.texts.specs.Words.{ended, words_after, words_of, FirstLine}

white : (c : ℕ) → is_not_whitespace c ≡ false → is_whitespace c ≡ true
white c n = not_false (is_whitespace c) n
  where
    not_false : (b : Bool) → not b ≡ false → b ≡ true
    not_false true e = refl
    not_false false e = sym e

and_true : (p q : Bool) → (p && q) ≡ true → (p ≡ true) × (q ≡ true)
and_true true q e = (refl, e)
and_true false q e = cc

-- a character of white space, at the end of a word or after it
white_step : (c : ℕ) (w cs : List ℕ) → is_not_whitespace c ≡ false → words_after false w (c ∷ cs) ≡ ended w ++ words_after false [] cs
white_step c w cs n = rw (ne_eqb c 35 (λ e. mark_is_plain (subst (λ d. is_whitespace d ≡ true) e (white c n))), white c n) refl
  where
    mark_is_plain : false ≡ true → ⊥
    mark_is_plain e = cc

-- white space gives no word
pub white_words : (cs ds : List ℕ) → NonePass is_not_whitespace cs → words_after false [] (cs ++ ds) ≡ words_after false [] ds
white_words [] ds n = refl
white_words (c ∷ cs) ds n = white_step c [] (cs ++ ds) n.0 ∙ white_words cs ds n.1

-- characters that are neither white space nor a '#' go on with the word
pub word_words : (w cs ds : List ℕ) → NonePass is_whitespace cs → NonePass (λ d. eqb d 35) cs → words_after false w (cs ++ ds) ≡ words_after false (w ++ encodes cs) ds
word_words w [] ds n m = ap (λ v. words_after false v ds) (sym (append-nil w))
word_words w (c ∷ cs) ds n m =
    rw (m.0, n.0) (word_words (w ++ encode c) cs ds n.1 m.1 ∙ ap (λ v. words_after false v ds) (append_assoc w (encode c) (encodes cs)))

-- what is left of a line after the mark of a comment gives no word
comment_words : (cs : List ℕ) → NonePass (λ d. eqb d 10) cs → words_after true [] cs ≡ []
comment_words [] n = refl
comment_words (c ∷ cs) n = rw n.0 (comment_words cs n.1)

pub mark_words : (w cs ds : List ℕ) → NonePass (λ d. eqb d 35) cs → NonePass (λ d. eqb d 10) ds → words_after false w (cs ++ 35 ∷ ds) ≡ words_after false w cs
mark_words w [] ds m n = ap (λ r. ended w ++ r) (comment_words ds n) ∙ append-nil (ended w)
mark_words w (c ∷ cs) ds m n =
    rw m.0 (λ i. cond (is_whitespace c) (ended w ++ mark_words [] cs ds m.1 n i) (mark_words (w ++ encode c) cs ds m.1 n i))

-- a line, and what follows it
comment_line : (cs ds : List ℕ) → NonePass (λ d. eqb d 10) cs → words_after true [] (cs ++ 10 ∷ ds) ≡ words_after true [] cs ++ words_after false [] ds
comment_line [] ds n = refl
comment_line (c ∷ cs) ds n =
    ap (λ b. words_after (not b) [] (cs ++ 10 ∷ ds)) n.0 ∙ comment_line cs ds n.1
    ∙ ap (λ b. words_after (not b) [] cs ++ words_after false [] ds) (sym n.0)

joined : {X : Type 0} (p q : Bool) (a b c r : List X) → cond p (a ++ r) (cond q (b ++ r) (c ++ r)) ≡ cond p a (cond q b c) ++ r
joined true q a b c r = refl
joined false true a b c r = refl
joined false false a b c r = refl

-- what stands before a comment, and what follows the comment's line
commented_words : (w cs ds es : List ℕ) → NonePass (λ d. eqb d 35) cs → NonePass (λ d. eqb d 10) ds → words_after false w (cs ++ 35 ∷ (ds ++ 10 ∷ es)) ≡ words_after false w cs ++ words_after false [] es
commented_words w [] ds es m n = ap (λ r. ended w ++ r) (comment_line ds es n ∙ ap (λ r. r ++ words_after false [] es) (comment_words ds n))
commented_words w (c ∷ cs) ds es m n =
    let rest = words_after false [] es in
    let spaced = ap (λ r. ended w ++ r) (commented_words [] cs ds es m.1 n) ∙ sym (append_assoc (ended w) (words_after false [] cs) rest) in
    rw m.0
    ((λ i. cond (is_whitespace c) (spaced i) (commented_words (w ++ encode c) cs ds es m.1 n i))
    ∙ joined false (is_whitespace c) [] (ended w ++ words_after false [] cs) (words_after false (w ++ encode c) cs) rest)

-- the first characters of a text
pub parted : (gs cs : List ℕ) (rest : List ℕ) → encodes cs ≡ encodes gs ++ rest → (es : List ℕ) × (cs ≡ gs ++ es) × (encodes es ≡ rest)
parted [] cs rest e = (cs, refl, e)
parted (g ∷ gs) cs rest e =
    let head = cons_from_encodes cs (encodes gs ++ rest) g (e ∙ append_assoc (encode g) (encodes gs) rest) in
    let tail = parted gs head.0 rest head.2 in
    (tail.0, head.1 ∙ ap (λ r. g ∷ r) tail.1, tail.2)

pub none_back : (p : ℕ → Bool) (cs ds : List ℕ) → NonePass p (cs ++ ds) → NonePass p cs × NonePass p ds
none_back p [] ds n = (tt, n)
none_back p (c ∷ cs) ds n = let h = none_back p cs ds n.1 in ((n.0, h.0), h.1)

scalars_back : (cs ds : List ℕ) → scalars (cs ++ ds) ≡ true → (scalars cs ≡ true) × (scalars ds ≡ true)
scalars_back [] ds e = (refl, e)
scalars_back (c ∷ cs) ds e =
    let h = and_true (scalar c) (scalars (cs ++ ds)) e in
    let t = scalars_back cs ds h.1 in
    (rw (h.0, t.0) refl, t.1)

-- a word that has a byte ends before white space, and at the end of the text
word_ends : (w cs more : List ℕ) → 0 < length w → EmptyOrStartsWithPassing is_whitespace (encodes cs) more → words_after false w cs ≡ w ∷ words_after false [] cs
word_ends [] cs more some next = absurd (omega arith)
word_ends (b ∷ bs) [] more some next = refl
word_ends (b ∷ bs) (c ∷ cs) more some next =
    let n = next (omega (arith, length-append (encode c) (encodes cs), length-encode c, len_utf8_bounds c)) in
    let same = encode_same c n.0 (encodes cs) more n.2 in
    let gap : is_not_whitespace c ≡ false = ap is_not_whitespace same.0 ∙ ap not n.1 in
    white_step c (b ∷ bs) cs gap ∙ ap (λ r. (b ∷ bs) ∷ r) (sym (white_step c [] cs gap))

-- the words that are found, and the text that is left, where that has no comment
pub record Left (words all : List (List ℕ)) (rest : List ℕ) : Type 0 where
  pub chars : List ℕ
  pub spelled : encodes chars ≡ rest
  pub unmarked : NonePass (λ d. eqb d 35) chars
  pub joined : words ++ words_after false [] chars ≡ all

-- the whole text
pub left_all : (words : List (List ℕ)) (text : List ℕ) → IsUtf8 text → NoCharPasses (λ d. eqb d 35) text → Left words (words ++ words_of text) text
left_all words text utf8 none = record {
  chars = chars text;
  spelled = encodes-chars text utf8;
  unmarked = subst (NonePass (λ d. eqb d 35)) (chars_from_encodes none.0 text utf8 none.1) none.2;
  joined = refl;
}

-- one more word
pub left_more : (words all : List (List ℕ)) (rest gap word after more : List ℕ) → Left words all rest → rest ≡ gap ++ (word ++ after) → 0 < length word
    → NoCharPasses is_not_whitespace gap → NoCharPasses is_whitespace word → EmptyOrStartsWithPassing is_whitespace after more → Left (words ++ word ∷ []) all after
left_more words all rest gap word after more left split some white plain next =
    let g = parted white.0 left.chars (word ++ after) (left.spelled ∙ split ∙ ap (λ r. r ++ (word ++ after)) (sym white.1)) in
    let x = parted plain.0 g.0 after (g.2 ∙ ap (λ r. r ++ after) (sym plain.1)) in
    let whole : left.chars ≡ white.0 ++ (plain.0 ++ x.0) = g.1 ∙ ap (λ r. white.0 ++ r) x.1 in
    let unmarked = none_back (λ d. eqb d 35) white.0 (plain.0 ++ x.0) (subst (NonePass (λ d. eqb d 35)) whole left.unmarked) in
    let none = none_back (λ d. eqb d 35) plain.0 x.0 unmarked.1 in
    let ends = word_ends (encodes plain.0) x.0 more (subst (λ w. 0 < length w) (sym plain.1) some) (subst (λ r. EmptyOrStartsWithPassing is_whitespace r more) (sym x.2) next) in
    let found : words_after false [] left.chars ≡ word ∷ words_after false [] x.0 =
    ap (words_after false []) whole ∙ white_words white.0 (plain.0 ++ x.0) white.2 ∙ word_words [] plain.0 x.0 plain.2 none.0 ∙ ends
    ∙ ap (λ w. w ∷ words_after false [] x.0) plain.1 in
    record {
      chars = x.0;
      spelled = x.2;
      unmarked = none.1;
      joined = append_assoc words (word ∷ []) (words_after false [] x.0) ∙ ap (λ r. words ++ r) (sym found) ∙ left.joined;
    }

-- nothing but white space is left
pub left_none : (words all : List (List ℕ)) (rest : List ℕ) → Left words all rest → NoCharPasses is_not_whitespace rest → words ≡ all
left_none words all rest left white =
    let same = encodes_same left.chars white.0 (left.spelled ∙ sym white.1) in
    let none : words_after false [] left.chars ≡ [] =
    ap (words_after false []) (same ∙ sym (append-nil white.0)) ∙ white_words white.0 [] white.2 in
    sym (append-nil words) ∙ ap (λ r. words ++ r) (sym none) ∙ left.joined

-- a text cut at a character
record Cut (c : ℕ) (text part rest : List ℕ) : Type 0 where
  pub before : List ℕ
  pub after : List ℕ
  pub whole : chars text ≡ before ++ c ∷ after
  pub part_is : chars part ≡ before
  pub rest_is : chars rest ≡ after
  pub rest_utf8 : IsUtf8 rest
  pub none : (p : ℕ → Bool) → NonePass p (chars text) → NonePass p after
  pub free : (p : ℕ → Bool) → NoCharPasses p part → NonePass p before

cut_at : (c : ℕ) (text part rest : List ℕ) → IsUtf8 text → (n : NoCharPasses (λ d. eqb d c) part) → text ≡ part ++ (encode c ++ rest) → Cut c text part rest
cut_at c text part rest utf8 n split =
    let p = parted n.0 (chars text) (encode c ++ rest) (encodes-chars text utf8 ∙ split ∙ ap (λ r. r ++ (encode c ++ rest)) (sym n.1)) in
    let q = cons_from_encodes p.0 rest c p.2 in
    let all : chars text ≡ n.0 ++ c ∷ q.0 = p.1 ∙ ap (λ r. n.0 ++ r) q.1 in
    let good = scalars_back n.0 (c ∷ q.0) (ap scalars (sym all) ∙ scalars-chars text utf8) in
    let tail = (and_true (scalar c) (scalars q.0) good.1).1 in
    record {
      before = n.0;
      after = q.0;
      whole = all;
      part_is = ap chars (sym n.1) ∙ chars-encodes n.0 good.0;
      rest_is = ap chars (sym q.2) ∙ chars-encodes q.0 tail;
      rest_utf8 = (q.0, (tail, q.2));
      none = λ p m. (none_back p n.0 (c ∷ q.0) (subst (NonePass p) all m)).1.1;
      free = λ p m. subst (NonePass p) (encodes_same m.0 n.0 (m.1 ∙ sym n.1)) m.2;
    }

-- the words of a text are those before its first '#', where no line follows that
pub marked : (text shown rest : List ℕ) → IsUtf8 text → NoCharPasses (λ d. eqb d 35) shown → text ≡ shown ++ (encode 35 ++ rest) → NoCharPasses (λ d. eqb d 10) rest → words_of text ≡ words_of shown
marked text shown rest utf8 none split one =
    let c = cut_at 35 text shown rest utf8 none split in
    let left = subst (NonePass (λ d. eqb d 10)) (chars_from_encodes one.0 rest c.rest_utf8 one.1 ∙ c.rest_is) one.2 in
    ap (words_after false []) c.whole ∙ mark_words [] c.before c.after (c.free _ none) left ∙ sym (ap (words_after false []) c.part_is)

-- the words of a text are those before its first '#', and those of the lines that follow that of the '#'
pub commented : (text shown comment rest : List ℕ) → IsUtf8 text → NoCharPasses (λ d. eqb d 35) shown → text ≡ shown ++ (encode 35 ++ comment) → FirstLine comment rest
    → (words_of text ≡ words_of shown ++ words_of rest) × IsUtf8 rest
unfolding encode
commented text shown comment rest utf8 none split line =
    let c = cut_at 35 text shown comment utf8 none split in
    let d = cut_at 10 comment line.line rest c.rest_utf8 line.plain line.whole in (
      ap (words_after false []) (c.whole ∙ ap (λ r. c.before ++ 35 ∷ r) (sym c.rest_is ∙ d.whole)) ∙ commented_words [] c.before d.before d.after (c.free _ none) (d.free _ line.plain)
          ∙ (λ i. words_after false [] (sym c.part_is i) ++ words_after false [] (sym d.rest_is i)),
      d.rest_utf8,
    )

-- a text cut around the first of a character
pub around : (c : ℕ) (text part rest : List ℕ) (i j : ℕ) → NoCharPasses (λ d. eqb d c) (take i text) × HasCharAt c text i j → part ≡ take i text → rest ≡ drop j text
    → NoCharPasses (λ d. eqb d c) part × (text ≡ part ++ (encode c ++ rest))
around c text part rest i j found front back = (
  subst (NoCharPasses (λ d. eqb d c)) (sym front) found.0,
  sym (take-append-drop i text) ∙ (λ k. sym front k ++ (found.1.split ∙ ap (λ r. encode c ++ r) (sym back)) k),
)
