-- The words of a text: white space stands between them, and a '#' with what follows it on its line is a comment.
-- `chars bs` is the characters of the text bs, `encode c` the bytes of the character c, and `is_whitespace c` says that c is white space.
use Rattle.std.specs.Prelude.{◌≡◌, ℕ, Bool, true, false, cond, not, List, [], ◌∷◌, ◌++◌, ◌==◌}
use Rattle.std.proofs.Math.Utf8.{encode}
use Rattle.std.specs.Char.{is_whitespace}
use Rattle.std.specs.Str.{NoCharPasses, chars}

-- a word that has come to its end, if it has a byte
abbrev pub ended : List ℕ → List (List ℕ)
ended [] = []
ended (b ∷ bs) = (b ∷ bs) ∷ []

-- the words to come, where the characters cs are to come, `word` is what stands of the word so far, and `comment` says whether a comment is being passed over
abbrev pub words_after : Bool → List ℕ → List ℕ → List (List ℕ)
words_after comment word [] = ended word
words_after true word (c ∷ cs) = words_after (not (c == 10)) word cs
words_after false word (c ∷ cs) = cond (c == 35) (ended word ++ words_after true [] cs) (cond (is_whitespace c) (ended word ++ words_after false [] cs) (words_after false (word ++ encode c) cs))

-- the words of a text
abbrev pub words_of : List ℕ → List (List ℕ)
words_of bs = words_after false [] (chars bs)

-- a text is a line, which has no newline, then a newline, and then the rest
pub record FirstLine (text rest : List ℕ) : Type 0 where
  pub line : List ℕ
  pub plain : NoCharPasses (λ c. c == 10) line
  pub whole : text ≡ line ++ 10 ∷ rest
