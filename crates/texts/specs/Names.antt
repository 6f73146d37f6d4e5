-- The names of ciphers, and decimal numbers of 32 bits.
use Rattle.std.specs.Prelude.{◌≡◌, ℕ, ◌^◌, ◌<◌, List, length, codes, Result, MatchResult, ◌≢◌}
use Rattle.std.specs.Str.Parse.{AllDigits, digits_value}
use Rattle.texts.specs.declared.names.CipherName.{CipherName}
use Rattle.texts.specs.declared.names.CipherName.TheVariants.{Grain128, Grain128Wide, Grain128a, Grain128aWide, Sprout}

-- the word by which a cipher is asked for
abbrev pub cipher_word : CipherName → List ℕ
cipher_word Grain128 = codes "grain128"
cipher_word Grain128Wide = codes "grain128x32"
cipher_word Grain128a = codes "grain128a"
cipher_word Grain128aWide = codes "grain128ax32"
cipher_word Sprout = codes "sprout"

-- what a word gives that is read as a name, where the name of x is `name x`: the x that has that name, or an error where none has it
abbrev pub Names : {X E : Type 0} → (X → List ℕ) → List ℕ → Result X E → Type 0
Names {X} name w r = MatchResult r (λ x. w ≡ name x) (λ _. (x : X) → w ≢ name x)

-- the text is one or more decimal digits and writes n, which fits 32 bits
pub record DecimalOf (bs : List ℕ) (n : ℕ) : Type 0 where
  pub some : 0 < length bs
  pub all_digits : AllDigits 10 bs
  pub reads : n ≡ digits_value 10 bs
  pub fits : n < 2 ^ 32
