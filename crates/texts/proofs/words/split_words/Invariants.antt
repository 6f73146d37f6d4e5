use Rattle.std.proofs.Common.{◌≡◌, ◌++◌, map, length, vec_items, string_bytes}
use denote.Text.{Utf8}
use denote.Shadow.{shadow}
use Rattle.texts.specs.Words.{words_of}
use Rattle.texts.proofs.words.split_words.Given as goal

abbrev pub invariant-loop-shown : goal.invariant-loop-shown
invariant-loop-shown l = shadow (Utf8 l.rest) × (map string_bytes (vec_items l.words) ++ words_of l.rest ≡ words_of l.text)

abbrev pub decreases-loop-shown : goal.decreases-loop-shown
decreases-loop-shown l = length l.rest
