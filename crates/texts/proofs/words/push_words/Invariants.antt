use Rattle.std.proofs.Common.{◌++◌, map, vec_items, string_bytes}
use Rattle.std.specs.Str.Iter.{split_whitespace_rest}
use Rattle.texts.specs.Words.{words_of}
use Rattle.texts.proofs.Readings.{Left}
use Rattle.texts.proofs.words.push_words.Given as goal

abbrev pub invariant-loop-word : goal.invariant-loop-word
invariant-loop-word l =
    Left (map string_bytes (vec_items l.words)) (map string_bytes (vec_items l.initial.words) ++ words_of l.text) (split_whitespace_rest l.word-iterator)
