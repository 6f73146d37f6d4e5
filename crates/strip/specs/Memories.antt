-- What the code's strip means: the octets that it was lent.
use Rattle.std.specs.Prelude.{ℕ, List}
use Rattle.strip.specs.Strips.{strip_mark, strip_left}
use Rattle.strip.specs.declared.strip.Strip.{Strip}

abbrev pub memory : Strip → List ℕ
memory s = s.octets.now

-- its mark and its raises left
abbrev pub mark_in : Strip → ℕ
mark_in s = strip_mark (memory s)

abbrev pub left_in : Strip → ℕ
left_in s = strip_left (memory s)
