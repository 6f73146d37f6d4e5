-- A column by the memory that it holds.
use Rattle.std.specs.Prelude.{ℕ, List}
use Rattle.column.specs.declared.store.Column.{Column}
use Rattle.column.specs.Columns.{column_mark, column_left}

abbrev pub held : Column → List ℕ
held s = s.words.now

abbrev pub held_mark : Column → ℕ
held_mark s = column_mark (held s)

abbrev pub held_left : Column → ℕ
held_left s = column_left (held s)
