use Rattle.std.proofs.Common.{take, vec_items}
use Rattle.bench_run.specs.Noted.{NotedAll}
use Rattle.bench_run.proofs.noting.note_lines.Given as goal

-- the lines so far are taken
abbrev pub invariant-loop-line : goal.invariant-loop-line
invariant-loop-line l = NotedAll l.initial.plan (take l.line-index l.lines) (vec_items l.notes) l.plan
