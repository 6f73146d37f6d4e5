-- What becomes of the lines of a scenario.
use Rattle.std.specs.Prelude.{◌≡◌, ℕ, List, [], ◌∷◌, string_bytes, String, Result, Ok, Err}
use Rattle.scenario.specs.Says.{Says, Unsaid}
use Rattle.scenario.specs.declared.line.Line.{Line}
use Rattle.trial.specs.Plans.{Does, NotTaken}
use Rattle.trial.specs.declared.plan.Plan.{Plan}
use Rattle.trial.specs.declared.plan.Planned.{Planned}
use Rattle.bench_run.specs.declared.note.BadLine.{BadLine}
use Rattle.bench_run.specs.declared.note.BadLine.TheVariants.{Unread, Untaken}

-- a line, read and taken into a plan p, which is q afterwards
abbrev pub Noted : Plan → List ℕ → Result Planned BadLine → Plan → Type 0
Noted p line (Ok x) q = (l : Line) × Says line l × Does p q x l
Noted p line (Err (Unread e)) q = Unsaid line e × (q ≡ p)
Noted p line (Err (Untaken e)) q = (l : Line) × Says line l × NotTaken p q l e

-- lines in a row, each with what became of it
abbrev pub NotedAll : {Y : Type 0} → Plan → List (String Y) → List (Result Planned BadLine) → Plan → Type 0
NotedAll p [] [] q = p ≡ q
NotedAll p [] (n ∷ ns) q = ⊥
NotedAll p (line ∷ lines) [] q = ⊥
NotedAll p (line ∷ lines) (n ∷ ns) q = (u : Plan) × Noted p (string_bytes line) n u × NotedAll u lines ns q
