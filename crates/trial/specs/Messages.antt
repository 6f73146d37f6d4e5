-- What is printed for a line that a plan cannot take.
use Rattle.std.specs.Prelude.{ℕ, List, codes}
use Rattle.trial.specs.declared.plan.PlanFault.{PlanFault}
use Rattle.trial.specs.declared.plan.PlanFault.TheVariants.{Late, NoSuchSend, NoMemory}

-- why the line cannot be taken
abbrev pub plan_fault_text : PlanFault → List ℕ
plan_fault_text Late = codes "engines and memory are set before the first step"
plan_fault_text NoSuchSend = codes "no line above sends a frame of that number"
plan_fault_text NoMemory = codes "no memory"
