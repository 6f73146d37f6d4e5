-- What the steps of a trial did, over the engines and the store that it names.
use Rattle.std.specs.Prelude.{ℕ, List, None, vec_items}
use Rattle.stream.specs.Ciphers.{Cipher}
use Rattle.strip.specs.Strips.{strip_mark, strip_left}
use Rattle.column.specs.Columns.{column_mark, column_left}
use Rattle.histories.specs.Histories.{Marks, at_rest, receiver}
use Rattle.histories.specs.Promises.{Promise}
use Rattle.runs.specs.Readings.{SenderRan, ReceiverRan, entries, events}
use Rattle.runs.specs.declared.calls.SenderStep.{SenderStep}
use Rattle.runs.specs.declared.calls.ReceiverStep.{ReceiverStep}
use Rattle.trial.specs.declared.memory.Memory.{Memory}
use Rattle.trial.specs.declared.memory.Memory.TheVariants.{Strip, Column}

-- the mark and the raises left of the store over a memory
abbrev pub marks_in : Memory → Marks
marks_in (Strip octets) = (strip_mark (vec_items octets), strip_left (vec_items octets))
marks_in (Column words) = (column_mark (vec_items words), column_left (vec_items words))

-- how many writes a raise of that store makes
abbrev pub writes_in : Memory → ℕ
writes_in (Strip octets) = 1
writes_in (Column words) = 2

-- All steps were made: a sender over the cipher c and the store, from its making; a receiver over the cipher d, from its making, over an engine in some state `from`,
-- on which no answer depends. Every answer is the one that the rules give, and the promise over whole runs holds.
pub record Performed (c d : Cipher) (memory : Memory) (calls made : List SenderStep) (receipts taken : List ReceiverStep) : Type 0 where
  pub sender : SenderRan c (writes_in memory) (at_rest (marks_in memory)) calls made
  pub from : d.State
  pub receiver : ReceiverRan d made (receiver None None 0 from) receipts taken
  pub promise : Promise c d (entries calls made) (events made receipts taken)
