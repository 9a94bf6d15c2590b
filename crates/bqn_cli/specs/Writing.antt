-- What an answer leaves in a sink.
use Rattle.std.specs.Prelude.{◌≡◌, ℕ, List, Option, Some, None, Result, Ok, Err}
use Rattle.bqn_base.specs.declared.status.Status.{Status}
use Rattle.bqn_base.specs.declared.status.Status.TheVariants as status
use Rattle.bqn_base.specs.declared.refusal.Refusal.TheVariants.{TooLong}
use Rattle.bqn_io.specs.declared.files.Fetched.{Fetched}
use Rattle.bqn_io.specs.declared.files.Fetched.TheVariants.{Whole, Longer}
use Rattle.bqn_io.specs.Writing.{Adds, AddsPart, Breaks}
use Rattle.bqn_forms.specs.Execution.{Run}
use Rattle.bqn_cli.specs.declared.halted.Halted.{Halted}
use Rattle.bqn_cli.specs.declared.halted.Halted.TheVariants.{Memory, WriteFault}
use Rattle.bqn_cli.specs.Answer.{Answer, ended, refused}

-- the status that is answered
abbrev pub status_of : Result Status Halted → Status
status_of (Ok answered) = answered
status_of (Err Memory) = status.Memory
status_of (Err WriteFault) = status.WriteFault

-- the answer to what a fetch gave
abbrev pub fetched_answer : (List ℕ → Answer) → Fetched → Answer
fetched_answer answer_of (Whole source) = answer_of source
fetched_answer answer_of Longer = refused TooLong

module _ {K : Type 0} (written : K → Option (List ℕ)) (room faults : K → ℕ) where
  -- an answer is given: all its bytes, and its status; want of memory and a failed put leave a front of its bytes
  abbrev pub Gives : Answer → K → K → Result Status Halted → Type 0
  Gives answer old new (Ok status) = (answer.status ≡ status) × Adds written room faults old new answer.out
  Gives answer old new (Err Memory) = AddsPart written room faults old new answer.out
  Gives answer old new (Err WriteFault) = Breaks written room faults old new answer.out

  -- the answer of a run that never misses an operand
  abbrev pub GivesRun : Run → K → K → Result Status Halted → Type 0
  GivesRun None old new result = ⊥
  GivesRun (Some run) old new result = Gives (ended run) old new result
