-- What a program means: its outcome, and the bytes that it writes. Steps and open calls, and their limits, are this project's own.
use Rattle.std.specs.Prelude.{ℕ, List, [], ◌∷◌, Option, Result, Ok, Err}
use Rattle.bqn_base.specs.declared.fault.Fault.{Fault}
use Rattle.bqn_rows.specs.Plain.{Value}
use Rattle.bqn_rows.specs.Raised.{Raised, unplaced}
use Rattle.bqn_rows.specs.Running.{Gives, Ends, open_calls}
use Rattle.bqn_syntax.specs.grammar.Trees.{Stmts}
use Rattle.bqn_syntax.specs.blocks.Blocks.{no_lines}
use Rattle.bqn_meaning.specs.Environments.{State, Ran}
use Rattle.bqn_meaning.specs.Frames.{args_value}
use Rattle.bqn_meaning.specs.Sessions.{line}

-- the top environment alone
abbrev pub at_start : (steps : ℕ) → State
at_start steps = record { environments = record { body = 0; parent = 0; variables = [] } ∷ []; written = []; left = steps }

-- an answer, which may be Nothing, a fault, or one more step being needed than is left
pub data Outcome : Type 0 where
  Answers : Option Value → Outcome
  Faults : Raised → Outcome
  IsSpent : Outcome

-- how an evaluation ends, and the bytes that it writes
pub record Evaluated : Type 0 where
  pub outcome : Outcome
  pub written : List ℕ

abbrev pub outcome_of : Result (Option Value) Raised → Outcome
outcome_of (Ok v) = Answers v
outcome_of (Err f) = Faults f

abbrev pub evaluated_of : Ran (Option Value) → Evaluated
evaluated_of (Gives r s) = record { outcome = outcome_of r; written = s.written }
evaluated_of (Ends s) = record { outcome = IsSpent; written = s.written }

-- `•args` is made before the first step
abbrev pub with_args : (room : ℕ) → Stmts → (steps : ℕ) → Result Value Fault → Evaluated
with_args room ss steps (Ok args) = evaluated_of (line room no_lines args ss (at_start steps))
with_args room ss steps (Err f) = record { outcome = Faults (unplaced f); written = [] }

-- a program, where so many calls may be open
abbrev pub evaluated_within : (room : ℕ) → Stmts → (words : List (List ℕ)) → (steps : ℕ) → Evaluated
evaluated_within room ss words steps = with_args room ss steps (args_value words)

-- a program
abbrev pub evaluated : Stmts → (words : List (List ℕ)) → (steps : ℕ) → Evaluated
evaluated = evaluated_within open_calls
