-- What running a code gives, and a further code over the variables of those before it: this project's own.
use Rattle.std.specs.Prelude.{ℕ, ◌-◌, List, [], ◌∷◌, ◌++◌, length, map, replicate, slice_get, Option, Some, None, Result, Ok, Err}
use Rattle.bqn_base.specs.declared.fault.Fault.{Fault}
use Rattle.bqn_rows.specs.Raised.{Raised}
use Rattle.bqn_base.specs.declared.fault.Fault.TheVariants.{NoBody}
use Rattle.bqn_rows.specs.Plain.{Value, Array, none, unfilled}
use Rattle.bqn_rows.specs.Calls.{no_arguments}
use Rattle.bqn_rows.specs.Running.{Gives, Ends, open_calls}
use Rattle.bqn_syntax.specs.declared.tree.Class.TheVariants as class
use Rattle.bqn_meaning.specs.Actions.{◌>>=◌, pure, fault}
use Rattle.bqn_meaning.specs.Frames.{args_value}
use Rattle.bqn_meaning.specs.Meaning.{Ending, NextBody, EndsWith}
use Rattle.bqn_code.specs.Plain.{Code}
use Rattle.bqn_execution.specs.States.{Environment, State, Spends, Sticks, Ran, Does, stuck, stepped}
use Rattle.bqn_code.specs.Numbering.{BodyAt, Table, table_of}
use Rattle.bqn_execution.specs.Variables.{Frame}
use Rattle.bqn_execution.specs.Execution.{exec, placed_code, runs}

-- what is kept between codes: the environments, all codes so far in their order, and the steps that are left
pub record Kept : Type 0 where
  pub environments : List Environment
  pub codes : List Code
  pub left : ℕ

-- before the first code: the top environment alone
abbrev pub fresh : (steps : ℕ) → Kept
fresh steps = record { environments = record { body = 0; parent = 0; variables = [] } ∷ []; codes = []; left = steps }

-- ---- running

abbrev pub slots_in : Option BodyAt → ℕ
slots_in None = 0
slots_in (Some b) = b.body.slots

-- an environment has all variables of its body; further ones, as a top body may have, have no value yet
abbrev pub widened : Table → Environment → Environment
widened t e = record e { variables = e.variables ++ replicate (slots_in (slice_get t.bodies e.body) - length e.variables) None }

abbrev pub begun : Table → State → State
begun t s = record s { environments = map (widened t) s.environments }

abbrev pub top_frame : BodyAt → Frame
top_frame b = record { here = b.here; block = 0; class = class.Immediate; body = 0; environment = 0; outer = 0; operands = none; arguments = no_arguments }

-- the answer of the program may be Nothing
abbrev pub top_answer : Ending → Does (Option Value)
top_answer NextBody = fault NoBody
top_answer (EndsWith p x) = pure x

-- the top body is run, which takes a step
abbrev pub run_top : Table → (args : Value) → (room : ℕ) → Option BodyAt → Does (Option Value)
run_top t args room None = stuck
run_top t args room (Some b) = λ s. stepped (exec t args (runs t args room) (top_frame b) (placed_code b.body) [] >>= top_answer) (begun t s)

abbrev pub run_all : Table → (args : Value) → (room : ℕ) → Does (Option Value)
run_all t args room = run_top t args room (slice_get t.bodies 0)

abbrev pub codes_with : Kept → Code → List Code
codes_with kept code = kept.codes ++ code ∷ []

-- nothing is written before a code
abbrev pub state_of : Kept → State
state_of kept = record { environments = kept.environments; written = []; left = kept.left }

-- a further code, where at most so many calls may be open
abbrev pub exec_within : (room : ℕ) → (args : Value) → Kept → Code → Ran (Option Value)
exec_within room args kept code = run_all (table_of (codes_with kept code)) args room (state_of kept)

-- `•args` without words
abbrev pub no_words : Value
no_words = Array (0 ∷ []) none unfilled

-- a further line of a session
abbrev pub exec_more : Kept → Code → Ran (Option Value)
exec_more kept code = exec_within open_calls no_words kept code

abbrev pub exec_on : Result Value Fault → Code → (steps : ℕ) → Ran (Option Value)
exec_on (Ok args) code steps = exec_within open_calls args (fresh steps) code
exec_on (Err f) code steps = fault f (state_of (fresh steps))

-- a code by itself; `•args` of these words is made before the first step
abbrev pub exec_program : Code → (words : List (List ℕ)) → (steps : ℕ) → Ran (Option Value)
exec_program code words steps = exec_on (args_value words) code steps

-- ---- what a run has given

pub data Outcome : Type 0 where
  -- the answer, or Nothing
  Done : Option Value → Outcome
  Faulted : Raised → Outcome
  -- one more step is needed than is left
  Spent : Outcome
  -- an operand or an object is missing
  Stuck : Outcome

abbrev pub outcome : Ran (Option Value) → Outcome
outcome (Gives (Ok x) s) = Done x
outcome (Gives (Err f) s) = Faulted f
outcome (Ends (Spends s)) = Spent
outcome (Ends (Sticks u)) = Stuck

-- the state at the end; code that is stuck has none
abbrev pub final : Ran (Option Value) → Option State
final (Gives r s) = Some s
final (Ends (Spends s)) = Some s
final (Ends (Sticks u)) = None

abbrev pub written_in : Option State → List ℕ
written_in None = []
written_in (Some s) = s.written

-- the bytes that this code wrote
abbrev pub written : Ran (Option Value) → List ℕ
written ran = written_in (final ran)

abbrev pub kept_in : Kept → Code → Option State → Kept
kept_in kept code None = kept
kept_in kept code (Some s) = record { environments = s.environments; codes = codes_with kept code; left = s.left }

-- what is kept behind a code
abbrev pub kept_behind : Kept → Code → Ran (Option Value) → Kept
kept_behind kept code ran = kept_in kept code (final ran)
