-- What was written before makes no difference to what code does: this project's own.
use Rattle.std.specs.Prelude.{◌≡◌, ℕ, List, ◌++◌}
use Rattle.bqn_base.specs.declared.place.Place.{Place}
use Rattle.bqn_rows.specs.Plain.{Value}
use Rattle.bqn_rows.specs.Calls.{Call}
use Rattle.bqn_rows.specs.Running.{Res, Gives, Ends}
use Rattle.bqn_code.specs.declared.instr.Instr.{Instr}
use Rattle.bqn_code.specs.Numbering.{Table}
use Rattle.bqn_execution.specs.States.{State, Halted, Spends, Sticks}
use Rattle.bqn_execution.specs.Variables.{Frame}
use Rattle.bqn_execution.specs.Operands.{Stack}
use Rattle.bqn_execution.specs.Execution.{exec, runs}
use Rattle.bqn_execution.specs.Programs.{run_all}

-- with these bytes in front of what is written
abbrev pub behind : List ℕ → State → State
behind w s = record s { written = w ++ s.written }

abbrev pub onto : {A : Type 0} → List ℕ → Res Halted State A → Res Halted State A
onto w (Gives a s) = Gives a (behind w s)
onto w (Ends (Spends s)) = Ends (Spends (behind w s))
onto w (Ends (Sticks u)) = Ends (Sticks u)

-- from a state with more in front it does the same, with that in front
abbrev pub Uniform : {A : Type 0} → (State → Res Halted State A) → Type 0
Uniform m = (w : List ℕ) (s : State) → m (behind w s) ≡ onto w (m s)

-- of all calls, of code in a body, and of programs
pub record OutputMakesNoDifference : Type 0 where
  pub of_calls : (t : Table) (args : Value) (room : ℕ) (c : Call) → Uniform (runs t args room c)
  pub of_code : (t : Table) (args : Value) (room : ℕ) (f : Frame) (code : List (Instr × Place)) (st : Stack) → Uniform (exec t args (runs t args room) f code st)
  pub of_programs : (t : Table) (args : Value) (room : ℕ) → Uniform (run_all t args room)
