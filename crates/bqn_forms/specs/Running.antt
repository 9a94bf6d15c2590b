-- What a run of code has done to a sink, and how it ends.
use Rattle.std.specs.Prelude.{◌≡◌, ℕ, ℤ, List, [], ◌∷◌, ◌++◌, slice_get, Option, Some, None, Result, Ok, Err}
use Rattle.bqn_base.specs.declared.fault.Fault.TheVariants.{Undefined}
use Rattle.bqn_base.specs.declared.place.Place.{Place}
use Rattle.bqn_io.specs.Writing.{Adds, AddsPart, Breaks}
use Rattle.bqn_forms.specs.declared.function.Callee.{Callee}
use Rattle.bqn_forms.specs.declared.raised.Raised.{Raised}
use Rattle.bqn_forms.specs.Evaluation.{Res, Gives, Faults, Spends, raised, answer_at, output_of}
use Rattle.bqn_forms.specs.declared.code.Instr.{Instr}
use Rattle.bqn_forms.specs.declared.code.Instr.TheVariants.{Const, Load, Define, Call1, Call2, Pop}
use Rattle.bqn_forms.specs.declared.end.End.{End}
use Rattle.bqn_forms.specs.declared.end.End.TheVariants as end
use Rattle.bqn_forms.specs.Execution.{Run}

-- what one instruction makes of the stack, and what it writes
pub record Act : Type 0 where
  pub answer : Result (List ℤ) Raised
  pub output : List ℕ

abbrev pub pushed : List ℤ → Result ℤ Raised → Result (List ℤ) Raised
pushed stack (Ok y) = Ok (y ∷ stack)
pushed stack (Err f) = Err f

-- a call on the top; none where it is missing
abbrev pub top_act : Callee → Option ℤ → List ℤ → Option Act
top_act f left [] = None
top_act f left (x ∷ stack) = Some (record { answer = pushed stack (answer_at f left x); output = output_of f.function left x })

abbrev pub loaded : Place → List ℤ → Option ℤ → Result (List ℤ) Raised
loaded place stack None = Err (raised place Undefined)
loaded place stack (Some v) = Ok (v ∷ stack)

-- an instruction on a stack and the values of the names; none where an operand is missing
abbrev pub act : Instr → List ℤ → List ℤ → Option Act
act (Const x) stack vars = Some (record { answer = Ok (x ∷ stack); output = [] })
act (Load number place) stack vars = Some (record { answer = loaded place stack (slice_get vars number); output = [] })
act Define [] vars = None
act Define (x ∷ stack) vars = Some (record { answer = Ok (x ∷ stack); output = [] })
act (Call1 f) stack vars = top_act f None stack
act (Call2 f) [] vars = None
act (Call2 f) (w ∷ stack) vars = top_act f (Some w) stack
act Pop [] vars = None
act Pop (x ∷ stack) vars = Some (record { answer = Ok stack; output = [] })

-- the values of the names behind an instruction
abbrev pub vars_behind : Instr → List ℤ → List ℤ → List ℤ
vars_behind Define (x ∷ stack) vars = vars ++ x ∷ []
vars_behind _ stack vars = vars

-- the bytes that were written when a run ended
abbrev pub written_by : Res (Unit {0}) → List ℕ
written_by (Gives u s) = s.written
written_by (Faults f s) = s.written
written_by (Spends s) = s.written

-- the value of a name is pushed, or it has none
abbrev pub Loads : Result (List ℤ) Raised → List ℤ → Result (Unit {0}) End → Type 0
Loads answer stack (Ok u) = answer ≡ Ok stack
Loads answer stack (Err (end.Faulted f)) = answer ≡ Err f
Loads answer stack (Err end.Memory) = Unit {0}
Loads answer stack (Err _) = ⊥

module _ {K : Type 0} (written : K → Option (List ℕ)) (room faults : K → ℕ) where
  -- a call answers and writes so; want of memory and a failed put leave a front of what it writes
  abbrev pub Calls : Result ℤ Raised → List ℕ → K → K → Result ℤ End → Type 0
  Calls answer output old new (Ok y) = (answer ≡ Ok y) × Adds written room faults old new output
  Calls answer output old new (Err (end.Faulted f)) = (answer ≡ Err f) × Adds written room faults old new output
  Calls answer output old new (Err end.Memory) = AddsPart written room faults old new output
  Calls answer output old new (Err end.WriteFault) = Breaks written room faults old new output
  Calls answer output old new (Err end.Done) = ⊥
  Calls answer output old new (Err end.Spent) = ⊥

  -- an instruction does so to the stack and the sink
  abbrev pub Acts : Option Act → List ℤ → K → K → Result (Unit {0}) End → Type 0
  Acts None stack old new result = ⊥
  Acts (Some a) stack old new (Ok u) = (a.answer ≡ Ok stack) × Adds written room faults old new a.output
  Acts (Some a) stack old new (Err (end.Faulted f)) = (a.answer ≡ Err f) × Adds written room faults old new a.output
  Acts (Some a) stack old new (Err end.Memory) = AddsPart written room faults old new a.output
  Acts (Some a) stack old new (Err end.WriteFault) = Breaks written room faults old new a.output
  Acts (Some a) stack old new (Err end.Done) = ⊥
  Acts (Some a) stack old new (Err end.Spent) = ⊥

  -- a run adds its bytes and ends so; want of memory and a failed put leave a front of its bytes
  abbrev pub Ends : Res (Unit {0}) → K → K → End → Type 0
  Ends (Gives u s) old new end.Done = Adds written room faults old new s.written
  Ends (Faults f s) old new (end.Faulted g) = (g ≡ f) × Adds written room faults old new s.written
  Ends (Spends s) old new end.Spent = Adds written room faults old new s.written
  Ends run old new end.Memory = AddsPart written room faults old new (written_by run)
  Ends run old new end.WriteFault = Breaks written room faults old new (written_by run)
  Ends _ old new _ = ⊥

  -- the same of code that never misses an operand
  abbrev pub EndsAs : Run → K → K → End → Type 0
  EndsAs None old new result = ⊥
  EndsAs (Some run) old new result = Ends run old new result
