-- Tables of codes in which each instruction finds its operands and its objects.
use Rattle.std.specs.Prelude.{zero, suc, ◌+◌, nat_lt, ◌&&◌, Bool, true, false, is_some, IsTrue, slice_get, Option, Some, None}
use Rattle.std.specs.List.{list_all}
use Rattle.bqn_syntax.specs.declared.tree.Class.{Class}
use Rattle.bqn_syntax.specs.declared.tree.Class.TheVariants as class
use Rattle.bqn_code.specs.declared.instr.Instr.{Instr}
use Rattle.bqn_code.specs.declared.instr.Instr.TheVariants as instr
use Rattle.bqn_code.specs.declared.code.Body.{Body}
use Rattle.bqn_execution.specs.States.{State, Does}
use Rattle.bqn_code.specs.Numbering.{Placed, Table, class_of}
use Rattle.bqn_code.specs.Heights.{is_balanced}
use Rattle.bqn_execution.specs.Sureness.{Sure}

-- not stuck from whatever state
abbrev pub AllSure : {A : Type 0} → Does A → Type 0
AllSure m = (s : State) → Sure (m s)

abbrev pub is_value_class : Option Class → Bool
is_value_class None = false
is_value_class (Some class.Immediate) = false
is_value_class (Some c) = true

abbrev pub is_run_class : Option Class → Bool
is_run_class (Some class.Immediate) = true
is_run_class _ = false

-- what an instruction in this code names is there; the program's block is never named
abbrev pub has_object : Table → Placed → Instr → Bool
has_object t here (instr.Const k) = is_some (slice_get here.code.constants k)
has_object t here (instr.Given code) = nat_lt code 70
has_object t here (instr.Block zero) = false
has_object t here (instr.Block (suc b)) = is_value_class (class_of t (here.blocks + suc b))
has_object t here (instr.Run zero) = false
has_object t here (instr.Run (suc b)) = is_run_class (class_of t (here.blocks + suc b))
has_object t here (instr.Bind k) = is_some (slice_get here.code.patterns k)
has_object t here (instr.Match k) = is_some (slice_get here.code.patterns k)
has_object t here i = true

-- each instruction of a body finds its operands and its objects
abbrev pub is_sound : Table → Placed → Body → Bool
is_sound t here body = list_all (has_object t here) body.code && is_balanced 0 body.code

-- all bodies are sound, and there is a program
pub record SoundTable (t : Table) : Type 0 where
  pub blocks : IsTrue (list_all (λ b. list_all (is_sound t b.here) b.block.bodies) t.blocks)
  pub bodies : IsTrue (list_all (λ b. is_sound t b.here b.body) t.bodies)
  pub top : IsTrue (is_some (slice_get t.bodies 0))
