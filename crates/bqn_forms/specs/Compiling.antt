-- Code that means what a source means.
use Rattle.std.specs.Prelude.{◌≡◌, ℕ, List, Option, Some, None, Result, Ok, Err}
use Rattle.std.specs.declared.vec.Vec.{Vec}
use Rattle.std.specs.declared.alloc.Global.{Global}
use Rattle.bqn_forms.specs.Tree.{Stmt}
use Rattle.bqn_forms.specs.Evaluation.{evaluated}
use Rattle.bqn_forms.specs.declared.code.Instr.{Instr}
use Rattle.bqn_forms.specs.declared.error.CompileError.{CompileError}
use Rattle.bqn_forms.specs.declared.error.CompileError.TheVariants.{NotYet, Memory}
use Rattle.bqn_forms.specs.Execution.{executed}

-- the code of a tree does what the tree does, with any number of steps; a source without a tree has none
abbrev pub Compiles : Option (List Stmt) → Result (Vec Instr Global) CompileError → Type 0
Compiles (Some tree) (Ok code) = (steps : ℕ) → executed code.items steps ≡ Some (evaluated tree steps)
Compiles None (Ok code) = ⊥
Compiles (Some tree) (Err NotYet) = ⊥
Compiles None (Err NotYet) = Unit {0}
Compiles tree (Err Memory) = Unit {0}
