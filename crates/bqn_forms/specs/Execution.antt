-- What code means: a stack of numbers, its top first, and the state of an evaluation.
use Rattle.std.specs.Prelude.{ℕ, zero, suc, ℤ, List, [], ◌∷◌, Option, Some, None}
use Rattle.bqn_forms.specs.Evaluation.{State, Res, Gives, Faults, Spends, call, load, define}
use Rattle.bqn_forms.specs.declared.code.Instr.{Instr}
use Rattle.bqn_forms.specs.declared.code.Instr.TheVariants.{Const, Load, Define, Call1, Call2, Pop}

-- how a run ends, or none where an operand is missing
abbrev pub Run : Type 0
Run = Option (Res (Unit {0}))

-- what follows an answer; a fault ends the run
abbrev pub on_answer : Res ℤ → (ℤ → State → Run) → Run
on_answer (Gives y s) go = go y s
on_answer (Faults f s) go = Some (Faults f s)
on_answer (Spends s) go = Some (Spends s)

abbrev pub exec : List Instr → List ℤ → State → Run
exec [] stack s = Some (Gives tt s)
exec (Const x ∷ code) stack s = exec code (x ∷ stack) s
exec (Load number place ∷ code) stack s = on_answer (load number place s) (λ y t. exec code (y ∷ stack) t)
exec (Define ∷ code) (x ∷ stack) s = on_answer (define x s) (λ y t. exec code (y ∷ stack) t)
exec (Call1 f ∷ code) (x ∷ stack) s = on_answer (call f None x s) (λ y t. exec code (y ∷ stack) t)
exec (Call2 f ∷ code) (w ∷ x ∷ stack) s = on_answer (call f (Some w) x s) (λ y t. exec code (y ∷ stack) t)
exec (Pop ∷ code) (x ∷ stack) s = exec code stack s
exec _ _ s = None

-- the code of a program takes a step; before it nothing is written, and no name is defined
abbrev pub executed : List Instr → ℕ → Run
executed code zero = Some (Spends (record { written = []; left = 0; vars = [] }))
executed code (suc steps) = exec code [] (record { written = []; left = steps; vars = [] })
