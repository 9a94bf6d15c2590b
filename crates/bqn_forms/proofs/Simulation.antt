-- The code of a tree does what the tree does.
use Rattle.std.proofs.Common.{◌≡◌, ℕ, zero, suc, ℤ, List, [], ◌∷◌, ◌++◌, Option, Some, None, refl, ap, ◌∙◌, append_assoc}
use Rattle.bqn_forms.specs.Tree.{Part, Number, Name, Paren, Expr, Value, Apply1, Apply2, Stmt}
use Rattle.bqn_forms.specs.Evaluation.{State, Res, Gives, Faults, Spends, M, then_do, call, stored, eval_part, eval_expr, eval_statements, evaluated}
use Rattle.bqn_forms.specs.declared.code.Instr.{Instr}
use Rattle.bqn_forms.specs.declared.code.Instr.TheVariants.{Call1, Call2, Pop}
use Rattle.bqn_forms.specs.Execution.{Run, on_answer, exec, executed}
use Rattle.bqn_forms.specs.Translation.{part_code, expr_code, target_code, translation}

on_answer-same : (r : Res ℤ) (go to : ℤ → State → Run) → ((y : ℤ) (s : State) → go y s ≡ to y s) → on_answer r go ≡ on_answer r to
on_answer-same (Gives y s) go to e = e y s
on_answer-same (Faults f s) go to e = refl
on_answer-same (Spends s) go to e = refl

on_answer-then_do : (r : Res ℤ) (m : ℤ → M ℤ) (go : ℤ → State → Run) → on_answer r (λ y s. on_answer (m y s) go) ≡ on_answer (then_do r m) go
on_answer-then_do (Gives y s) m go = refl
on_answer-then_do (Faults f s) m go = refl
on_answer-then_do (Spends s) m go = refl

mutual
  exec-part_code : (part : Part) (code : List Instr) (stack : List ℤ) (s : State) → exec (part_code part ++ code) stack s ≡ on_answer (eval_part part s) (λ y t. exec code (y ∷ stack) t)
  exec-part_code (Number z) code stack s = refl
  exec-part_code (Name number place) code stack s = refl
  exec-part_code (Paren e) code stack s = exec-expr_code e code stack s

  exec-expr_code : (e : Expr) (code : List Instr) (stack : List ℤ) (s : State) → exec (expr_code e ++ code) stack s ≡ on_answer (eval_expr e s) (λ y t. exec code (y ∷ stack) t)
  exec-expr_code (Value part) code stack s = exec-part_code part code stack s
  exec-expr_code (Apply1 f e) code stack s =
      ap (λ (is : List Instr). exec is stack s) (append_assoc (expr_code e) (Call1 f ∷ []) code)
      ∙ exec-expr_code e (Call1 f ∷ code) stack s
      ∙ on_answer-then_do (eval_expr e s) (λ x. call f None x) (λ y t. exec code (y ∷ stack) t)
  exec-expr_code (Apply2 f left e) code stack s =
      ap (λ (is : List Instr). exec is stack s) (append_assoc (expr_code e) (part_code left ++ Call2 f ∷ []) code)
      ∙ exec-expr_code e ((part_code left ++ Call2 f ∷ []) ++ code) stack s
      ∙ on_answer-same (eval_expr e s) _ _ (λ x t.
      ap (λ (is : List Instr). exec is (x ∷ stack) t) (append_assoc (part_code left) (Call2 f ∷ []) code)
      ∙ exec-part_code left (Call2 f ∷ code) (x ∷ stack) t
      ∙ on_answer-then_do (eval_part left t) (λ w. call f (Some w) x) (λ y u. exec code (y ∷ stack) u))
      ∙ on_answer-then_do (eval_expr e s) (λ x u. then_do (eval_part left u) (λ w. call f (Some w) x)) (λ y t. exec code (y ∷ stack) t)

exec-target_code : (target : Option ℕ) (code : List Instr) (v : ℤ) (stack : List ℤ) (s : State) → exec (target_code target ++ code) (v ∷ stack) s ≡ on_answer (stored target v s) (λ y t. exec code (y ∷ stack) t)
exec-target_code None code v stack s = refl
exec-target_code (Some number) code v stack s = refl

some_then_do : (r : Res ℤ) (m : M (Unit {0})) → on_answer r (λ y t. Some (m t)) ≡ Some (then_do r (λ y. m))
some_then_do (Gives y s) m = refl
some_then_do (Faults f s) m = refl
some_then_do (Spends s) m = refl

some_then_do-value : (r : Res ℤ) (m : ℤ → M (Unit {0})) → on_answer r (λ y t. Some (m y t)) ≡ Some (then_do r m)
some_then_do-value (Gives y s) m = refl
some_then_do-value (Faults f s) m = refl
some_then_do-value (Spends s) m = refl

exec-translation : (sts : List Stmt) (s : State) → exec (translation sts) [] s ≡ Some (eval_statements sts s)
exec-translation [] s = refl
exec-translation (st ∷ sts) s =
    ap (λ (is : List Instr). exec is [] s) (append_assoc (expr_code st.value) (target_code st.target ++ Pop ∷ []) (translation sts))
    ∙ exec-expr_code st.value ((target_code st.target ++ Pop ∷ []) ++ translation sts) [] s
    ∙ on_answer-same (eval_expr st.value s) _ _ (λ v t.
    ap (λ (is : List Instr). exec is (v ∷ []) t) (append_assoc (target_code st.target) (Pop ∷ []) (translation sts))
    ∙ exec-target_code st.target (Pop ∷ translation sts) v [] t
    ∙ on_answer-same (stored st.target v t) _ _ (λ y u. exec-translation sts u)
    ∙ some_then_do (stored st.target v t) (eval_statements sts))
    ∙ some_then_do-value (eval_expr st.value s) (λ v u. then_do (stored st.target v u) (λ y. eval_statements sts))

pub executed-translation : (tree : List Stmt) (steps : ℕ) → executed (translation tree) steps ≡ Some (evaluated tree steps)
executed-translation tree zero = refl
executed-translation tree (suc steps) = exec-translation tree (record { written = []; left = steps; vars = [] })
