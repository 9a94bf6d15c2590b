-- The code that is emitted while a tree is walked, behind the code so far and the names that are defined: none where the tree
-- is not of the form that is built so far.
use Rattle.std.specs.Prelude.{ℕ, List, [], ◌∷◌, ◌++◌, Option, Some, None}
use Rattle.std.specs.Option.{option_map, option_and_then}
use Rattle.bqn_base.specs.declared.place.Place.{Place}
use Rattle.bqn_base.specs.declared.role.Role.TheVariants as role
use Rattle.bqn_forms.specs.declared.function.Callee.{Callee}
use Rattle.bqn_syntax.specs.declared.token.Kind.{Kind}
use Rattle.bqn_syntax.specs.declared.token.Kind.TheVariants as kind
use Rattle.bqn_syntax.specs.declared.tree.Arrow.TheVariants as arrow
use Rattle.bqn_syntax.specs.grammar.Trees.{Name, Expr, Value, Part, Leaf, Paren, Step, Apply, Assign, Stmt, Eval, MaybePart, none, some, Steps, no_steps, and_steps, Stmts, no_stmts, and_stmts}
use Rattle.bqn_forms.specs.Form.{function_of, number_of, subject_name}
use Rattle.bqn_forms.specs.declared.code.Instr.{Instr}
use Rattle.bqn_forms.specs.declared.code.Instr.TheVariants.{Const, Load, Define, Call1, Call2, Pop}

-- the instruction of a part that is a single token
abbrev pub leaf_instr : List (List ℕ) → Place → Kind → Option Instr
leaf_instr names place (kind.Number z) = Some (Const z)
leaf_instr names place (kind.Word name role.Subject) = option_map (λ number. Load number place) (number_of names name)
leaf_instr names place _ = None

abbrev pub leaf_emitted : List Instr → Option Instr → Option (List Instr)
leaf_emitted code instr = option_map (λ i. code ++ i ∷ []) instr

abbrev mutual
  pub part_emitted : List (List ℕ) → List Instr → Part → Option (List Instr)
  part_emitted names code (Leaf t) = leaf_emitted code (leaf_instr names t.place t.kind)
  part_emitted names code (Paren e) = expr_emitted names code e
  part_emitted names code _ = None

  pub expr_emitted : List (List ℕ) → List Instr → Expr → Option (List Instr)
  expr_emitted names code (Value last steps) = option_and_then (λ code. steps_emitted names code steps) (last_emitted names code last)
  expr_emitted names code _ = None

  pub last_emitted : List (List ℕ) → List Instr → MaybePart → Option (List Instr)
  last_emitted names code none = None
  last_emitted names code (some part) = part_emitted names code part

  pub steps_emitted : List (List ℕ) → List Instr → Steps → Option (List Instr)
  steps_emitted names code no_steps = Some code
  steps_emitted names code (and_steps step steps) = option_and_then (λ code. steps_emitted names code steps) (step_emitted names code step)

  pub step_emitted : List (List ℕ) → List Instr → Step → Option (List Instr)
  step_emitted names code (Apply function left) = call_emitted names code (function_of function) left
  step_emitted names code _ = None

  pub call_emitted : List (List ℕ) → List Instr → Option Callee → MaybePart → Option (List Instr)
  call_emitted names code None left = None
  call_emitted names code (Some f) none = Some (code ++ Call1 f ∷ [])
  call_emitted names code (Some f) (some left) = option_map (λ code. code ++ Call2 f ∷ []) (part_emitted names code left)

-- the names that are defined, and the code so far
pub record Progress : Type 0 where
  pub names : List (List ℕ)
  pub code : List Instr

abbrev pub progress : List (List ℕ) → List Instr → Progress
progress names code = record { names = names; code = code }

-- a name that has no number yet is defined
abbrev pub fresh_emitted : List (List ℕ) → List Instr → List ℕ → Option ℕ → Option Progress
fresh_emitted names code name (Some number) = None
fresh_emitted names code name None = Some (progress (names ++ name ∷ []) (code ++ Define ∷ []))

abbrev pub name_emitted : List (List ℕ) → List Instr → List ℕ → Option Progress
name_emitted names code name = fresh_emitted names code name (number_of names name)

abbrev pub target_emitted : List (List ℕ) → List Instr → Kind → Option Progress
target_emitted names code k = option_and_then (λ name. name_emitted names code name) (subject_name k)

-- the last step of a statement may define a name
abbrev pub last_step_emitted : List (List ℕ) → List Instr → Step → Option Progress
last_step_emitted names code (Assign (Name t) arrow.Define) = target_emitted names code t.kind
last_step_emitted names code step = option_map (progress names) (step_emitted names code step)

abbrev pub stmt_steps_emitted : List (List ℕ) → List Instr → Steps → Option Progress
stmt_steps_emitted names code no_steps = Some (progress names code)
stmt_steps_emitted names code (and_steps step no_steps) = last_step_emitted names code step
stmt_steps_emitted names code (and_steps step (and_steps next steps)) = option_and_then (λ code. stmt_steps_emitted names code (and_steps next steps)) (step_emitted names code step)

-- the value of a statement is dropped
abbrev pub dropped : Progress → Progress
dropped p = progress p.names (p.code ++ Pop ∷ [])

abbrev pub stmt_emitted : List (List ℕ) → List Instr → Stmt → Option Progress
stmt_emitted names code (Eval (Value last steps)) = option_map dropped (option_and_then (λ code. stmt_steps_emitted names code steps) (last_emitted names code last))
stmt_emitted names code _ = None

abbrev pub stmts_emitted : List (List ℕ) → List Instr → Stmts → Option (List Instr)
stmts_emitted names code no_stmts = Some code
stmts_emitted names code (and_stmts stmt stmts) = option_and_then (λ p. stmts_emitted p.names p.code stmts) (stmt_emitted names code stmt)
