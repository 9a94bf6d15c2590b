-- The trees that are built so far: values of numbers, of the names that an earlier statement defines and of parentheses, under
-- `+`, `-`, `×` and `•Show`, and statements, each perhaps with a name that it defines; of at most 4,096 tokens. Tokens are
-- compared by what they are, so their spelling does not count.
use Rattle.std.specs.Prelude.{ℕ, nat_le, nat_eq, ◌==◌, true, false, if◌then◌else◌, List, [], ◌∷◌, ◌++◌, length, position, codes as ascii, Option, Some, None}
use Rattle.std.specs.Cmp.Lexicographic.{pointwise}
use Rattle.std.specs.Option.{option_map, option_and_then}
use Rattle.bqn_base.specs.declared.place.Place.{Place}
use Rattle.bqn_base.specs.declared.role.Role.TheVariants as role
use Rattle.bqn_forms.specs.declared.function.Callee.{Callee}
use Rattle.bqn_forms.specs.declared.function.Function.{Function}
use Rattle.bqn_forms.specs.declared.function.Function.TheVariants.{Plus, Minus, Times, Show}
use Rattle.bqn_syntax.specs.declared.token.Kind.{Kind}
use Rattle.bqn_syntax.specs.declared.token.Kind.TheVariants as kind
use Rattle.bqn_syntax.specs.declared.token.Token.{Token}
use Rattle.bqn_syntax.specs.declared.tree.Arrow.TheVariants as arrow
use Rattle.bqn_syntax.specs.grammar.Trees as plain
use Rattle.bqn_syntax.specs.grammar.Trees.{Name as Target, Leaf, Apply, Assign, Eval, derived, no_uses, none, some, Steps, no_steps, and_steps, Stmts, no_stmts, and_stmts}
use Rattle.bqn_forms.specs.Tree.{Part, Number, Name, Paren, Expr, Value, Apply1, Apply2, Stmt}

-- Functions.

-- the function of a code: `+`, `-` and `×` are 0, 1 and 2
abbrev pub given_function : ℕ → Option Function
given_function code =
    if code == 0 then Some Plus
    else if code == 1 then Some Minus
    else if code == 2 then Some Times
    else None

abbrev pub kind_function : Kind → Option Function
kind_function (kind.Given code) = given_function code
kind_function (kind.System name role.Function) = if pointwise nat_eq name (ascii "show") then Some Show else None
kind_function _ = None

abbrev pub callee : Place → Function → Callee
callee place f = record { function = f; place = place }

abbrev pub token_function : Token → Option Callee
token_function t = option_map (callee t.place) (kind_function t.kind)

abbrev pub part_function : plain.Part → Option Callee
part_function (Leaf t) = token_function t
part_function _ = None

-- a function without modifiers
abbrev pub function_of : plain.Derived → Option Callee
function_of (derived part no_uses) = part_function part
function_of _ = None

-- Values, behind statements that define these names. The number of a name is its place among them.

abbrev pub number_of : List (List ℕ) → List ℕ → Option ℕ
number_of names name = position (λ other. pointwise nat_eq other name) names

abbrev pub leaf_in : List (List ℕ) → Place → Kind → Option Part
leaf_in names place (kind.Number z) = Some (Number z)
leaf_in names place (kind.Word name role.Subject) = option_map (λ number. Name number place) (number_of names name)
leaf_in names place _ = None

abbrev pub applied1 : Option Callee → Expr → Option Expr
applied1 f e = option_map (λ f. Apply1 f e) f

abbrev pub applied2 : Option Callee → Option Part → Expr → Option Expr
applied2 (Some f) (Some left) e = Some (Apply2 f left e)
applied2 _ left e = None

abbrev mutual
  pub part_in : List (List ℕ) → plain.Part → Option Part
  part_in names (Leaf t) = leaf_in names t.place t.kind
  part_in names (plain.Paren e) = option_map (λ e. Paren e) (expr_in names e)
  part_in names _ = None

  pub expr_in : List (List ℕ) → plain.Expr → Option Expr
  expr_in names (plain.Value last steps) = option_and_then (λ part. steps_in names (Value part) steps) (last_in names last)
  expr_in names _ = None

  pub last_in : List (List ℕ) → plain.MaybePart → Option Part
  last_in names none = None
  last_in names (some part) = part_in names part

  -- what is done with an expression, from right to left
  pub steps_in : List (List ℕ) → Expr → Steps → Option Expr
  steps_in names e no_steps = Some e
  steps_in names e (and_steps step steps) = option_and_then (λ e. steps_in names e steps) (step_in names e step)

  pub step_in : List (List ℕ) → Expr → plain.Step → Option Expr
  step_in names e (Apply function left) = call_in names (function_of function) e left
  step_in names e _ = None

  pub call_in : List (List ℕ) → Option Callee → Expr → plain.MaybePart → Option Expr
  call_in names f e none = applied1 f e
  call_in names f e (some left) = applied2 f (part_in names left) e

-- Statements.

-- a statement, and the names that are defined behind it
pub record Stated : Type 0 where
  pub stmt : Stmt
  pub names : List (List ℕ)

abbrev pub unnamed : List (List ℕ) → Expr → Stated
unnamed names e = record { stmt = record { target = None; value = e }; names = names }

-- a name that is not yet defined is the next one
abbrev pub fresh : List (List ℕ) → List ℕ → Option ℕ → Expr → Option Stated
fresh names name (Some number) e = None
fresh names name None e = Some (record { stmt = record { target = Some (length names); value = e }; names = names ++ name ∷ [] })

-- the name of a subject
abbrev pub subject_name : Kind → Option (List ℕ)
subject_name (kind.Word name role.Subject) = Some name
subject_name _ = None

abbrev pub name_in : List (List ℕ) → List ℕ → Expr → Option Stated
name_in names name e = fresh names name (number_of names name) e

abbrev pub target_in : List (List ℕ) → Kind → Expr → Option Stated
target_in names k e = option_and_then (λ name. name_in names name e) (subject_name k)

-- the last step of a statement may define a name
abbrev pub last_step_in : List (List ℕ) → Expr → plain.Step → Option Stated
last_step_in names e (Assign (Target t) arrow.Define) = target_in names t.kind e
last_step_in names e step = option_map (unnamed names) (step_in names e step)

abbrev pub stmt_steps_in : List (List ℕ) → Expr → Steps → Option Stated
stmt_steps_in names e no_steps = Some (unnamed names e)
stmt_steps_in names e (and_steps step no_steps) = last_step_in names e step
stmt_steps_in names e (and_steps step (and_steps next steps)) = option_and_then (λ e. stmt_steps_in names e (and_steps next steps)) (step_in names e step)

abbrev pub stmt_in : List (List ℕ) → plain.Stmt → Option Stated
stmt_in names (Eval (plain.Value last steps)) = option_and_then (λ part. stmt_steps_in names (Value part) steps) (last_in names last)
stmt_in names _ = None

-- the statements that follow those which define these names
abbrev pub statements_in : List (List ℕ) → Stmts → Option (List Stmt)
statements_in names no_stmts = Some []
statements_in names (and_stmts stmt stmts) = option_and_then (λ s. option_map (λ more. s.stmt ∷ more) (statements_in s.names stmts)) (stmt_in names stmt)

-- the statements of a token list with this tree, or none where they are not of the form that is built so far
abbrev pub form_of : List Token → Stmts → Option (List Stmt)
form_of tokens stmts = elim (nat_le (length tokens) 4096) [ false ↦ None | true ↦ statements_in [] stmts ]
