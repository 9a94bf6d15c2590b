-- The code of a tree.
use Rattle.std.specs.Prelude.{ℕ, List, [], ◌∷◌, ◌++◌, Option, Some, None}
use Rattle.bqn_forms.specs.Tree.{Part, Number, Name, Paren, Expr, Value, Apply1, Apply2, Stmt}
use Rattle.bqn_forms.specs.declared.code.Instr.{Instr}
use Rattle.bqn_forms.specs.declared.code.Instr.TheVariants.{Const, Load, Define, Call1, Call2, Pop}

-- the right argument is carried out first, then the left one
abbrev mutual
  pub part_code : Part → List Instr
  part_code (Number z) = Const z ∷ []
  part_code (Name number place) = Load number place ∷ []
  part_code (Paren e) = expr_code e

  pub expr_code : Expr → List Instr
  expr_code (Value part) = part_code part
  expr_code (Apply1 f e) = expr_code e ++ Call1 f ∷ []
  expr_code (Apply2 f left e) = expr_code e ++ (part_code left ++ Call2 f ∷ [])

abbrev pub target_code : Option ℕ → List Instr
target_code None = []
target_code (Some number) = Define ∷ []

-- the value of a statement is dropped
abbrev pub stmt_code : Stmt → List Instr
stmt_code st = expr_code st.value ++ (target_code st.target ++ Pop ∷ [])

abbrev pub translation : List Stmt → List Instr
translation [] = []
translation (st ∷ sts) = stmt_code st ++ translation sts
