-- The trees of the sources that are built so far: BQN's page on grammar, for values of numbers and names.
use Rattle.std.specs.Prelude.{ℕ, ℤ, Option}
use Rattle.bqn_base.specs.declared.place.Place.{Place}
use Rattle.bqn_forms.specs.declared.function.Callee.{Callee}

mutual
  -- a name is its number, and has the place of its token
  pub data Part : Type 0 where
    Number : ℤ → Part
    Name : ℕ → Place → Part
    Paren : Expr → Part

  -- a part, or a function with what stands right of it, and perhaps a part left of it
  pub data Expr : Type 0 where
    Value : Part → Expr
    Apply1 : Callee → Expr → Expr
    Apply2 : Callee → Part → Expr → Expr

-- a value, and perhaps the name that it defines
pub record Stmt : Type 0 where
  pub target : Option ℕ
  pub value : Expr
