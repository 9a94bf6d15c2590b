-- How many of what a code numbers in text order a part of a program has, with what stands in the blocks inside it.
use Rattle.std.specs.Prelude.{ℕ, ◌+◌, List, [], ◌∷◌, Option, Some, None}
use Rattle.bqn_syntax.specs.declared.token.Kind.{Kind}
use Rattle.bqn_syntax.specs.declared.token.Kind.TheVariants as kind
use Rattle.bqn_syntax.specs.declared.token.Token.{Token}
use Rattle.bqn_syntax.specs.declared.tree.Arrow.{Arrow}
use Rattle.bqn_syntax.specs.blocks.Counting.{how_many}
use Rattle.bqn_compile.specs.declared.count.Count.{Count}
use Rattle.bqn_syntax.specs.grammar.Trees.{Pattern, Name, Skip, Literal, ListPattern, StrandPattern, Patterns, no_patterns, and_patterns, Header, Expr, Value, Train, Modifier, Use, One, Two, Part, Leaf, Elements, Merge, Paren, Block, Field, Strand, Nothing, Step, Apply, Assign, Modify, Stmt, Eval, Predicate, Export, BlockTree, block, BodyTree, body, Derived, derived, MaybePart, none, some, Exprs, no_exprs, and_exprs, Uses, no_uses, and_uses, Parts, no_parts, and_parts, Steps, no_steps, and_steps, Stmts, no_stmts, and_stmts, Bodies, no_bodies, and_bodies, Deriveds, no_deriveds, and_deriveds}

abbrev pub nothing : Count
nothing = record { uses = 0; blocks = 0; bodies = 0; patterns = 0 }

-- both together
abbrev pub past : Count → Count → Count
past c d = record { uses = c.uses + d.uses; blocks = c.blocks + d.blocks; bodies = c.bodies + d.bodies; patterns = c.patterns + d.patterns }

-- ---- names

abbrev pub one_use : Count
one_use = record { uses = 1; blocks = 0; bodies = 0; patterns = 0 }

abbrev pub in_kind : Kind → Count
in_kind (kind.Word name r) = one_use
in_kind _ = nothing

abbrev pub in_token : Token → Count
in_token t = in_kind t.kind

abbrev pub in_operand : Option Token → Count
in_operand None = nothing
in_operand (Some t) = in_token t

abbrev pub in_targets : List (Token × Arrow) → Count
in_targets [] = nothing
in_targets (t ∷ ts) = past (in_token t.0) (in_targets ts)

-- ---- patterns

-- the names in it
abbrev mutual
  pub in_leaves : Pattern → Count
  in_leaves (Name t) = in_token t
  in_leaves (Skip place) = nothing
  in_leaves (Literal t) = nothing
  in_leaves (ListPattern qs) = in_all_leaves qs
  in_leaves (StrandPattern qs) = in_all_leaves qs

  pub in_all_leaves : Patterns → Count
  in_all_leaves no_patterns = nothing
  in_all_leaves (and_patterns q qs) = past (in_leaves q) (in_all_leaves qs)

abbrev pub one_pattern : Count
one_pattern = record { uses = 0; blocks = 0; bodies = 0; patterns = 1 }

abbrev pub in_pattern : Pattern → Count
in_pattern q = past one_pattern (in_leaves q)

-- the target of an arrow; a name alone is stored into, without a pattern
abbrev pub in_target : Pattern → Count
in_target (Name t) = in_token t
in_target q = in_pattern q

-- `𝕨` and `𝕩` as arguments of a header ask for nothing
abbrev pub in_named_argument : Kind → Count
in_named_argument (kind.Special s r) = nothing
in_named_argument k = past one_pattern (in_kind k)

abbrev pub in_argument : Option Pattern → Count
in_argument None = nothing
in_argument (Some (Name t)) = in_named_argument t.kind
in_argument (Some q) = in_pattern q

abbrev pub in_header : Option Header → Count
in_header None = nothing
in_header (Some h) =
    past (in_argument h.left) (past (in_operand h.left_operand) (past (in_token h.own) (past (in_operand h.right_operand) (in_argument h.right))))

-- ---- expressions and blocks

-- a block with so many bodies
abbrev pub one_block : ℕ → Count
one_block n = record { uses = 0; blocks = 1; bodies = n; patterns = 0 }

abbrev mutual
  -- the steps stand in the text from the last to the first
  pub in_expr : Expr → Count
  in_expr (Value last ss) = past (in_steps ss) (in_maybe last)
  in_expr (Train targets ds) = past (in_targets targets) (in_deriveds ds)
  in_expr (Modifier targets x) = past (in_targets targets) (in_part x)

  pub in_part : Part → Count
  in_part (Leaf t) = in_token t
  in_part (Elements es) = in_exprs es
  in_part (Merge es) = in_exprs es
  in_part (Paren e) = in_expr e
  in_part (Block b) = in_block b
  in_part (Field base names) = in_part base
  in_part (Strand ps) = in_parts ps
  in_part (Nothing place) = nothing

  pub in_block : BlockTree → Count
  in_block (block place class bs) = past (one_block (how_many bs)) (in_bodies bs)

  pub in_maybe : MaybePart → Count
  in_maybe none = nothing
  in_maybe (some x) = in_part x

  pub in_steps : Steps → Count
  in_steps no_steps = nothing
  in_steps (and_steps s ss) = past (in_steps ss) (in_step s)

  pub in_step : Step → Count
  in_step (Apply d left) = past (in_maybe left) (in_derived d)
  in_step (Assign q a) = in_target q
  in_step (Modify t d) = past (in_token t) (in_derived d)

  pub in_derived : Derived → Count
  in_derived (derived x us) = past (in_part x) (in_uses us)

  pub in_uses : Uses → Count
  in_uses no_uses = nothing
  in_uses (and_uses u us) = past (in_use u) (in_uses us)

  pub in_use : Use → Count
  in_use (One m) = in_part m
  in_use (Two m x) = past (in_part m) (in_part x)

  pub in_deriveds : Deriveds → Count
  in_deriveds no_deriveds = nothing
  in_deriveds (and_deriveds d ds) = past (in_derived d) (in_deriveds ds)

  pub in_exprs : Exprs → Count
  in_exprs no_exprs = nothing
  in_exprs (and_exprs e es) = past (in_expr e) (in_exprs es)

  pub in_parts : Parts → Count
  in_parts no_parts = nothing
  in_parts (and_parts x xs) = past (in_part x) (in_parts xs)

  pub in_stmts : Stmts → Count
  in_stmts no_stmts = nothing
  in_stmts (and_stmts s ss) = past (in_stmt s) (in_stmts ss)

  -- a name that is exported without a value refers to nothing
  pub in_stmt : Stmt → Count
  in_stmt (Eval e) = in_expr e
  in_stmt (Predicate e) = in_expr e
  in_stmt (Export q) = nothing

  pub in_bodies : Bodies → Count
  in_bodies no_bodies = nothing
  in_bodies (and_bodies b bs) = past (in_body b) (in_bodies bs)

  pub in_body : BodyTree → Count
  in_body (body h ss) = past (in_header h) (in_stmts ss)
