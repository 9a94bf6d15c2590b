-- How many blocks a part of a program has, with those inside them, and how many bodies these have.
use Rattle.std.specs.Prelude.{ℕ, suc, ◌+◌}
use Rattle.bqn_syntax.specs.grammar.Trees.{Expr, Value, Train, Modifier, Use, One, Two, Part, Leaf, Elements, Merge, Paren, Block, Field, Strand, Nothing, Step, Apply, Assign, Modify, Stmt, Eval, Predicate, Export, BlockTree, block, BodyTree, body, Derived, derived, MaybePart, none, some, Exprs, no_exprs, and_exprs, Uses, no_uses, and_uses, Parts, no_parts, and_parts, Steps, no_steps, and_steps, Stmts, no_stmts, and_stmts, Bodies, no_bodies, and_bodies, Deriveds, no_deriveds, and_deriveds}

pub record Count : Type 0 where
  pub blocks : ℕ
  pub bodies : ℕ

abbrev pub no_blocks : Count
no_blocks = record { blocks = 0; bodies = 0 }

-- both together
abbrev pub past : Count → Count → Count
past c d = record { blocks = c.blocks + d.blocks; bodies = c.bodies + d.bodies }

-- a block with so many bodies
abbrev pub one_block : ℕ → Count
one_block n = record { blocks = 1; bodies = n }

-- the bodies of one block
abbrev pub how_many : Bodies → ℕ
how_many no_bodies = 0
how_many (and_bodies b bs) = suc (how_many bs)

abbrev mutual
  pub in_expr : Expr → Count
  in_expr (Value last ss) = past (in_steps ss) (in_maybe last)
  in_expr (Train targets ds) = in_deriveds ds
  in_expr (Modifier targets x) = in_part x

  pub in_part : Part → Count
  in_part (Leaf t) = no_blocks
  in_part (Elements es) = in_exprs es
  in_part (Merge es) = in_exprs es
  in_part (Paren e) = in_expr e
  in_part (Block b) = in_block b
  in_part (Field base names) = in_part base
  in_part (Strand ps) = in_parts ps
  in_part (Nothing place) = no_blocks

  pub in_block : BlockTree → Count
  in_block (block place class bs) = past (one_block (how_many bs)) (in_bodies bs)

  pub in_maybe : MaybePart → Count
  in_maybe none = no_blocks
  in_maybe (some x) = in_part x

  -- the steps stand in the text from the last to the first
  pub in_steps : Steps → Count
  in_steps no_steps = no_blocks
  in_steps (and_steps s ss) = past (in_steps ss) (in_step s)

  pub in_step : Step → Count
  in_step (Apply d left) = past (in_maybe left) (in_derived d)
  in_step (Assign q a) = no_blocks
  in_step (Modify t d) = in_derived d

  pub in_derived : Derived → Count
  in_derived (derived x us) = past (in_part x) (in_uses us)

  pub in_uses : Uses → Count
  in_uses no_uses = no_blocks
  in_uses (and_uses u us) = past (in_use u) (in_uses us)

  pub in_use : Use → Count
  in_use (One m) = in_part m
  in_use (Two m x) = past (in_part m) (in_part x)

  pub in_deriveds : Deriveds → Count
  in_deriveds no_deriveds = no_blocks
  in_deriveds (and_deriveds d ds) = past (in_derived d) (in_deriveds ds)

  pub in_exprs : Exprs → Count
  in_exprs no_exprs = no_blocks
  in_exprs (and_exprs e es) = past (in_expr e) (in_exprs es)

  pub in_parts : Parts → Count
  in_parts no_parts = no_blocks
  in_parts (and_parts x xs) = past (in_part x) (in_parts xs)

  pub in_stmts : Stmts → Count
  in_stmts no_stmts = no_blocks
  in_stmts (and_stmts s ss) = past (in_stmt s) (in_stmts ss)

  pub in_stmt : Stmt → Count
  in_stmt (Eval e) = in_expr e
  in_stmt (Predicate e) = in_expr e
  in_stmt (Export q) = no_blocks

  pub in_bodies : Bodies → Count
  in_bodies no_bodies = no_blocks
  in_bodies (and_bodies b bs) = past (in_body b) (in_bodies bs)

  pub in_body : BodyTree → Count
  in_body (body h ss) = in_stmts ss
