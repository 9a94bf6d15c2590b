-- Whether a body exports: a `⇐` stands in its own text, blocks in it aside, also where it names nothing.
use Rattle.std.specs.Prelude.{Bool, true, false, ◌||◌, List, [], ◌∷◌}
use Rattle.bqn_syntax.specs.declared.token.Token.{Token}
use Rattle.bqn_syntax.specs.declared.tree.Arrow.{Arrow}
use Rattle.bqn_syntax.specs.declared.tree.Arrow.TheVariants as arrow
use Rattle.bqn_syntax.specs.grammar.Trees.{Expr, Value, Train, Modifier, Use, One, Two, Part, Leaf, Elements, Merge, Paren, Block, Field, Strand, Nothing, Step, Apply, Assign, Modify, Stmt, Eval, Predicate, Export, Derived, derived, MaybePart, none, some, Exprs, no_exprs, and_exprs, Uses, no_uses, and_uses, Parts, no_parts, and_parts, Steps, no_steps, and_steps, Stmts, no_stmts, and_stmts, Deriveds, no_deriveds, and_deriveds}

abbrev pub is_export : Arrow → Bool
is_export arrow.Export = true
is_export _ = false

abbrev pub targets_export : List (Token × Arrow) → Bool
targets_export [] = false
targets_export (t ∷ ts) = is_export t.1 || targets_export ts

abbrev mutual
  pub expr_exports : Expr → Bool
  expr_exports (Value last ss) = maybe_exports last || steps_export ss
  expr_exports (Train targets ds) = targets_export targets || deriveds_export ds
  expr_exports (Modifier targets x) = targets_export targets || part_exports x

  pub part_exports : Part → Bool
  part_exports (Leaf t) = false
  part_exports (Elements es) = exprs_export es
  part_exports (Merge es) = exprs_export es
  part_exports (Paren e) = expr_exports e
  part_exports (Block b) = false
  part_exports (Field base names) = part_exports base
  part_exports (Strand ps) = parts_export ps
  part_exports (Nothing place) = false

  pub maybe_exports : MaybePart → Bool
  maybe_exports none = false
  maybe_exports (some x) = part_exports x

  pub steps_export : Steps → Bool
  steps_export no_steps = false
  steps_export (and_steps s ss) = step_exports s || steps_export ss

  pub step_exports : Step → Bool
  step_exports (Apply d left) = derived_exports d || maybe_exports left
  step_exports (Assign q a) = is_export a
  step_exports (Modify t d) = derived_exports d

  pub derived_exports : Derived → Bool
  derived_exports (derived x us) = part_exports x || uses_export us

  pub uses_export : Uses → Bool
  uses_export no_uses = false
  uses_export (and_uses u us) = use_exports u || uses_export us

  pub use_exports : Use → Bool
  use_exports (One m) = part_exports m
  use_exports (Two m x) = part_exports m || part_exports x

  pub deriveds_export : Deriveds → Bool
  deriveds_export no_deriveds = false
  deriveds_export (and_deriveds d ds) = derived_exports d || deriveds_export ds

  pub exprs_export : Exprs → Bool
  exprs_export no_exprs = false
  exprs_export (and_exprs e es) = expr_exports e || exprs_export es

  pub parts_export : Parts → Bool
  parts_export no_parts = false
  parts_export (and_parts x xs) = part_exports x || parts_export xs

  pub stmts_export : Stmts → Bool
  stmts_export no_stmts = false
  stmts_export (and_stmts s ss) = stmt_exports s || stmts_export ss

  pub stmt_exports : Stmt → Bool
  stmt_exports (Eval e) = expr_exports e
  stmt_exports (Predicate e) = expr_exports e
  stmt_exports (Export q) = true
