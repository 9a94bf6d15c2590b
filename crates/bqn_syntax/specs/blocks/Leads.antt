-- The lead of a piece of a tree: the place of its first leaf in text order. A piece without a leaf has none of its own; it takes
-- that of its statement or header. This project's own.
use Rattle.std.specs.Prelude.{ℕ, List, [], ◌∷◌, Option, Some, None}
use Rattle.bqn_base.specs.declared.place.Place.{Place}
use Rattle.bqn_base.specs.Places.{nowhere}
use Rattle.bqn_syntax.specs.declared.token.Token.{Token}
use Rattle.bqn_syntax.specs.declared.tree.Arrow.{Arrow}
use Rattle.bqn_syntax.specs.grammar.Trees.{Pattern, Name, Skip, Literal, ListPattern, StrandPattern, Patterns, no_patterns, and_patterns, Header, Expr, Value, Train, Modifier, Use, One, Two, Part, Leaf, Elements, Merge, Paren, Block as Braces, Field, Strand, Nothing, Step, Apply, Assign, Modify, Stmt, Eval, Predicate, Export, BlockTree, block, Derived, derived, MaybePart, none, some, Exprs, no_exprs, and_exprs, Uses, no_uses, and_uses, Parts, no_parts, and_parts, Steps, no_steps, and_steps, Deriveds, no_deriveds, and_deriveds}

-- the first, or where it has none the next
abbrev pub or_next : Option Place → Option Place → Option Place
or_next None q = q
or_next (Some p) q = Some p

-- the place that is there, or the one that is passed inward
abbrev pub or_else : Place → Option Place → Place
or_else inherited None = inherited
or_else inherited (Some p) = p

abbrev mutual
  pub pattern_lead : Pattern → Option Place
  pattern_lead (Name t) = Some t.place
  pattern_lead (Skip place) = Some place
  pattern_lead (Literal t) = Some t.place
  pattern_lead (ListPattern qs) = patterns_lead qs
  pattern_lead (StrandPattern qs) = patterns_lead qs

  pub patterns_lead : Patterns → Option Place
  patterns_lead no_patterns = None
  patterns_lead (and_patterns q qs) = or_next (pattern_lead q) (patterns_lead qs)

abbrev pub token_lead : Option Token → Option Place
token_lead None = None
token_lead (Some t) = Some t.place

abbrev pub tokens_lead : List Token → Option Place
tokens_lead [] = None
tokens_lead (t ∷ ts) = Some t.place

abbrev pub targets_lead : List (Token × Arrow) → Option Place
targets_lead [] = None
targets_lead (t ∷ ts) = Some t.0.place

abbrev pub block_lead : BlockTree → Place
block_lead (block place kind bs) = place

abbrev mutual
  -- of the steps the last stands first
  pub expr_lead : Expr → Option Place
  expr_lead (Value last ss) = or_next (steps_lead ss) (maybe_lead last)
  expr_lead (Train targets ds) = or_next (targets_lead targets) (deriveds_lead ds)
  expr_lead (Modifier targets x) = or_next (targets_lead targets) (part_lead x)

  pub part_lead : Part → Option Place
  part_lead (Leaf t) = Some t.place
  part_lead (Elements es) = exprs_lead es
  part_lead (Merge es) = exprs_lead es
  part_lead (Paren e) = expr_lead e
  part_lead (Braces b) = Some (block_lead b)
  part_lead (Field base names) = or_next (part_lead base) (tokens_lead names)
  part_lead (Strand ps) = parts_lead ps
  part_lead (Nothing place) = Some place

  pub maybe_lead : MaybePart → Option Place
  maybe_lead none = None
  maybe_lead (some x) = part_lead x

  pub steps_lead : Steps → Option Place
  steps_lead no_steps = None
  steps_lead (and_steps s ss) = or_next (steps_lead ss) (step_lead s)

  pub step_lead : Step → Option Place
  step_lead (Apply d left) = or_next (maybe_lead left) (derived_lead d)
  step_lead (Assign q a) = pattern_lead q
  step_lead (Modify t d) = Some t.place

  pub derived_lead : Derived → Option Place
  derived_lead (derived x us) = or_next (part_lead x) (uses_lead us)

  pub uses_lead : Uses → Option Place
  uses_lead no_uses = None
  uses_lead (and_uses u us) = or_next (use_lead u) (uses_lead us)

  pub use_lead : Use → Option Place
  use_lead (One m) = part_lead m
  use_lead (Two m x) = or_next (part_lead m) (part_lead x)

  pub deriveds_lead : Deriveds → Option Place
  deriveds_lead no_deriveds = None
  deriveds_lead (and_deriveds d ds) = or_next (derived_lead d) (deriveds_lead ds)

  pub exprs_lead : Exprs → Option Place
  exprs_lead no_exprs = None
  exprs_lead (and_exprs e es) = or_next (expr_lead e) (exprs_lead es)

  pub parts_lead : Parts → Option Place
  parts_lead no_parts = None
  parts_lead (and_parts x xs) = or_next (part_lead x) (parts_lead xs)

-- of a modifier with its operands
abbrev pub modifier_lead : Use → Option Place
modifier_lead (One m) = part_lead m
modifier_lead (Two m x) = part_lead m

-- ---- statements and headers; without a leaf they have none

abbrev pub first_of : Stmt → Option Place
first_of (Eval e) = expr_lead e
first_of (Predicate e) = expr_lead e
first_of (Export q) = pattern_lead q

abbrev pub stmt_lead : Stmt → Place
stmt_lead s = or_else nowhere (first_of s)

abbrev pub argument_lead : Option Pattern → Option Place
argument_lead None = None
argument_lead (Some q) = pattern_lead q

-- in the order of the text
abbrev pub header_lead : Header → Place
header_lead h = or_else nowhere (or_next (argument_lead h.left) (or_next (token_lead h.left_operand) (Some h.own.place)))

-- the program without statements
abbrev pub at_start : Place
at_start = record { line = 1; column = 1 }
