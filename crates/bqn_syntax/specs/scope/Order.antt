-- The names that a body reads and stores in its own text, in the order of evaluation, blocks in it aside: BQN's page on
-- evaluation.
use Rattle.std.specs.Prelude.{List, [], ◌∷◌, Option, Some, None}
use Rattle.bqn_syntax.specs.declared.token.Token.{Token}
use Rattle.bqn_syntax.specs.declared.token.Kind.{Kind}
use Rattle.bqn_syntax.specs.declared.token.Kind.TheVariants as kind
use Rattle.bqn_syntax.specs.declared.tree.Arrow.{Arrow}
use Rattle.bqn_syntax.specs.declared.tree.Arrow.TheVariants as arrow
use Rattle.bqn_syntax.specs.grammar.Trees.{Pattern, Name, Skip, Literal, ListPattern, StrandPattern, Patterns, no_patterns, and_patterns, Header, Expr, Value, Train, Modifier, Use, One, Two, Part, Leaf, Elements, Merge, Paren, Block, Field, Strand, Nothing, Step, Apply, Assign, Modify, Stmt, Eval, Predicate, Export, Derived, derived, MaybePart, none, some, Exprs, no_exprs, and_exprs, Uses, no_uses, and_uses, Parts, no_parts, and_parts, Steps, no_steps, and_steps, Stmts, no_stmts, and_stmts, Deriveds, no_deriveds, and_deriveds}

-- what a token does with its name: reads it; defines it; defines and exports it; changes it; exports it without a value
pub data How : Type 0 where
  Reads Defines Exports Changes Shows : How

abbrev pub by_arrow : Arrow → How
by_arrow arrow.Define = Defines
by_arrow arrow.Export = Exports
by_arrow arrow.Change = Changes

-- The reads and stores in the order of evaluation, before others: right arguments before functions before left ones, right
-- operands before modifiers before left ones, the parts of a train from the right, values before their targets.

abbrev pub leaf_order : How → Kind → Token → List (How × Token) → List (How × Token)
leaf_order how (kind.Word name r) t k = (how, t) ∷ k
leaf_order how _ t k = k

abbrev mutual
  pub pattern_order : How → Pattern → List (How × Token) → List (How × Token)
  pattern_order how (Name t) k = leaf_order how t.kind t k
  pattern_order how (Skip place) k = k
  pattern_order how (Literal t) k = k
  pattern_order how (ListPattern qs) k = patterns_order how qs k
  pattern_order how (StrandPattern qs) k = patterns_order how qs k

  pub patterns_order : How → Patterns → List (How × Token) → List (How × Token)
  patterns_order how no_patterns k = k
  patterns_order how (and_patterns q qs) k = pattern_order how q (patterns_order how qs k)

-- the rightmost target is stored first
abbrev pub targets_order : List (Token × Arrow) → List (How × Token) → List (How × Token)
targets_order [] k = k
targets_order (t ∷ ts) k = targets_order ts (leaf_order (by_arrow t.1) t.0.kind t.0 k)

abbrev mutual
  pub expr_order : Expr → List (How × Token) → List (How × Token)
  expr_order (Value none (and_steps (Modify t f) ss)) k = leaf_order Changes t.kind t (derived_order f (steps_order ss k))
  expr_order (Value none ss) k = steps_order ss k
  expr_order (Value (some x) ss) k = part_order x (steps_order ss k)
  expr_order (Train targets parts) k = deriveds_order parts (targets_order targets k)
  expr_order (Modifier targets x) k = part_order x (targets_order targets k)

  pub part_order : Part → List (How × Token) → List (How × Token)
  part_order (Leaf t) k = leaf_order Reads t.kind t k
  part_order (Elements es) k = exprs_order es k
  part_order (Merge es) k = exprs_order es k
  part_order (Paren e) k = expr_order e k
  part_order (Block b) k = k
  part_order (Field base names) k = part_order base k
  part_order (Strand ps) k = parts_order ps k
  part_order (Nothing place) k = k

  pub maybe_order : MaybePart → List (How × Token) → List (How × Token)
  maybe_order none k = k
  maybe_order (some x) k = part_order x k

  pub steps_order : Steps → List (How × Token) → List (How × Token)
  steps_order no_steps k = k
  steps_order (and_steps s ss) k = step_order s (steps_order ss k)

  -- `a F↩ x` reads `a` after its function
  pub step_order : Step → List (How × Token) → List (How × Token)
  step_order (Apply f left) k = derived_order f (maybe_order left k)
  step_order (Assign q a) k = pattern_order (by_arrow a) q k
  step_order (Modify t f) k = derived_order f (leaf_order Changes t.kind t k)

  pub derived_order : Derived → List (How × Token) → List (How × Token)
  derived_order (derived x us) k = uses_order us (part_order x k)

  -- the last modifier is the outermost
  pub uses_order : Uses → List (How × Token) → List (How × Token)
  uses_order no_uses k = k
  uses_order (and_uses u us) k = uses_order us (use_order u k)

  pub use_order : Use → List (How × Token) → List (How × Token)
  use_order (One m) k = part_order m k
  use_order (Two m x) k = part_order x (part_order m k)

  pub deriveds_order : Deriveds → List (How × Token) → List (How × Token)
  deriveds_order no_deriveds k = k
  deriveds_order (and_deriveds d ds) k = deriveds_order ds (derived_order d k)

  pub exprs_order : Exprs → List (How × Token) → List (How × Token)
  exprs_order no_exprs k = k
  exprs_order (and_exprs e es) k = expr_order e (exprs_order es k)

  pub parts_order : Parts → List (How × Token) → List (How × Token)
  parts_order no_parts k = k
  parts_order (and_parts x xs) k = part_order x (parts_order xs k)

abbrev pub stmt_order : Stmt → List (How × Token) → List (How × Token)
stmt_order (Eval e) k = expr_order e k
stmt_order (Predicate e) k = expr_order e k
stmt_order (Export q) k = k

abbrev pub stmts_order : Stmts → List (How × Token) → List (How × Token)
stmts_order no_stmts k = k
stmts_order (and_stmts s ss) k = stmt_order s (stmts_order ss k)

abbrev pub argument_order : Option Pattern → List (How × Token) → List (How × Token)
argument_order None k = k
argument_order (Some q) k = pattern_order Defines q k

abbrev pub token_order : Option Token → List (How × Token) → List (How × Token)
token_order None k = k
token_order (Some t) k = leaf_order Defines t.kind t k

abbrev pub header_order : Option Header → List (How × Token) → List (How × Token)
header_order None k = k
header_order (Some h) k =
    argument_order h.left (token_order h.left_operand (leaf_order Defines h.own.kind h.own (token_order h.right_operand (argument_order h.right k))))

abbrev pub order_of : Option Header → Stmts → List (How × Token)
order_of h ss = header_order h (stmts_order ss [])
