-- The names that a body mentions in its own text, in text order, and the blocks that stand between them.
use Rattle.std.specs.Prelude.{List, [], ◌∷◌, Option, Some, None}
use Rattle.bqn_syntax.specs.declared.token.Token.{Token}
use Rattle.bqn_syntax.specs.declared.token.Kind.{Kind}
use Rattle.bqn_syntax.specs.declared.token.Kind.TheVariants as kind
use Rattle.bqn_syntax.specs.declared.tree.Arrow.{Arrow}
use Rattle.bqn_syntax.specs.grammar.Trees.{Pattern, Name, Skip, Literal, ListPattern, StrandPattern, Patterns, no_patterns, and_patterns, Header, Expr, Value, Train, Modifier, Use, One, Two, Part, Leaf, Elements, Merge, Paren, Block, Field, Strand, Nothing, Step, Apply, Assign, Modify, Stmt, Eval, Predicate, Export, BlockTree, block, BodyTree, body, Derived, derived, MaybePart, none, some, Exprs, no_exprs, and_exprs, Uses, no_uses, and_uses, Parts, no_parts, and_parts, Steps, no_steps, and_steps, Stmts, no_stmts, and_stmts, Bodies, no_bodies, and_bodies, Deriveds, no_deriveds, and_deriveds}
use Rattle.bqn_syntax.specs.scope.Order.{How, Reads, Defines, Changes, Shows, by_arrow, order_of}

-- The mentions in text order, before others.

-- a name, a special name, a system name, or a block that stands there with its bodies; each body's own mentions, and the order
-- in which they are evaluated
mutual
  pub data Mention : Type 0 where
    Named : How → Token → Mention
    Special : Token → Mention
    System : Token → Mention
    Inner : Scopes → Mention

  pub data Mentions : Type 0 where
    no_mentions : Mentions
    and_mentions : Mention → Mentions → Mentions

  pub data Scopes : Type 0 where
    no_scopes : Scopes
    and_scopes : Mentions → List (How × Token) → Scopes → Scopes

abbrev pub leaf_mention : How → Kind → Token → Mentions → Mentions
leaf_mention how (kind.Word name r) t k = and_mentions (Named how t) k
leaf_mention how (kind.Special s r) t k = and_mentions (Special t) k
leaf_mention how (kind.System name r) t k = and_mentions (System t) k
leaf_mention how _ t k = k

abbrev mutual
  pub pattern_mentions : How → Pattern → Mentions → Mentions
  pattern_mentions how (Name t) k = leaf_mention how t.kind t k
  pattern_mentions how (Skip place) k = k
  pattern_mentions how (Literal t) k = k
  pattern_mentions how (ListPattern qs) k = patterns_mentions how qs k
  pattern_mentions how (StrandPattern qs) k = patterns_mentions how qs k

  pub patterns_mentions : How → Patterns → Mentions → Mentions
  patterns_mentions how no_patterns k = k
  patterns_mentions how (and_patterns q qs) k = pattern_mentions how q (patterns_mentions how qs k)

abbrev pub token_mentions : How → Option Token → Mentions → Mentions
token_mentions how None k = k
token_mentions how (Some t) k = leaf_mention how t.kind t k

abbrev pub argument_mentions : Option Pattern → Mentions → Mentions
argument_mentions None k = k
argument_mentions (Some q) k = pattern_mentions Defines q k

-- a header defines its names
abbrev pub header_mentions : Option Header → Mentions → Mentions
header_mentions None k = k
header_mentions (Some h) k =
    argument_mentions h.left (token_mentions Defines h.left_operand
    (leaf_mention Defines h.own.kind h.own (token_mentions Defines h.right_operand (argument_mentions h.right k))))

abbrev pub target_mentions : List (Token × Arrow) → Mentions → Mentions
target_mentions [] k = k
target_mentions (t ∷ ts) k = leaf_mention (by_arrow t.1) t.0.kind t.0 (target_mentions ts k)

abbrev mutual
  pub expr_mentions : Expr → Mentions → Mentions
  expr_mentions (Value last steps) k = steps_mentions steps (maybe_mentions last k)
  expr_mentions (Train targets parts) k = target_mentions targets (deriveds_mentions parts k)
  expr_mentions (Modifier targets x) k = target_mentions targets (part_mentions x k)

  -- the names of a field are no mentions
  pub part_mentions : Part → Mentions → Mentions
  part_mentions (Leaf t) k = leaf_mention Reads t.kind t k
  part_mentions (Elements es) k = exprs_mentions es k
  part_mentions (Merge es) k = exprs_mentions es k
  part_mentions (Paren e) k = expr_mentions e k
  part_mentions (Block b) k = block_mention b k
  part_mentions (Field base names) k = part_mentions base k
  part_mentions (Strand ps) k = parts_mentions ps k
  part_mentions (Nothing place) k = k

  pub block_mention : BlockTree → Mentions → Mentions
  block_mention (block place c bs) k = and_mentions (Inner (scopes_of bs)) k

  pub maybe_mentions : MaybePart → Mentions → Mentions
  maybe_mentions none k = k
  maybe_mentions (some x) k = part_mentions x k

  pub steps_mentions : Steps → Mentions → Mentions
  steps_mentions no_steps k = k
  steps_mentions (and_steps s ss) k = steps_mentions ss (step_mentions s k)

  pub step_mentions : Step → Mentions → Mentions
  step_mentions (Apply f left) k = maybe_mentions left (derived_mentions f k)
  step_mentions (Assign q a) k = pattern_mentions (by_arrow a) q k
  step_mentions (Modify t f) k = leaf_mention Changes t.kind t (derived_mentions f k)

  pub derived_mentions : Derived → Mentions → Mentions
  derived_mentions (derived x us) k = part_mentions x (uses_mentions us k)

  pub uses_mentions : Uses → Mentions → Mentions
  uses_mentions no_uses k = k
  uses_mentions (and_uses u us) k = use_mentions u (uses_mentions us k)

  pub use_mentions : Use → Mentions → Mentions
  use_mentions (One m) k = part_mentions m k
  use_mentions (Two m x) k = part_mentions m (part_mentions x k)

  pub deriveds_mentions : Deriveds → Mentions → Mentions
  deriveds_mentions no_deriveds k = k
  deriveds_mentions (and_deriveds d ds) k = derived_mentions d (deriveds_mentions ds k)

  pub exprs_mentions : Exprs → Mentions → Mentions
  exprs_mentions no_exprs k = k
  exprs_mentions (and_exprs e es) k = expr_mentions e (exprs_mentions es k)

  pub parts_mentions : Parts → Mentions → Mentions
  parts_mentions no_parts k = k
  parts_mentions (and_parts x xs) k = part_mentions x (parts_mentions xs k)

  pub stmt_mentions : Stmt → Mentions → Mentions
  stmt_mentions (Eval e) k = expr_mentions e k
  stmt_mentions (Predicate e) k = expr_mentions e k
  stmt_mentions (Export q) k = pattern_mentions Shows q k

  pub stmts_mentions : Stmts → Mentions → Mentions
  stmts_mentions no_stmts k = k
  stmts_mentions (and_stmts s ss) k = stmt_mentions s (stmts_mentions ss k)

  pub scopes_of : Bodies → Scopes
  scopes_of no_bodies = no_scopes
  scopes_of (and_bodies b bs) = body_scope b (scopes_of bs)

  pub body_scope : BodyTree → Scopes → Scopes
  body_scope (body h ss) others = and_scopes (header_mentions h (stmts_mentions ss no_mentions)) (order_of h ss) others
