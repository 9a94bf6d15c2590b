-- The blocks of a translated part are as many as are counted, and so are their bodies.
use Rattle.std.proofs.Common.{◌≡◌, ℕ, suc, ◌+◌, List, [], ◌∷◌, ◌++◌, length, Option, Some, None, arith, refl, ap, length-append}
use Rattle.bqn_syntax.specs.declared.token.Kind.{Kind}
use Rattle.bqn_syntax.specs.declared.token.Kind.TheVariants as kind
use Rattle.bqn_syntax.specs.declared.token.Token.{Token}
use Rattle.bqn_syntax.specs.declared.tree.Arrow.{Arrow}
use Rattle.bqn_syntax.specs.grammar.Trees.{Pattern, Name, Skip, Literal, ListPattern, StrandPattern, Patterns, no_patterns, and_patterns, Header, Expr, Value, Train, Modifier, Use, One, Two, Part, Leaf, Elements, Merge, Paren, Block as Braces, Field, Strand, Nothing, Step, Apply, Assign, Modify, Stmt, Eval, Predicate, Export, BlockTree, block, BodyTree, body, Derived, derived, MaybePart, none, some, Exprs, no_exprs, and_exprs, Uses, no_uses, and_uses, Parts, no_parts, and_parts, Steps, no_steps, and_steps, Stmts, no_stmts, and_stmts, Bodies, no_bodies, and_bodies, Deriveds, no_deriveds, and_deriveds}
use Rattle.bqn_syntax.specs.blocks.Counting.{how_many}
use Rattle.bqn_syntax.specs.blocks.Blocks.{and_plain, plain_in}
use Rattle.bqn_syntax.specs.scope.Bodies.{BodyNames}
use Rattle.bqn_code.specs.declared.code.Block.{Block}
use Rattle.bqn_compile.specs.declared.count.Count.{Count}
use Rattle.bqn_compile.specs.Counting.{nothing, past, one_block, one_pattern, in_kind, in_token, in_operand, in_targets, in_leaves, in_all_leaves, in_pattern, in_target, in_named_argument, in_argument, in_header, in_expr, in_part, in_block, in_maybe, in_steps, in_step, in_derived, in_uses, in_use, in_deriveds, in_exprs, in_parts, in_stmts, in_stmt, in_bodies, in_body}
use Rattle.bqn_compile.specs.Expressions.{Setting}
use Rattle.bqn_compile.specs.Blocks.{bodies_code, expr_blocks, part_blocks, blocks_from, maybe_blocks, steps_blocks, step_blocks, derived_blocks, uses_blocks, use_blocks, deriveds_blocks, exprs_blocks, parts_blocks, stmts_blocks, stmt_blocks, bodies_blocks, body_blocks}

abbrev pub bodies_in : List Block → ℕ
bodies_in [] = 0
bodies_in (x ∷ xs) = length x.bodies + bodies_in xs

-- these blocks and their bodies are those that are counted
pub record Counts (c : Count) (xs : List Block) : Type 0 where
  pub blocks : length xs ≡ c.blocks
  pub bodies : bodies_in xs ≡ c.bodies

-- what has no blocks
pub record NoBlocks (c : Count) : Type 0 where
  pub blocks : c.blocks ≡ 0
  pub bodies : c.bodies ≡ 0

pub bodies_append : (xs ys : List Block) → bodies_in (xs ++ ys) ≡ bodies_in xs + bodies_in ys
bodies_append [] ys = omega arith
bodies_append (x ∷ xs) ys = omega (arith, bodies_append xs ys)

pub counts_none : (c : Count) → NoBlocks c → Counts c []
counts_none c h = record { blocks = omega (arith, h.blocks); bodies = omega (arith, h.bodies) }

pub counts_append : (c d : Count) (xs ys : List Block) → Counts c xs → Counts d ys → Counts (past c d) (xs ++ ys)
counts_append c d xs ys h k = record { blocks = omega (arith, length-append xs ys, h.blocks, k.blocks); bodies = omega (arith, bodies_append xs ys, h.bodies, k.bodies) }

-- behind what has no blocks
pub counts_behind : (c d : Count) (xs : List Block) → NoBlocks c → Counts d xs → Counts (past c d) xs
counts_behind c d xs h k = record { blocks = omega (arith, h.blocks, k.blocks); bodies = omega (arith, h.bodies, k.bodies) }

pub both_none : (c d : Count) → NoBlocks c → NoBlocks d → NoBlocks (past c d)
both_none c d h k = record { blocks = omega (arith, h.blocks, k.blocks); bodies = omega (arith, h.bodies, k.bodies) }

nothing_none : NoBlocks nothing
nothing_none = record { blocks = refl; bodies = refl }

pub token_none : (t : Token) → NoBlocks (in_token t)
token_none t = by t.kind
  where
    by : (k : Kind) → NoBlocks (in_kind k)
    by (kind.Word name r) = record { blocks = refl; bodies = refl }
    by _ = nothing_none

pub targets_none : (ts : List (Token × Arrow)) → NoBlocks (in_targets ts)
targets_none [] = nothing_none
targets_none (t ∷ ts) = both_none (in_token t.0) (in_targets ts) (token_none t.0) (targets_none ts)

mutual
  pub leaves_none : (q : Pattern) → NoBlocks (in_leaves q)
  leaves_none (Name t) = token_none t
  leaves_none (Skip place) = nothing_none
  leaves_none (Literal t) = nothing_none
  leaves_none (ListPattern qs) = all_leaves_none qs
  leaves_none (StrandPattern qs) = all_leaves_none qs

  pub all_leaves_none : (qs : Patterns) → NoBlocks (in_all_leaves qs)
  all_leaves_none no_patterns = nothing_none
  all_leaves_none (and_patterns q qs) = both_none (in_leaves q) (in_all_leaves qs) (leaves_none q) (all_leaves_none qs)

pub pattern_none : (q : Pattern) → NoBlocks (in_pattern q)
pattern_none q = both_none one_pattern (in_leaves q) (record { blocks = refl; bodies = refl }) (leaves_none q)

pub target_none : (q : Pattern) → NoBlocks (in_target q)
target_none (Name t) = token_none t
target_none q = pattern_none q

pub argument_none : (q : Option Pattern) → NoBlocks (in_argument q)
argument_none None = nothing_none
argument_none (Some (Name t)) = by t.kind
  where
    by : (k : Kind) → NoBlocks (in_named_argument k)
    by (kind.Word name r) = record { blocks = refl; bodies = refl }
    by (kind.Special s r) = nothing_none
    by _ = record { blocks = refl; bodies = refl }
argument_none (Some q) = pattern_none q

pub operand_none : (t : Option Token) → NoBlocks (in_operand t)
operand_none None = nothing_none
operand_none (Some t) = token_none t

pub header_none : (h : Option Header) → NoBlocks (in_header h)
header_none None = nothing_none
header_none (Some h) =
    both_none (in_argument h.left) _ (argument_none h.left)
    (both_none (in_operand h.left_operand) _ (operand_none h.left_operand)
    (both_none (in_token h.own) _ (token_none h.own)
    (both_none (in_operand h.right_operand) (in_argument h.right) (operand_none h.right_operand) (argument_none h.right))))

module _ (g : Setting) (names : List BodyNames) where
  pub many_bodies : (plain before k : ℕ) (c : Count) (bs : Bodies) → length (bodies_code g names plain before k c bs) ≡ how_many bs
  many_bodies plain before k c no_bodies = refl
  many_bodies plain before k c (and_bodies x bs) = ap suc (many_bodies plain (and_plain x before) (suc k) (past c (in_body x)) bs)

  mutual
    pub expr_counts : (n : ℕ) (e : Expr) (c : Count) → Counts (in_expr e) (expr_blocks g names n e c)
    expr_counts n (Value last ss) c = counts_append (in_steps ss) (in_maybe last) _ _ (steps_counts n ss c) (maybe_counts n last (past c (in_steps ss)))
    expr_counts n (Train targets ds) c = counts_behind (in_targets targets) (in_deriveds ds) _ (targets_none targets) (deriveds_counts n ds (past c (in_targets targets)))
    expr_counts n (Modifier targets x) c = counts_behind (in_targets targets) (in_part x) _ (targets_none targets) (part_counts n x (past c (in_targets targets)))

    pub part_counts : (n : ℕ) (x : Part) (c : Count) → Counts (in_part x) (part_blocks g names n x c)
    part_counts n (Leaf t) c = counts_none (in_token t) (token_none t)
    part_counts n (Elements es) c = exprs_counts n es c
    part_counts n (Merge es) c = exprs_counts n es c
    part_counts n (Paren e) c = expr_counts n e c
    part_counts n (Braces b) c = block_counts n b c
    part_counts n (Field base fields) c = part_counts n base c
    part_counts n (Strand ps) c = parts_counts n ps c
    part_counts n (Nothing place) c = counts_none nothing nothing_none

    pub block_counts : (n : ℕ) (b : BlockTree) (c : Count) → Counts (in_block b) (blocks_from g names n b c)
    block_counts n (block place kind bs) c =
        let inner : Counts (in_bodies bs) (bodies_blocks g names c.bodies bs (past c (one_block (how_many bs)))) = bodies_counts c.bodies bs (past c (one_block (how_many bs))) in
        record { blocks = omega (arith, inner.blocks); bodies = omega (arith, inner.bodies, many_bodies (plain_in bs) 0 c.bodies (past c (one_block (how_many bs))) bs) }

    pub maybe_counts : (n : ℕ) (x : MaybePart) (c : Count) → Counts (in_maybe x) (maybe_blocks g names n x c)
    maybe_counts n none c = counts_none nothing nothing_none
    maybe_counts n (some x) c = part_counts n x c

    pub steps_counts : (n : ℕ) (ss : Steps) (c : Count) → Counts (in_steps ss) (steps_blocks g names n ss c)
    steps_counts n no_steps c = counts_none nothing nothing_none
    steps_counts n (and_steps s ss) c = counts_append (in_steps ss) (in_step s) _ _ (steps_counts n ss c) (step_counts n s (past c (in_steps ss)))

    pub step_counts : (n : ℕ) (s : Step) (c : Count) → Counts (in_step s) (step_blocks g names n s c)
    step_counts n (Apply d left) c = counts_append (in_maybe left) (in_derived d) _ _ (maybe_counts n left c) (derived_counts n d (past c (in_maybe left)))
    step_counts n (Assign q a) c = counts_none (in_target q) (target_none q)
    step_counts n (Modify t d) c = counts_behind (in_token t) (in_derived d) _ (token_none t) (derived_counts n d (past c (in_token t)))

    pub derived_counts : (n : ℕ) (d : Derived) (c : Count) → Counts (in_derived d) (derived_blocks g names n d c)
    derived_counts n (derived x us) c = counts_append (in_part x) (in_uses us) _ _ (part_counts n x c) (uses_counts n us (past c (in_part x)))

    pub uses_counts : (n : ℕ) (us : Uses) (c : Count) → Counts (in_uses us) (uses_blocks g names n us c)
    uses_counts n no_uses c = counts_none nothing nothing_none
    uses_counts n (and_uses u us) c = counts_append (in_use u) (in_uses us) _ _ (use_counts n u c) (uses_counts n us (past c (in_use u)))

    pub use_counts : (n : ℕ) (u : Use) (c : Count) → Counts (in_use u) (use_blocks g names n u c)
    use_counts n (One m) c = part_counts n m c
    use_counts n (Two m x) c = counts_append (in_part m) (in_part x) _ _ (part_counts n m c) (part_counts n x (past c (in_part m)))

    pub deriveds_counts : (n : ℕ) (ds : Deriveds) (c : Count) → Counts (in_deriveds ds) (deriveds_blocks g names n ds c)
    deriveds_counts n no_deriveds c = counts_none nothing nothing_none
    deriveds_counts n (and_deriveds d ds) c = counts_append (in_derived d) (in_deriveds ds) _ _ (derived_counts n d c) (deriveds_counts n ds (past c (in_derived d)))

    pub exprs_counts : (n : ℕ) (es : Exprs) (c : Count) → Counts (in_exprs es) (exprs_blocks g names n es c)
    exprs_counts n no_exprs c = counts_none nothing nothing_none
    exprs_counts n (and_exprs e es) c = counts_append (in_expr e) (in_exprs es) _ _ (expr_counts n e c) (exprs_counts n es (past c (in_expr e)))

    pub parts_counts : (n : ℕ) (xs : Parts) (c : Count) → Counts (in_parts xs) (parts_blocks g names n xs c)
    parts_counts n no_parts c = counts_none nothing nothing_none
    parts_counts n (and_parts x xs) c = counts_append (in_part x) (in_parts xs) _ _ (part_counts n x c) (parts_counts n xs (past c (in_part x)))

    pub stmts_counts : (n : ℕ) (ss : Stmts) (c : Count) → Counts (in_stmts ss) (stmts_blocks g names n ss c)
    stmts_counts n no_stmts c = counts_none nothing nothing_none
    stmts_counts n (and_stmts s ss) c = counts_append (in_stmt s) (in_stmts ss) _ _ (stmt_counts n s c) (stmts_counts n ss (past c (in_stmt s)))

    pub stmt_counts : (n : ℕ) (s : Stmt) (c : Count) → Counts (in_stmt s) (stmt_blocks g names n s c)
    stmt_counts n (Eval e) c = expr_counts n e c
    stmt_counts n (Predicate e) c = expr_counts n e c
    stmt_counts n (Export q) c = counts_none nothing nothing_none

    pub bodies_counts : (k : ℕ) (bs : Bodies) (c : Count) → Counts (in_bodies bs) (bodies_blocks g names k bs c)
    bodies_counts k no_bodies c = counts_none nothing nothing_none
    bodies_counts k (and_bodies x bs) c = counts_append (in_body x) (in_bodies bs) _ _ (body_counts k x c) (bodies_counts (suc k) bs (past c (in_body x)))

    pub body_counts : (n : ℕ) (x : BodyTree) (c : Count) → Counts (in_body x) (body_blocks g names n x c)
    body_counts n (body h ss) c = counts_behind (in_header h) (in_stmts ss) _ (header_none h) (stmts_counts n ss (past c (in_header h)))
