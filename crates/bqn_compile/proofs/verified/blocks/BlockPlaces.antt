-- The blocks in each body of a program stand among all blocks at the place that is their number.
use Rattle.std.proofs.Common.{◌≡◌, ◌≤◌, ℕ, zero, suc, ◌+◌, List, [], ◌∷◌, ◌++◌, length, slice_get, Some, arith, sym, subst}
use Rattle.bqn_syntax.specs.declared.tree.Class.{Class}
use Rattle.bqn_syntax.specs.grammar.Trees.{Expr, Value, Train, Modifier, Use, One, Two, Part, Leaf, Elements, Merge, Paren, Block as Braces, Field, Strand, Nothing, Step, Apply, Assign, Modify, Stmt, Eval, Predicate, Export, BlockTree, block, BodyTree, body, Derived, derived, MaybePart, none, some, Exprs, no_exprs, and_exprs, Uses, no_uses, and_uses, Parts, no_parts, and_parts, Steps, no_steps, and_steps, Stmts, no_stmts, and_stmts, Bodies, no_bodies, and_bodies, Deriveds, no_deriveds, and_deriveds}
use Rattle.bqn_syntax.specs.blocks.Counting.{how_many}
use Rattle.bqn_syntax.specs.blocks.Blocks.{and_plain, plain_in}
use Rattle.bqn_syntax.specs.scope.Bodies.{BodyNames}
use Rattle.bqn_code.specs.declared.code.Block.{Block}
use Rattle.bqn_compile.specs.declared.count.Count.{Count}
use Rattle.bqn_compile.specs.Counting.{past, one_block, in_token, in_targets, in_header, in_expr, in_part, in_maybe, in_steps, in_derived, in_use, in_stmt, in_body}
use Rattle.bqn_compile.specs.Expressions.{Setting}
use Rattle.bqn_compile.specs.Blocks.{bodies_code, expr_blocks, part_blocks, blocks_from, maybe_blocks, steps_blocks, step_blocks, derived_blocks, uses_blocks, use_blocks, deriveds_blocks, exprs_blocks, parts_blocks, stmts_blocks, stmt_blocks, bodies_blocks, body_blocks}
use Rattle.bqn_compile.specs.Translation.{at_start}
use Rattle.bqn_compile.proofs.verified.blocks.BlockCounts.{Counts, NoBlocks, token_none, targets_none, header_none, expr_counts, part_counts, maybe_counts, steps_counts, derived_counts, use_counts, stmt_counts, body_counts}
use Rattle.bqn_compile.proofs.verified.bodies.EveryBody.{EveryBodyOf, EveryInExpr, EveryInPart, EveryInBlock, EveryInMaybe, EveryInSteps, EveryInStep, EveryInDerived, EveryInUses, EveryInUse, EveryInDeriveds, EveryInExprs, EveryInParts, EveryInStmts, EveryInStmt, EveryInBodies, EveryInBody, EveryInProgram}

-- these blocks stand among all, the first at this place, behind the program
pub record Stand (all : List Block) (k : ℕ) (xs : List Block) : Type 0 where
  pub behind : 1 ≤ k
  pub there : (j : ℕ) (b : Block) → slice_get xs j ≡ Some b → slice_get all (k + j) ≡ Some b

get_front : (xs ys : List Block) (j : ℕ) (b : Block) → slice_get xs j ≡ Some b → slice_get (xs ++ ys) j ≡ Some b
get_front [] ys j b h = absurd (cc)
get_front (x ∷ xs) ys zero b h = h
get_front (x ∷ xs) ys (suc j) b h = get_front xs ys j b h

get_at : (xs : List Block) (i j : ℕ) (b : Block) → i ≡ j → slice_get xs i ≡ Some b → slice_get xs j ≡ Some b
get_at xs i j b q h = subst (λ (n : ℕ). slice_get xs n ≡ Some b) q h

get_back : (xs ys : List Block) (j : ℕ) (b : Block) → slice_get ys j ≡ Some b → slice_get (xs ++ ys) (length xs + j) ≡ Some b
get_back [] ys j b h = get_at ys j (0 + j) b (omega arith) h
get_back (x ∷ xs) ys j b h = get_at (x ∷ (xs ++ ys)) (suc (length xs + j)) (suc (length xs) + j) b (omega arith) (get_back xs ys j b h)

module _ (all : List Block) where
  pub stand_front : (k : ℕ) (xs ys : List Block) → Stand all k (xs ++ ys) → Stand all k xs
  stand_front k xs ys s = record { behind = s.behind; there = λ (j : ℕ) (b : Block) h. s.there j b (get_front xs ys j b h) }

  stand_back : (k i : ℕ) (xs ys : List Block) → k + length xs ≡ i → Stand all k (xs ++ ys) → Stand all i ys
  stand_back k i xs ys q s = let p : 1 ≤ k = s.behind in record {
    behind = omega arith;
    there = λ (j : ℕ) (b : Block) h. get_at all (k + (length xs + j)) (i + j) b (omega arith) (s.there (length xs + j) b (get_back xs ys j b h));
  }

  pub stand_past : (c d : Count) (xs ys : List Block) → Counts d xs → Stand all c.blocks (xs ++ ys) → Stand all (past c d).blocks ys
  stand_past c d xs ys counted s = stand_back c.blocks (c.blocks + d.blocks) xs ys (omega (arith, counted.blocks)) s

  pub stand_behind : (c d : Count) (xs : List Block) → NoBlocks d → Stand all c.blocks xs → Stand all (past c d).blocks xs
  stand_behind c d xs few s = stand_back c.blocks (c.blocks + d.blocks) [] xs (omega (arith, few.blocks)) s

  -- all blocks stand where they stand, but for the program
  pub all_stand : (first : Block) (xs : List Block) → all ≡ first ∷ xs → Stand all 1 xs
  all_stand first xs q = record {
    behind = omega arith;
    there = λ (j : ℕ) (b : Block) h. subst (λ (ys : List Block). slice_get ys (1 + j) ≡ Some b) (sym q) (get_back (first ∷ []) xs j b h);
  }

module _ (all : List Block) (g : Setting) (names : List BodyNames) where
  -- the blocks in a body stand there
  abbrev pub HasBlocks : Class → (block inside number plain before : ℕ) → Count → BodyTree → Type 0
  HasBlocks kind b n k plain before c x = Stand all c.blocks (body_blocks g names k x c)

  bodies_of_stand : (kind : Class) (b n plain before k : ℕ) (c : Count) (bs : Bodies) → Stand all c.blocks (bodies_blocks g names k bs c) → EveryBodyOf HasBlocks kind b n plain before k c bs
  bodies_of_stand kind b n plain before k c no_bodies s = tt
  bodies_of_stand kind b n plain before k c (and_bodies x bs) s = (stand_front all c.blocks _ _ s, bodies_of_stand kind b n plain (and_plain x before) (suc k) (past c (in_body x)) bs (stand_past all c (in_body x) _ _ (body_counts g names k x c) s))

  mutual
    expr_stands : (n : ℕ) (e : Expr) (c : Count) → Stand all c.blocks (expr_blocks g names n e c) → EveryInExpr HasBlocks n e c
    expr_stands n (Value last ss) c s = (steps_stand n ss c (stand_front all c.blocks _ _ s), maybe_stands n last (past c (in_steps ss)) (stand_past all c (in_steps ss) _ _ (steps_counts g names n ss c) s))
    expr_stands n (Train targets ds) c s = deriveds_stand n ds (past c (in_targets targets)) (stand_behind all c (in_targets targets) _ (targets_none targets) s)
    expr_stands n (Modifier targets x) c s = part_stands n x (past c (in_targets targets)) (stand_behind all c (in_targets targets) _ (targets_none targets) s)

    part_stands : (n : ℕ) (x : Part) (c : Count) → Stand all c.blocks (part_blocks g names n x c) → EveryInPart HasBlocks n x c
    part_stands n (Leaf t) c s = tt
    part_stands n (Elements es) c s = exprs_stand n es c s
    part_stands n (Merge es) c s = exprs_stand n es c s
    part_stands n (Paren e) c s = expr_stands n e c s
    part_stands n (Braces b) c s = block_stands n b c s
    part_stands n (Field base fields) c s = part_stands n base c s
    part_stands n (Strand ps) c s = parts_stand n ps c s
    part_stands n (Nothing place) c s = tt

    block_stands : (n : ℕ) (b : BlockTree) (c : Count) → Stand all c.blocks (blocks_from g names n b c) → EveryInBlock HasBlocks n b c
    block_stands n (block place kind bs) c s =
        let at : Count = past c (one_block (how_many bs)) in
        let inner : Stand all at.blocks (bodies_blocks g names c.bodies bs at) =
        stand_back all c.blocks (c.blocks + 1) (record { class = kind; parent = n; bodies = bodies_code g names (plain_in bs) 0 c.bodies at bs } ∷ []) (bodies_blocks g names c.bodies bs at) (omega arith) s in
        (bodies_of_stand kind c.blocks n (plain_in bs) 0 c.bodies at bs inner, bodies_stand c.bodies bs at inner)

    maybe_stands : (n : ℕ) (x : MaybePart) (c : Count) → Stand all c.blocks (maybe_blocks g names n x c) → EveryInMaybe HasBlocks n x c
    maybe_stands n none c s = tt
    maybe_stands n (some x) c s = part_stands n x c s

    steps_stand : (n : ℕ) (ss : Steps) (c : Count) → Stand all c.blocks (steps_blocks g names n ss c) → EveryInSteps HasBlocks n ss c
    steps_stand n no_steps c s = tt
    steps_stand n (and_steps x ss) c s = (steps_stand n ss c (stand_front all c.blocks _ _ s), step_stands n x (past c (in_steps ss)) (stand_past all c (in_steps ss) _ _ (steps_counts g names n ss c) s))

    step_stands : (n : ℕ) (x : Step) (c : Count) → Stand all c.blocks (step_blocks g names n x c) → EveryInStep HasBlocks n x c
    step_stands n (Apply d left) c s = (maybe_stands n left c (stand_front all c.blocks _ _ s), derived_stands n d (past c (in_maybe left)) (stand_past all c (in_maybe left) _ _ (maybe_counts g names n left c) s))
    step_stands n (Assign q a) c s = tt
    step_stands n (Modify t d) c s = derived_stands n d (past c (in_token t)) (stand_behind all c (in_token t) _ (token_none t) s)

    derived_stands : (n : ℕ) (d : Derived) (c : Count) → Stand all c.blocks (derived_blocks g names n d c) → EveryInDerived HasBlocks n d c
    derived_stands n (derived x us) c s = (part_stands n x c (stand_front all c.blocks _ _ s), uses_stand n us (past c (in_part x)) (stand_past all c (in_part x) _ _ (part_counts g names n x c) s))

    uses_stand : (n : ℕ) (us : Uses) (c : Count) → Stand all c.blocks (uses_blocks g names n us c) → EveryInUses HasBlocks n us c
    uses_stand n no_uses c s = tt
    uses_stand n (and_uses u us) c s = (use_stands n u c (stand_front all c.blocks _ _ s), uses_stand n us (past c (in_use u)) (stand_past all c (in_use u) _ _ (use_counts g names n u c) s))

    use_stands : (n : ℕ) (u : Use) (c : Count) → Stand all c.blocks (use_blocks g names n u c) → EveryInUse HasBlocks n u c
    use_stands n (One m) c s = part_stands n m c s
    use_stands n (Two m x) c s = (part_stands n m c (stand_front all c.blocks _ _ s), part_stands n x (past c (in_part m)) (stand_past all c (in_part m) _ _ (part_counts g names n m c) s))

    deriveds_stand : (n : ℕ) (ds : Deriveds) (c : Count) → Stand all c.blocks (deriveds_blocks g names n ds c) → EveryInDeriveds HasBlocks n ds c
    deriveds_stand n no_deriveds c s = tt
    deriveds_stand n (and_deriveds d ds) c s = (derived_stands n d c (stand_front all c.blocks _ _ s), deriveds_stand n ds (past c (in_derived d)) (stand_past all c (in_derived d) _ _ (derived_counts g names n d c) s))

    exprs_stand : (n : ℕ) (es : Exprs) (c : Count) → Stand all c.blocks (exprs_blocks g names n es c) → EveryInExprs HasBlocks n es c
    exprs_stand n no_exprs c s = tt
    exprs_stand n (and_exprs e es) c s = (expr_stands n e c (stand_front all c.blocks _ _ s), exprs_stand n es (past c (in_expr e)) (stand_past all c (in_expr e) _ _ (expr_counts g names n e c) s))

    parts_stand : (n : ℕ) (xs : Parts) (c : Count) → Stand all c.blocks (parts_blocks g names n xs c) → EveryInParts HasBlocks n xs c
    parts_stand n no_parts c s = tt
    parts_stand n (and_parts x xs) c s = (part_stands n x c (stand_front all c.blocks _ _ s), parts_stand n xs (past c (in_part x)) (stand_past all c (in_part x) _ _ (part_counts g names n x c) s))

    stmts_stand : (n : ℕ) (ss : Stmts) (c : Count) → Stand all c.blocks (stmts_blocks g names n ss c) → EveryInStmts HasBlocks n ss c
    stmts_stand n no_stmts c s = tt
    stmts_stand n (and_stmts x ss) c s = (stmt_stands n x c (stand_front all c.blocks _ _ s), stmts_stand n ss (past c (in_stmt x)) (stand_past all c (in_stmt x) _ _ (stmt_counts g names n x c) s))

    stmt_stands : (n : ℕ) (x : Stmt) (c : Count) → Stand all c.blocks (stmt_blocks g names n x c) → EveryInStmt HasBlocks n x c
    stmt_stands n (Eval e) c s = expr_stands n e c s
    stmt_stands n (Predicate e) c s = expr_stands n e c s
    stmt_stands n (Export q) c s = tt

    bodies_stand : (k : ℕ) (bs : Bodies) (c : Count) → Stand all c.blocks (bodies_blocks g names k bs c) → EveryInBodies HasBlocks k bs c
    bodies_stand k no_bodies c s = tt
    bodies_stand k (and_bodies x bs) c s = (body_stands k x c (stand_front all c.blocks _ _ s), bodies_stand (suc k) bs (past c (in_body x)) (stand_past all c (in_body x) _ _ (body_counts g names k x c) s))

    body_stands : (n : ℕ) (x : BodyTree) (c : Count) → Stand all c.blocks (body_blocks g names n x c) → EveryInBody HasBlocks n x c
    body_stands n (body h ss) c s = stmts_stand n ss (past c (in_header h)) (stand_behind all c (in_header h) _ (header_none h) s)

  pub program_stands : (ss : Stmts) → Stand all 1 (stmts_blocks g names 0 ss at_start) → EveryInProgram HasBlocks ss
  program_stands ss s = (s, stmts_stand 0 ss at_start s)
