-- A test of all blocks of a code but the program passes where it passes for each block of a well tree.
use Rattle.std.proofs.Common.{◌≡◌, ◌≤◌, ◌<◌, ℕ, suc, ◌+◌, ◌&&◌, Bool, true, List, [], ◌∷◌, ◌++◌, length, arith, refl, subst}
use Rattle.bqn_syntax.specs.declared.tree.Class.{Class}
use Rattle.bqn_syntax.specs.grammar.Trees.{Expr, Value, Train, Modifier, Use, One, Two, Part, Leaf, Elements, Merge, Paren, Block as Braces, Field, Strand, Nothing, Step, Apply, Assign, Modify, Stmt, Eval, Predicate, Export, BlockTree, block, BodyTree, body, Derived, derived, none, some, Exprs, no_exprs, and_exprs, Uses, no_uses, and_uses, Parts, no_parts, and_parts, Steps, no_steps, and_steps, Stmts, no_stmts, and_stmts, Bodies, no_bodies, and_bodies, Deriveds, no_deriveds, and_deriveds}
use Rattle.bqn_syntax.specs.grammar.Well.{WellExpr, WellPart, WellBlock, WellSteps, WellStep, WellDerived, WellUses, WellUse, WellDeriveds, WellExprs, WellParts, WellStmts, WellStmt, WellBodies, WellBody}
use Rattle.bqn_syntax.specs.blocks.Counting.{how_many}
use Rattle.bqn_syntax.specs.blocks.Blocks.{plain_in}
use Rattle.bqn_syntax.specs.scope.Bodies.{BodyNames}
use Rattle.bqn_code.specs.declared.code.Block.{Block}
use Rattle.bqn_compile.specs.declared.count.Count.{Count}
use Rattle.bqn_compile.specs.Counting.{past, one_block, in_token, in_targets, in_header, in_expr, in_part, in_maybe, in_steps, in_derived, in_use, in_stmt, in_body}
use Rattle.bqn_compile.specs.Expressions.{Setting}
use Rattle.bqn_compile.specs.Blocks.{bodies_code, expr_blocks, part_blocks, blocks_from, steps_blocks, step_blocks, derived_blocks, uses_blocks, use_blocks, deriveds_blocks, exprs_blocks, parts_blocks, stmts_blocks, stmt_blocks, bodies_blocks, body_blocks}
use Rattle.bqn_compile.proofs.verified.Tests.{both_true, left_true, right_true}
use Rattle.bqn_compile.proofs.verified.blocks.BlockCounts.{bodies_in, Counts, NoBlocks, token_none, targets_none, header_none, many_bodies, expr_counts, part_counts, maybe_counts, steps_counts, derived_counts, use_counts, stmt_counts, body_counts}
use Rattle.bqn_compile.proofs.verified.blocks.Sizes.{expr_size, part_size, block_size, steps_size, step_size, derived_size, uses_size, use_size, deriveds_size, exprs_size, parts_size, stmts_size, stmt_size, bodies_size, body_size}

module _ (test : ℕ → Block → Bool) where
  -- whether each block passes, each with how many bodies come before its own
  abbrev pub every_block : ℕ → List Block → Bool
  every_block k [] = true
  every_block k (x ∷ xs) = test k x && every_block (k + length x.bodies) xs

  abbrev pub Pass : ℕ → List Block → Type 0
  Pass k xs = every_block k xs ≡ true

  pass_at : (k k' : ℕ) (xs : List Block) → k' ≡ k → Pass k' xs → Pass k xs
  pass_at k k' xs q h = subst (λ (j : ℕ). Pass j xs) q h

  pass_append : (k : ℕ) (xs ys : List Block) → Pass k xs → Pass (k + bodies_in xs) ys → Pass k (xs ++ ys)
  pass_append k [] ys h l = pass_at k (k + 0) ys (omega arith) l
  pass_append k (x ∷ xs) ys h l =
      both_true (test k x) (every_block (k + length x.bodies) (xs ++ ys))
      (left_true (test k x) (every_block (k + length x.bodies) xs) h)
      (pass_append (k + length x.bodies) xs ys
      (right_true (test k x) (every_block (k + length x.bodies) xs) h)
      (pass_at ((k + length x.bodies) + bodies_in xs) (k + (length x.bodies + bodies_in xs)) ys (omega arith) l))

  pass_both : (c d : Count) (xs ys : List Block) → Counts d xs → Pass c.bodies xs → Pass (c.bodies + d.bodies) ys → Pass c.bodies (xs ++ ys)
  pass_both c d xs ys counted h l = pass_append c.bodies xs ys h (pass_at (c.bodies + bodies_in xs) (c.bodies + d.bodies) ys (omega (arith, counted.bodies)) l)

  pass_behind : (c d : Count) (xs : List Block) → NoBlocks d → Pass (c.bodies + d.bodies) xs → Pass c.bodies xs
  pass_behind c d xs few h = pass_at c.bodies (c.bodies + d.bodies) xs (omega (arith, few.bodies)) h

-- a block stands in a body before it, and its bodies have at most so many tokens
module _ (test : ℕ → Block → Bool) (g : Setting) (names : List BodyNames) (most : ℕ)
    (passes : (n : ℕ) (kind : Class) (bs : Bodies) (c : Count) → n < c.bodies → WellBodies bs → bodies_size bs ≤ most →
    test c.bodies (record { class = kind; parent = n; bodies = bodies_code g names (plain_in bs) 0 c.bodies (past c (one_block (how_many bs))) bs }) ≡ true) where
  mutual
    expr_pass : (n : ℕ) (e : Expr) (c : Count) → n < c.bodies → WellExpr e → expr_size e ≤ most → Pass test c.bodies (expr_blocks g names n e c)
    expr_pass n (Value none ss) c i w l = pass_both test c (in_steps ss) (steps_blocks g names n ss c) [] (steps_counts g names n ss c) (steps_pass n ss c i w.1 (omega arith)) refl
    expr_pass n (Value (some x) ss) c i w l = pass_both test c (in_steps ss) _ _ (steps_counts g names n ss c) (steps_pass n ss c i w.2 (omega arith)) (part_pass n x (past c (in_steps ss)) (omega arith) w.1 (omega arith))
    expr_pass n (Train targets ds) c i w l = pass_behind test c (in_targets targets) (deriveds_blocks g names n ds (past c (in_targets targets))) (targets_none targets) (deriveds_pass n ds (past c (in_targets targets)) (omega arith) w.3 (omega arith))
    expr_pass n (Modifier targets x) c i w l = pass_behind test c (in_targets targets) (part_blocks g names n x (past c (in_targets targets))) (targets_none targets) (part_pass n x (past c (in_targets targets)) (omega arith) w.2 (omega arith))

    part_pass : (n : ℕ) (x : Part) (c : Count) → n < c.bodies → WellPart x → part_size x ≤ most → Pass test c.bodies (part_blocks g names n x c)
    part_pass n (Leaf t) c i w l = refl
    part_pass n (Elements es) c i w l = exprs_pass n es c i w (omega arith)
    part_pass n (Merge es) c i w l = exprs_pass n es c i w.1 (omega arith)
    part_pass n (Paren e) c i w l = expr_pass n e c i w (omega arith)
    part_pass n (Braces b) c i w l = block_pass n b c i w l
    part_pass n (Field base fields) c i w l = part_pass n base c i w.2 (omega arith)
    part_pass n (Strand ps) c i w l = parts_pass n ps c i w.1 l
    part_pass n (Nothing place) c i w l = refl

    block_pass : (n : ℕ) (b : BlockTree) (c : Count) → n < c.bodies → WellBlock b → block_size b ≤ most → Pass test c.bodies (blocks_from g names n b c)
    block_pass n (block place kind bs) c i w l =
        let at : Count = past c (one_block (how_many bs)) in
        both_true _ _ (passes n kind bs c i w.2 (omega arith))
        (pass_at test (c.bodies + length (bodies_code g names (plain_in bs) 0 c.bodies at bs)) (c.bodies + how_many bs) (bodies_blocks g names c.bodies bs at) (omega (arith, many_bodies g names (plain_in bs) 0 c.bodies at bs)) (bodies_pass c.bodies bs at (omega arith) w.2 (omega arith)))

    steps_pass : (n : ℕ) (ss : Steps) (c : Count) → n < c.bodies → WellSteps ss → steps_size ss ≤ most → Pass test c.bodies (steps_blocks g names n ss c)
    steps_pass n no_steps c i w l = refl
    steps_pass n (and_steps s ss) c i w l = pass_both test c (in_steps ss) _ _ (steps_counts g names n ss c) (steps_pass n ss c i w.1 (omega arith)) (step_pass n s (past c (in_steps ss)) (omega arith) w.0 (omega arith))

    step_pass : (n : ℕ) (s : Step) (c : Count) → n < c.bodies → WellStep s → step_size s ≤ most → Pass test c.bodies (step_blocks g names n s c)
    step_pass n (Apply d none) c i w l = pass_both test c (in_maybe none) [] _ (maybe_counts g names n none c) refl (derived_pass n d (past c (in_maybe none)) (omega arith) w.1 (omega arith))
    step_pass n (Apply d (some x)) c i w l = pass_both test c (in_part x) _ _ (part_counts g names n x c) (part_pass n x c i w.3 (omega arith)) (derived_pass n d (past c (in_part x)) (omega arith) w.1 (omega arith))
    step_pass n (Assign q a) c i w l = refl
    step_pass n (Modify t d) c i w l = pass_behind test c (in_token t) (derived_blocks g names n d (past c (in_token t))) (token_none t) (derived_pass n d (past c (in_token t)) (omega arith) w.3 (omega arith))

    derived_pass : (n : ℕ) (d : Derived) (c : Count) → n < c.bodies → WellDerived d → derived_size d ≤ most → Pass test c.bodies (derived_blocks g names n d c)
    derived_pass n (derived x us) c i w l = pass_both test c (in_part x) _ _ (part_counts g names n x c) (part_pass n x c i w.0 (omega arith)) (uses_pass n us (past c (in_part x)) (omega arith) w.1 (omega arith))

    uses_pass : (n : ℕ) (us : Uses) (c : Count) → n < c.bodies → WellUses us → uses_size us ≤ most → Pass test c.bodies (uses_blocks g names n us c)
    uses_pass n no_uses c i w l = refl
    uses_pass n (and_uses u us) c i w l = pass_both test c (in_use u) _ _ (use_counts g names n u c) (use_pass n u c i w.0 (omega arith)) (uses_pass n us (past c (in_use u)) (omega arith) w.1 (omega arith))

    use_pass : (n : ℕ) (u : Use) (c : Count) → n < c.bodies → WellUse u → use_size u ≤ most → Pass test c.bodies (use_blocks g names n u c)
    use_pass n (One m) c i w l = part_pass n m c i w l
    use_pass n (Two m x) c i w l = pass_both test c (in_part m) _ _ (part_counts g names n m c) (part_pass n m c i w.0 (omega arith)) (part_pass n x (past c (in_part m)) (omega arith) w.1 (omega arith))

    deriveds_pass : (n : ℕ) (ds : Deriveds) (c : Count) → n < c.bodies → WellDeriveds ds → deriveds_size ds ≤ most → Pass test c.bodies (deriveds_blocks g names n ds c)
    deriveds_pass n no_deriveds c i w l = refl
    deriveds_pass n (and_deriveds d ds) c i w l = pass_both test c (in_derived d) _ _ (derived_counts g names n d c) (derived_pass n d c i w.0 (omega arith)) (deriveds_pass n ds (past c (in_derived d)) (omega arith) w.1 (omega arith))

    exprs_pass : (n : ℕ) (es : Exprs) (c : Count) → n < c.bodies → WellExprs es → exprs_size es ≤ most → Pass test c.bodies (exprs_blocks g names n es c)
    exprs_pass n no_exprs c i w l = refl
    exprs_pass n (and_exprs e es) c i w l = pass_both test c (in_expr e) _ _ (expr_counts g names n e c) (expr_pass n e c i w.0 (omega arith)) (exprs_pass n es (past c (in_expr e)) (omega arith) w.1 (omega arith))

    parts_pass : (n : ℕ) (xs : Parts) (c : Count) → n < c.bodies → WellParts xs → parts_size xs ≤ most → Pass test c.bodies (parts_blocks g names n xs c)
    parts_pass n no_parts c i w l = refl
    parts_pass n (and_parts x xs) c i w l = pass_both test c (in_part x) _ _ (part_counts g names n x c) (part_pass n x c i w.1 (omega arith)) (parts_pass n xs (past c (in_part x)) (omega arith) w.2 (omega arith))

    pub stmts_pass : (in_block : Bool) (n : ℕ) (ss : Stmts) (c : Count) → n < c.bodies → WellStmts in_block ss → stmts_size ss ≤ most → Pass test c.bodies (stmts_blocks g names n ss c)
    stmts_pass in_block n no_stmts c i w l = refl
    stmts_pass in_block n (and_stmts s ss) c i w l = pass_both test c (in_stmt s) _ _ (stmt_counts g names n s c) (stmt_pass in_block n s c i w.0 (omega arith)) (stmts_pass in_block n ss (past c (in_stmt s)) (omega arith) w.1 (omega arith))

    stmt_pass : (in_block : Bool) (n : ℕ) (s : Stmt) (c : Count) → n < c.bodies → WellStmt in_block s → stmt_size s ≤ most → Pass test c.bodies (stmt_blocks g names n s c)
    stmt_pass in_block n (Eval e) c i w l = expr_pass n e c i w l
    stmt_pass in_block n (Predicate e) c i w l = expr_pass n e c i w.2 (omega arith)
    stmt_pass in_block n (Export q) c i w l = refl

    -- the first of the bodies has this number
    bodies_pass : (k : ℕ) (bs : Bodies) (c : Count) → k + how_many bs ≤ c.bodies → WellBodies bs → bodies_size bs ≤ most → Pass test c.bodies (bodies_blocks g names k bs c)
    bodies_pass k no_bodies c i w l = refl
    bodies_pass k (and_bodies x bs) c i w l = pass_both test c (in_body x) _ _ (body_counts g names k x c) (body_pass k x c (omega arith) w.0 (omega arith)) (bodies_pass (suc k) bs (past c (in_body x)) (omega arith) w.1 (omega arith))

    body_pass : (n : ℕ) (x : BodyTree) (c : Count) → n < c.bodies → WellBody x → body_size x ≤ most → Pass test c.bodies (body_blocks g names n x c)
    body_pass n (body h ss) c i w l = pass_behind test c (in_header h) (stmts_blocks g names n ss (past c (in_header h))) (header_none h) (stmts_pass true n ss (past c (in_header h)) (omega arith) w.1 (omega arith))
