-- Each block of a well program has a body.
use Rattle.std.proofs.Common.{◌≡◌, ℕ, suc, not, Bool, true, List, [], ◌++◌, refl}
use Rattle.std.specs.List.{list_all}
use Rattle.bqn_syntax.specs.grammar.Trees.{Expr, Value, Train, Modifier, Use, One, Two, Part, Leaf, Elements, Merge, Paren, Block as Braces, Field, Strand, Nothing, Step, Apply, Assign, Modify, Stmt, Eval, Predicate, Export, BlockTree, block, BodyTree, body, Derived, derived, none, some, Exprs, no_exprs, and_exprs, Uses, no_uses, and_uses, Parts, no_parts, and_parts, Steps, no_steps, and_steps, Stmts, no_stmts, and_stmts, Bodies, no_bodies, and_bodies, Deriveds, no_deriveds, and_deriveds}
use Rattle.bqn_syntax.specs.blocks.Counting.{how_many}
use Rattle.bqn_syntax.specs.blocks.Blocks.{plain_in}
use Rattle.bqn_syntax.specs.scope.Bodies.{BodyNames}
use Rattle.bqn_syntax.specs.grammar.Well.{IsSomeBodies, WellExpr, WellPart, WellSteps, WellStep, WellDerived, WellUses, WellUse, WellDeriveds, WellExprs, WellParts, WellStmt, WellStmts, WellBody, WellBodies, WellBlock}
use Rattle.bqn_code.specs.declared.code.Block.{Block}
use Rattle.bqn_code.specs.Heights.{is_empty}
use Rattle.bqn_compile.specs.declared.count.Count.{Count}
use Rattle.bqn_compile.specs.Counting.{past, one_block, in_token, in_targets, in_part, in_maybe, in_steps, in_derived, in_use, in_expr, in_stmt, in_header, in_body}
use Rattle.bqn_compile.specs.Expressions.{Setting}
use Rattle.bqn_compile.specs.Blocks.{bodies_code, expr_blocks, part_blocks, blocks_from, steps_blocks, step_blocks, derived_blocks, uses_blocks, use_blocks, deriveds_blocks, exprs_blocks, parts_blocks, stmts_blocks, stmt_blocks, bodies_blocks, body_blocks}
use Rattle.bqn_compile.proofs.verified.Tests.{both_true, all_append}

abbrev pub has_body : Block → Bool
has_body b = not (is_empty b.bodies)

-- each of these blocks has a body
pub record HaveBodies (xs : List Block) : Type 0 where
  pub all : list_all has_body xs ≡ true

no_blocks : HaveBodies []
no_blocks = record { all = refl }

both_have : {xs ys : List Block} → HaveBodies xs → HaveBodies ys → HaveBodies (xs ++ ys)
both_have {xs} {ys} h k = record { all = all_append has_body xs ys h.all k.all }

module _ (g : Setting) (names : List BodyNames) where
  some_body : (plain k : ℕ) (c : Count) (bs : Bodies) → IsSomeBodies bs → not (is_empty (bodies_code g names plain 0 k c bs)) ≡ true
  some_body plain k c no_bodies h = absurd h
  some_body plain k c (and_bodies x bs) h = refl

  mutual
    expr_have : (n : ℕ) (e : Expr) (c : Count) → WellExpr e → HaveBodies (expr_blocks g names n e c)
    expr_have n (Value none ss) c h = both_have (steps_have n ss c h.1) no_blocks
    expr_have n (Value (some x) ss) c h = both_have (steps_have n ss c h.2) (part_have n x (past c (in_steps ss)) h.1)
    expr_have n (Train targets ds) c h = deriveds_have n ds (past c (in_targets targets)) h.3
    expr_have n (Modifier targets x) c h = part_have n x (past c (in_targets targets)) h.2

    part_have : (n : ℕ) (x : Part) (c : Count) → WellPart x → HaveBodies (part_blocks g names n x c)
    part_have n (Leaf t) c h = no_blocks
    part_have n (Elements es) c h = exprs_have n es c h
    part_have n (Merge es) c h = exprs_have n es c h.1
    part_have n (Paren e) c h = expr_have n e c h
    part_have n (Braces b) c h = block_has n b c h
    part_have n (Field base fields) c h = part_have n base c h.2
    part_have n (Strand ps) c h = parts_have n ps c h.1
    part_have n (Nothing place) c h = no_blocks

    block_has : (n : ℕ) (b : BlockTree) (c : Count) → WellBlock b → HaveBodies (blocks_from g names n b c)
    block_has n (block place kind bs) c h =
        let at : Count = past c (one_block (how_many bs)) in
        record { all = both_true (not (is_empty (bodies_code g names (plain_in bs) 0 c.bodies at bs))) (list_all has_body (bodies_blocks g names c.bodies bs at)) (some_body (plain_in bs) c.bodies at bs h.0) (bodies_have c.bodies bs at h.2).all }

    steps_have : (n : ℕ) (ss : Steps) (c : Count) → WellSteps ss → HaveBodies (steps_blocks g names n ss c)
    steps_have n no_steps c h = no_blocks
    steps_have n (and_steps s ss) c h = both_have (steps_have n ss c h.1) (step_has n s (past c (in_steps ss)) h.0)

    step_has : (n : ℕ) (s : Step) (c : Count) → WellStep s → HaveBodies (step_blocks g names n s c)
    step_has n (Apply d none) c h = both_have no_blocks (derived_has n d (past c (in_maybe none)) h.1)
    step_has n (Apply d (some x)) c h = both_have (part_have n x c h.3) (derived_has n d (past c (in_part x)) h.1)
    step_has n (Assign q a) c h = no_blocks
    step_has n (Modify t d) c h = derived_has n d (past c (in_token t)) h.3

    derived_has : (n : ℕ) (d : Derived) (c : Count) → WellDerived d → HaveBodies (derived_blocks g names n d c)
    derived_has n (derived x us) c h = both_have (part_have n x c h.0) (uses_have n us (past c (in_part x)) h.1)

    uses_have : (n : ℕ) (us : Uses) (c : Count) → WellUses us → HaveBodies (uses_blocks g names n us c)
    uses_have n no_uses c h = no_blocks
    uses_have n (and_uses u us) c h = both_have (use_has n u c h.0) (uses_have n us (past c (in_use u)) h.1)

    use_has : (n : ℕ) (u : Use) (c : Count) → WellUse u → HaveBodies (use_blocks g names n u c)
    use_has n (One m) c h = part_have n m c h
    use_has n (Two m x) c h = both_have (part_have n m c h.0) (part_have n x (past c (in_part m)) h.1)

    deriveds_have : (n : ℕ) (ds : Deriveds) (c : Count) → WellDeriveds ds → HaveBodies (deriveds_blocks g names n ds c)
    deriveds_have n no_deriveds c h = no_blocks
    deriveds_have n (and_deriveds d ds) c h = both_have (derived_has n d c h.0) (deriveds_have n ds (past c (in_derived d)) h.1)

    exprs_have : (n : ℕ) (es : Exprs) (c : Count) → WellExprs es → HaveBodies (exprs_blocks g names n es c)
    exprs_have n no_exprs c h = no_blocks
    exprs_have n (and_exprs e es) c h = both_have (expr_have n e c h.0) (exprs_have n es (past c (in_expr e)) h.1)

    parts_have : (n : ℕ) (xs : Parts) (c : Count) → WellParts xs → HaveBodies (parts_blocks g names n xs c)
    parts_have n no_parts c h = no_blocks
    parts_have n (and_parts x xs) c h = both_have (part_have n x c h.1) (parts_have n xs (past c (in_part x)) h.2)

    pub stmts_have : (n : ℕ) (ss : Stmts) (c : Count) (in_block : Bool) → WellStmts in_block ss → HaveBodies (stmts_blocks g names n ss c)
    stmts_have n no_stmts c in_block h = no_blocks
    stmts_have n (and_stmts s ss) c in_block h = both_have (stmt_has n s c in_block h.0) (stmts_have n ss (past c (in_stmt s)) in_block h.1)

    stmt_has : (n : ℕ) (s : Stmt) (c : Count) (in_block : Bool) → WellStmt in_block s → HaveBodies (stmt_blocks g names n s c)
    stmt_has n (Eval e) c in_block h = expr_have n e c h
    stmt_has n (Predicate e) c in_block h = expr_have n e c h.2
    stmt_has n (Export q) c in_block h = no_blocks

    bodies_have : (k : ℕ) (bs : Bodies) (c : Count) → WellBodies bs → HaveBodies (bodies_blocks g names k bs c)
    bodies_have k no_bodies c h = no_blocks
    bodies_have k (and_bodies x bs) c h = both_have (body_has k x c h.0) (bodies_have (suc k) bs (past c (in_body x)) h.1)

    body_has : (n : ℕ) (x : BodyTree) (c : Count) → WellBody x → HaveBodies (body_blocks g names n x c)
    body_has n (body hd ss) c h = stmts_have n ss (past c (in_header hd)) true h.1
