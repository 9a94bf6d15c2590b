-- What holds of each thing in a program holds of each thing in its bodies.
use Rattle.std.proofs.Common.{ℕ, suc}
use Rattle.bqn_syntax.specs.declared.tree.Class.{Class}
use Rattle.bqn_syntax.specs.grammar.Trees.{Expr, Value, Train, Modifier, Use, One, Two, Part, Leaf, Elements, Merge, Paren, Block, Field, Strand, Nothing, Step, Apply, Assign, Modify, Stmt, Eval, Predicate, Export, BlockTree, block, BodyTree, body, Derived, derived, MaybePart, none, some, Exprs, no_exprs, and_exprs, Uses, no_uses, and_uses, Parts, no_parts, and_parts, Steps, no_steps, and_steps, Stmts, no_stmts, and_stmts, Bodies, no_bodies, and_bodies, Deriveds, no_deriveds, and_deriveds}
use Rattle.bqn_syntax.specs.blocks.Blocks.{and_plain, plain_in}
use Rattle.bqn_syntax.specs.blocks.Counting.{how_many}
use Rattle.bqn_compile.specs.declared.count.Count.{Count}
use Rattle.bqn_compile.specs.Counting.{past, one_block, in_token, in_targets, in_part, in_maybe, in_steps, in_derived, in_use, in_expr, in_stmt, in_header, in_body}
use Rattle.bqn_compile.specs.Translation.{at_start}
use Rattle.bqn_compile.proofs.verified.pools.Items.{Item, EachItem, header_items, targets_items, expr_items, part_items, block_items, maybe_items, steps_items, step_items, derived_items, uses_items, use_items, deriveds_items, exprs_items, parts_items, stmts_items, stmt_items, bodies_items, body_items}
use Rattle.bqn_compile.proofs.verified.pools.CodePasses.{each_front, each_back, steps_counted, part_counted, maybe_counted, derived_counted, use_counted, expr_counted, targets_counted, stmt_counted, header_counted, body_counted}
use Rattle.bqn_compile.proofs.verified.bodies.EveryBody as every

module _ (P : Count → Item → Type 0) where
  -- it holds of what is in a body
  abbrev pub Held : Class → (block inside number plain before : ℕ) → Count → BodyTree → Type 0
  Held kind b n k plain before c x = EachItem P c (body_items x)

  bodies_of_hold : (kind : Class) (b n plain before k : ℕ) (c : Count) (bs : Bodies) → EachItem P c (bodies_items bs) → every.EveryBodyOf Held kind b n plain before k c bs
  bodies_of_hold kind b n plain before k c no_bodies h = tt
  bodies_of_hold kind b n plain before k c (and_bodies x bs) h =
      (each_front P c (body_items x) (bodies_items bs) h, bodies_of_hold kind b n plain (and_plain x before) (suc k) (past c (in_body x)) bs (each_back P c (in_body x) (body_items x) (bodies_items bs) (body_counted x) h))

  mutual
    expr_holds : (n : ℕ) (e : Expr) (c : Count) → EachItem P c (expr_items e) → every.EveryInExpr Held n e c
    expr_holds n (Value last ss) c h = (steps_hold n ss c (each_front P c (steps_items ss) (maybe_items last) h), maybe_holds n last (past c (in_steps ss)) (each_back P c (in_steps ss) (steps_items ss) (maybe_items last) (steps_counted ss) h))
    expr_holds n (Train ts ds) c h = deriveds_hold n ds (past c (in_targets ts)) (each_back P c (in_targets ts) (targets_items ts) (deriveds_items ds) (targets_counted ts) h)
    expr_holds n (Modifier ts x) c h = part_holds n x (past c (in_targets ts)) (each_back P c (in_targets ts) (targets_items ts) (part_items x) (targets_counted ts) h)

    part_holds : (n : ℕ) (x : Part) (c : Count) → EachItem P c (part_items x) → every.EveryInPart Held n x c
    part_holds n (Leaf t) c h = tt
    part_holds n (Elements es) c h = exprs_hold n es c h
    part_holds n (Merge es) c h = exprs_hold n es c h
    part_holds n (Paren e) c h = expr_holds n e c h
    part_holds n (Block b) c h = block_holds n b c h
    part_holds n (Field base names) c h = part_holds n base c (each_front P c (part_items base) _ h)
    part_holds n (Strand ps) c h = parts_hold n ps c h
    part_holds n (Nothing place) c h = tt

    block_holds : (n : ℕ) (b : BlockTree) (c : Count) → EachItem P c (block_items b) → every.EveryInBlock Held n b c
    block_holds n (block place kind bs) c h =
        let at : Count = past c (one_block (how_many bs)) in
        (bodies_of_hold kind c.blocks n (plain_in bs) 0 c.bodies at bs h.1, bodies_hold c.bodies bs at h.1)

    maybe_holds : (n : ℕ) (x : MaybePart) (c : Count) → EachItem P c (maybe_items x) → every.EveryInMaybe Held n x c
    maybe_holds n none c h = tt
    maybe_holds n (some x) c h = part_holds n x c h

    steps_hold : (n : ℕ) (ss : Steps) (c : Count) → EachItem P c (steps_items ss) → every.EveryInSteps Held n ss c
    steps_hold n no_steps c h = tt
    steps_hold n (and_steps s ss) c h = (steps_hold n ss c (each_front P c (steps_items ss) (step_items s) h), step_holds n s (past c (in_steps ss)) (each_back P c (in_steps ss) (steps_items ss) (step_items s) (steps_counted ss) h))

    step_holds : (n : ℕ) (s : Step) (c : Count) → EachItem P c (step_items s) → every.EveryInStep Held n s c
    step_holds n (Apply d left) c h = (maybe_holds n left c (each_front P c (maybe_items left) (derived_items d) h), derived_holds n d (past c (in_maybe left)) (each_back P c (in_maybe left) (maybe_items left) (derived_items d) (maybe_counted left) h))
    step_holds n (Assign q a) c h = tt
    step_holds n (Modify t d) c h = derived_holds n d (past c (in_token t)) h.1

    derived_holds : (n : ℕ) (d : Derived) (c : Count) → EachItem P c (derived_items d) → every.EveryInDerived Held n d c
    derived_holds n (derived x us) c h = (part_holds n x c (each_front P c (part_items x) (uses_items us) h), uses_hold n us (past c (in_part x)) (each_back P c (in_part x) (part_items x) (uses_items us) (part_counted x) h))

    uses_hold : (n : ℕ) (us : Uses) (c : Count) → EachItem P c (uses_items us) → every.EveryInUses Held n us c
    uses_hold n no_uses c h = tt
    uses_hold n (and_uses u us) c h = (use_holds n u c (each_front P c (use_items u) (uses_items us) h), uses_hold n us (past c (in_use u)) (each_back P c (in_use u) (use_items u) (uses_items us) (use_counted u) h))

    use_holds : (n : ℕ) (u : Use) (c : Count) → EachItem P c (use_items u) → every.EveryInUse Held n u c
    use_holds n (One m) c h = part_holds n m c h
    use_holds n (Two m x) c h = (part_holds n m c (each_front P c (part_items m) (part_items x) h), part_holds n x (past c (in_part m)) (each_back P c (in_part m) (part_items m) (part_items x) (part_counted m) h))

    deriveds_hold : (n : ℕ) (ds : Deriveds) (c : Count) → EachItem P c (deriveds_items ds) → every.EveryInDeriveds Held n ds c
    deriveds_hold n no_deriveds c h = tt
    deriveds_hold n (and_deriveds d ds) c h = (derived_holds n d c (each_front P c (derived_items d) (deriveds_items ds) h), deriveds_hold n ds (past c (in_derived d)) (each_back P c (in_derived d) (derived_items d) (deriveds_items ds) (derived_counted d) h))

    exprs_hold : (n : ℕ) (es : Exprs) (c : Count) → EachItem P c (exprs_items es) → every.EveryInExprs Held n es c
    exprs_hold n no_exprs c h = tt
    exprs_hold n (and_exprs e es) c h = (expr_holds n e c (each_front P c (expr_items e) (exprs_items es) h), exprs_hold n es (past c (in_expr e)) (each_back P c (in_expr e) (expr_items e) (exprs_items es) (expr_counted e) h))

    parts_hold : (n : ℕ) (ps : Parts) (c : Count) → EachItem P c (parts_items ps) → every.EveryInParts Held n ps c
    parts_hold n no_parts c h = tt
    parts_hold n (and_parts x xs) c h = (part_holds n x c (each_front P c (part_items x) (parts_items xs) h), parts_hold n xs (past c (in_part x)) (each_back P c (in_part x) (part_items x) (parts_items xs) (part_counted x) h))

    stmts_hold : (n : ℕ) (ss : Stmts) (c : Count) → EachItem P c (stmts_items ss) → every.EveryInStmts Held n ss c
    stmts_hold n no_stmts c h = tt
    stmts_hold n (and_stmts s ss) c h = (stmt_holds n s c (each_front P c (stmt_items s) (stmts_items ss) h), stmts_hold n ss (past c (in_stmt s)) (each_back P c (in_stmt s) (stmt_items s) (stmts_items ss) (stmt_counted s) h))

    stmt_holds : (n : ℕ) (s : Stmt) (c : Count) → EachItem P c (stmt_items s) → every.EveryInStmt Held n s c
    stmt_holds n (Eval e) c h = expr_holds n e c h
    stmt_holds n (Predicate e) c h = expr_holds n e c h
    stmt_holds n (Export q) c h = tt

    bodies_hold : (k : ℕ) (bs : Bodies) (c : Count) → EachItem P c (bodies_items bs) → every.EveryInBodies Held k bs c
    bodies_hold k no_bodies c h = tt
    bodies_hold k (and_bodies b bs) c h = (body_holds k b c (each_front P c (body_items b) (bodies_items bs) h), bodies_hold (suc k) bs (past c (in_body b)) (each_back P c (in_body b) (body_items b) (bodies_items bs) (body_counted b) h))

    body_holds : (n : ℕ) (b : BodyTree) (c : Count) → EachItem P c (body_items b) → every.EveryInBody Held n b c
    body_holds n (body h ss) c e = stmts_hold n ss (past c (in_header h)) (each_back P c (in_header h) (header_items h) (stmts_items ss) (header_counted h) e)

  pub program_holds : (ss : Stmts) → EachItem P at_start (stmts_items ss) → every.EveryInProgram Held ss
  program_holds ss h = (h, stmts_hold 0 ss at_start h)
