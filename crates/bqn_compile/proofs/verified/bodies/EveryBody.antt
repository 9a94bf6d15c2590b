-- A test of all bodies of a code passes where it passes for the body of each body tree.
use Rattle.std.proofs.Common.{◌≡◌, ℕ, suc, ◌+◌, Bool, true, false, List, [], ◌∷◌, ◌++◌, length, slice_get, None, arith, refl, subst}
use Rattle.std.specs.List.{list_all}
use Rattle.bqn_syntax.specs.declared.tree.Class.{Class}
use Rattle.bqn_syntax.specs.declared.tree.Class.TheVariants as class
use Rattle.bqn_syntax.specs.grammar.Trees.{Expr, Value, Train, Modifier, Use, One, Two, Part, Leaf, Elements, Merge, Paren, Block as Braces, Field, Strand, Nothing, Step, Apply, Assign, Modify, Stmt, Eval, Predicate, Export, BlockTree, block, BodyTree, body, Derived, derived, MaybePart, none, some, Exprs, no_exprs, and_exprs, Uses, no_uses, and_uses, Parts, no_parts, and_parts, Steps, no_steps, and_steps, Stmts, no_stmts, and_stmts, Bodies, no_bodies, and_bodies, Deriveds, no_deriveds, and_deriveds}
use Rattle.bqn_syntax.specs.blocks.Counting.{how_many}
use Rattle.bqn_syntax.specs.blocks.Blocks.{and_plain, plain_in}
use Rattle.bqn_syntax.specs.scope.Bodies.{BodyNames, Resolution}
use Rattle.bqn_code.specs.declared.code.Body.{Body}
use Rattle.bqn_code.specs.declared.code.Block.{Block}
use Rattle.bqn_code.specs.Standing.{Standing, of_block, of_blocks, every_body}
use Rattle.bqn_compile.specs.declared.count.Count.{Count}
use Rattle.bqn_compile.specs.Counting.{past, one_block, in_token, in_targets, in_header, in_expr, in_part, in_maybe, in_steps, in_derived, in_use, in_stmt, in_body}
use Rattle.bqn_compile.specs.Gathering.{Gathered}
use Rattle.bqn_compile.specs.Expressions.{Setting}
use Rattle.bqn_compile.specs.Bodies.{names_in, body_code, calls_of}
use Rattle.bqn_compile.specs.Blocks.{bodies_code, expr_blocks, part_blocks, blocks_from, maybe_blocks, steps_blocks, step_blocks, derived_blocks, uses_blocks, use_blocks, deriveds_blocks, exprs_blocks, parts_blocks, stmts_blocks, stmt_blocks, bodies_blocks, body_blocks}
use Rattle.bqn_compile.specs.Translation.{at_start, setting, program, translation}
use Rattle.bqn_compile.proofs.verified.Tests.{both_true, all_append, all_front, all_back}
use Rattle.bqn_compile.proofs.verified.blocks.BlockCounts.{bodies_in, Counts, NoBlocks, token_none, targets_none, header_none, many_bodies, expr_counts, part_counts, maybe_counts, steps_counts, derived_counts, use_counts, stmt_counts, body_counts}
use Rattle.bqn_syntax.specs.grammar.Classes.{Calls, Both, body_calls, has_predicate}

module _ (Holds : Class → (block inside number plain before : ℕ) → Count → BodyTree → Type 0) where
  -- it holds of the bodies of one block, the first of which has this number
  abbrev pub EveryBodyOf : Class → (block inside plain before number : ℕ) → Count → Bodies → Type 0
  EveryBodyOf kind b n plain before k c no_bodies = Unit {0}
  EveryBodyOf kind b n plain before k c (and_bodies x bs) = Holds kind b n k plain before c x × EveryBodyOf kind b n plain (and_plain x before) (suc k) (past c (in_body x)) bs

  -- it holds of all bodies in a part of the body with this number, where so much comes before
  abbrev mutual
    pub EveryInExpr : (inside : ℕ) → Expr → Count → Type 0
    EveryInExpr n (Value last ss) c = EveryInSteps n ss c × EveryInMaybe n last (past c (in_steps ss))
    EveryInExpr n (Train targets ds) c = EveryInDeriveds n ds (past c (in_targets targets))
    EveryInExpr n (Modifier targets x) c = EveryInPart n x (past c (in_targets targets))

    pub EveryInPart : (inside : ℕ) → Part → Count → Type 0
    EveryInPart n (Leaf t) c = Unit {0}
    EveryInPart n (Elements es) c = EveryInExprs n es c
    EveryInPart n (Merge es) c = EveryInExprs n es c
    EveryInPart n (Paren e) c = EveryInExpr n e c
    EveryInPart n (Braces b) c = EveryInBlock n b c
    EveryInPart n (Field base fields) c = EveryInPart n base c
    EveryInPart n (Strand ps) c = EveryInParts n ps c
    EveryInPart n (Nothing place) c = Unit {0}

    pub EveryInBlock : (inside : ℕ) → BlockTree → Count → Type 0
    EveryInBlock n (block place kind bs) c =
        EveryBodyOf kind c.blocks n (plain_in bs) 0 c.bodies (past c (one_block (how_many bs))) bs × EveryInBodies c.bodies bs (past c (one_block (how_many bs)))

    pub EveryInMaybe : (inside : ℕ) → MaybePart → Count → Type 0
    EveryInMaybe n none c = Unit {0}
    EveryInMaybe n (some x) c = EveryInPart n x c

    pub EveryInSteps : (inside : ℕ) → Steps → Count → Type 0
    EveryInSteps n no_steps c = Unit {0}
    EveryInSteps n (and_steps s ss) c = EveryInSteps n ss c × EveryInStep n s (past c (in_steps ss))

    pub EveryInStep : (inside : ℕ) → Step → Count → Type 0
    EveryInStep n (Apply d left) c = EveryInMaybe n left c × EveryInDerived n d (past c (in_maybe left))
    EveryInStep n (Assign q a) c = Unit {0}
    EveryInStep n (Modify t d) c = EveryInDerived n d (past c (in_token t))

    pub EveryInDerived : (inside : ℕ) → Derived → Count → Type 0
    EveryInDerived n (derived x us) c = EveryInPart n x c × EveryInUses n us (past c (in_part x))

    pub EveryInUses : (inside : ℕ) → Uses → Count → Type 0
    EveryInUses n no_uses c = Unit {0}
    EveryInUses n (and_uses u us) c = EveryInUse n u c × EveryInUses n us (past c (in_use u))

    pub EveryInUse : (inside : ℕ) → Use → Count → Type 0
    EveryInUse n (One m) c = EveryInPart n m c
    EveryInUse n (Two m x) c = EveryInPart n m c × EveryInPart n x (past c (in_part m))

    pub EveryInDeriveds : (inside : ℕ) → Deriveds → Count → Type 0
    EveryInDeriveds n no_deriveds c = Unit {0}
    EveryInDeriveds n (and_deriveds d ds) c = EveryInDerived n d c × EveryInDeriveds n ds (past c (in_derived d))

    pub EveryInExprs : (inside : ℕ) → Exprs → Count → Type 0
    EveryInExprs n no_exprs c = Unit {0}
    EveryInExprs n (and_exprs e es) c = EveryInExpr n e c × EveryInExprs n es (past c (in_expr e))

    pub EveryInParts : (inside : ℕ) → Parts → Count → Type 0
    EveryInParts n no_parts c = Unit {0}
    EveryInParts n (and_parts x xs) c = EveryInPart n x c × EveryInParts n xs (past c (in_part x))

    pub EveryInStmts : (inside : ℕ) → Stmts → Count → Type 0
    EveryInStmts n no_stmts c = Unit {0}
    EveryInStmts n (and_stmts s ss) c = EveryInStmt n s c × EveryInStmts n ss (past c (in_stmt s))

    pub EveryInStmt : (inside : ℕ) → Stmt → Count → Type 0
    EveryInStmt n (Eval e) c = EveryInExpr n e c
    EveryInStmt n (Predicate e) c = EveryInExpr n e c
    EveryInStmt n (Export q) c = Unit {0}

    -- in the bodies of a block, the first of which has this number
    pub EveryInBodies : (number : ℕ) → Bodies → Count → Type 0
    EveryInBodies k no_bodies c = Unit {0}
    EveryInBodies k (and_bodies x bs) c = EveryInBody k x c × EveryInBodies (suc k) bs (past c (in_body x))

    pub EveryInBody : (inside : ℕ) → BodyTree → Count → Type 0
    EveryInBody n (body h ss) c = EveryInStmts n ss (past c (in_header h))

  -- it holds of all bodies of a program, the program's own among them
  abbrev pub EveryInProgram : Stmts → Type 0
  EveryInProgram ss = Holds class.Immediate 0 0 0 1 0 at_start (body None ss) × EveryInStmts 0 ss at_start

-- ---- all bodies

module _ (test : Standing → Bool) where
  -- the bodies of these blocks pass, where this is the number of the first block and that of its first body
  abbrev Pass : (block number : ℕ) → List Block → Type 0
  Pass b k xs = list_all test (of_blocks b k xs) ≡ true

  pass_at : (b k b' k' : ℕ) (xs : List Block) → b' ≡ b → k' ≡ k → Pass b' k' xs → Pass b k xs
  pass_at b k b' k' xs p q h = subst (λ (j : ℕ). Pass b j xs) q (subst (λ (a : ℕ). Pass a k' xs) p h)

  pass_append : (b k : ℕ) (xs ys : List Block) → Pass b k xs → Pass (b + length xs) (k + bodies_in xs) ys → Pass b k (xs ++ ys)
  pass_append b k [] ys h l = pass_at b k (b + 0) (k + 0) ys (omega arith) (omega arith) l
  pass_append b k (x ∷ xs) ys h l =
      all_append test (of_block b k x x.bodies) (of_blocks (suc b) (k + length x.bodies) (xs ++ ys))
      (all_front test (of_block b k x x.bodies) (of_blocks (suc b) (k + length x.bodies) xs) h)
      (pass_append (suc b) (k + length x.bodies) xs ys
      (all_back test (of_block b k x x.bodies) (of_blocks (suc b) (k + length x.bodies) xs) h)
      (pass_at (suc b + length xs) ((k + length x.bodies) + bodies_in xs) (b + suc (length xs)) (k + (length x.bodies + bodies_in xs)) ys (omega arith) (omega arith) l))

  pass_both : (c d : Count) (xs ys : List Block) → Counts d xs → Pass c.blocks c.bodies xs → Pass (c.blocks + d.blocks) (c.bodies + d.bodies) ys → Pass c.blocks c.bodies (xs ++ ys)
  pass_both c d xs ys many h k =
      pass_append c.blocks c.bodies xs ys h
      (pass_at (c.blocks + length xs) (c.bodies + bodies_in xs) (c.blocks + d.blocks) (c.bodies + d.bodies) ys (omega (arith, many.blocks)) (omega (arith, many.bodies)) k)

  pass_behind : (c d : Count) (xs : List Block) → NoBlocks d → Pass (c.blocks + d.blocks) (c.bodies + d.bodies) xs → Pass c.blocks c.bodies xs
  pass_behind c d xs few h = pass_at c.blocks c.bodies (c.blocks + d.blocks) (c.bodies + d.bodies) xs (omega (arith, few.blocks)) (omega (arith, few.bodies)) h

module _ (Holds : Class → (block inside number plain before : ℕ) → Count → BodyTree → Type 0) (test : Standing → Bool) (g : Setting) (names : List BodyNames)
    (passes : (kind : Class) (b n k plain before : ℕ) (bodies : List Body) (c : Count) (x : BodyTree) → Holds kind b n k plain before c x →
    test (record { number = k; block_number = b; block = record { class = kind; parent = n; bodies = bodies }; body = body_code g (names_in (slice_get names k)) (calls_of plain before x) c x }) ≡ true) where
  bodies_of_pass : (kind : Class) (b n plain before k : ℕ) (c : Count) (bodies : List Body) (bs : Bodies) → EveryBodyOf Holds kind b n plain before k c bs →
      list_all test (of_block b k (record { class = kind; parent = n; bodies = bodies }) (bodies_code g names plain before k c bs)) ≡ true
  bodies_of_pass kind b n plain before k c bodies no_bodies h = refl
  bodies_of_pass kind b n plain before k c bodies (and_bodies x bs) h = both_true _ _ (passes kind b n k plain before bodies c x h.0) (bodies_of_pass kind b n plain (and_plain x before) (suc k) (past c (in_body x)) bodies bs h.1)

  mutual
    expr_pass : (n : ℕ) (e : Expr) (c : Count) → EveryInExpr Holds n e c → Pass test c.blocks c.bodies (expr_blocks g names n e c)
    expr_pass n (Value last ss) c h = pass_both test c (in_steps ss) _ _ (steps_counts g names n ss c) (steps_pass n ss c h.0) (maybe_pass n last (past c (in_steps ss)) h.1)
    expr_pass n (Train targets ds) c h = pass_behind test c (in_targets targets) (deriveds_blocks g names n ds (past c (in_targets targets))) (targets_none targets) (deriveds_pass n ds (past c (in_targets targets)) h)
    expr_pass n (Modifier targets x) c h = pass_behind test c (in_targets targets) (part_blocks g names n x (past c (in_targets targets))) (targets_none targets) (part_pass n x (past c (in_targets targets)) h)

    part_pass : (n : ℕ) (x : Part) (c : Count) → EveryInPart Holds n x c → Pass test c.blocks c.bodies (part_blocks g names n x c)
    part_pass n (Leaf t) c h = refl
    part_pass n (Elements es) c h = exprs_pass n es c h
    part_pass n (Merge es) c h = exprs_pass n es c h
    part_pass n (Paren e) c h = expr_pass n e c h
    part_pass n (Braces b) c h = block_pass n b c h
    part_pass n (Field base fields) c h = part_pass n base c h
    part_pass n (Strand ps) c h = parts_pass n ps c h
    part_pass n (Nothing place) c h = refl

    block_pass : (n : ℕ) (b : BlockTree) (c : Count) → EveryInBlock Holds n b c → Pass test c.blocks c.bodies (blocks_from g names n b c)
    block_pass n (block place kind bs) c h =
        let at : Count = past c (one_block (how_many bs)) in
        let bodies : List Body = bodies_code g names (plain_in bs) 0 c.bodies at bs in
        let inner : List Block = bodies_blocks g names c.bodies bs at in
        all_append test (of_block c.blocks c.bodies (record { class = kind; parent = n; bodies = bodies }) bodies) (of_blocks (suc c.blocks) (c.bodies + length bodies) inner)
        (bodies_of_pass kind c.blocks n (plain_in bs) 0 c.bodies at bodies bs h.0)
        (pass_at test (suc c.blocks) (c.bodies + length bodies) (c.blocks + 1) (c.bodies + how_many bs) inner (omega arith) (omega (arith, many_bodies g names (plain_in bs) 0 c.bodies at bs)) (bodies_pass c.bodies bs at h.1))

    maybe_pass : (n : ℕ) (x : MaybePart) (c : Count) → EveryInMaybe Holds n x c → Pass test c.blocks c.bodies (maybe_blocks g names n x c)
    maybe_pass n none c h = refl
    maybe_pass n (some x) c h = part_pass n x c h

    steps_pass : (n : ℕ) (ss : Steps) (c : Count) → EveryInSteps Holds n ss c → Pass test c.blocks c.bodies (steps_blocks g names n ss c)
    steps_pass n no_steps c h = refl
    steps_pass n (and_steps s ss) c h = pass_both test c (in_steps ss) _ _ (steps_counts g names n ss c) (steps_pass n ss c h.0) (step_pass n s (past c (in_steps ss)) h.1)

    step_pass : (n : ℕ) (s : Step) (c : Count) → EveryInStep Holds n s c → Pass test c.blocks c.bodies (step_blocks g names n s c)
    step_pass n (Apply d left) c h = pass_both test c (in_maybe left) _ _ (maybe_counts g names n left c) (maybe_pass n left c h.0) (derived_pass n d (past c (in_maybe left)) h.1)
    step_pass n (Assign q a) c h = refl
    step_pass n (Modify t d) c h = pass_behind test c (in_token t) (derived_blocks g names n d (past c (in_token t))) (token_none t) (derived_pass n d (past c (in_token t)) h)

    derived_pass : (n : ℕ) (d : Derived) (c : Count) → EveryInDerived Holds n d c → Pass test c.blocks c.bodies (derived_blocks g names n d c)
    derived_pass n (derived x us) c h = pass_both test c (in_part x) _ _ (part_counts g names n x c) (part_pass n x c h.0) (uses_pass n us (past c (in_part x)) h.1)

    uses_pass : (n : ℕ) (us : Uses) (c : Count) → EveryInUses Holds n us c → Pass test c.blocks c.bodies (uses_blocks g names n us c)
    uses_pass n no_uses c h = refl
    uses_pass n (and_uses u us) c h = pass_both test c (in_use u) _ _ (use_counts g names n u c) (use_pass n u c h.0) (uses_pass n us (past c (in_use u)) h.1)

    use_pass : (n : ℕ) (u : Use) (c : Count) → EveryInUse Holds n u c → Pass test c.blocks c.bodies (use_blocks g names n u c)
    use_pass n (One m) c h = part_pass n m c h
    use_pass n (Two m x) c h = pass_both test c (in_part m) _ _ (part_counts g names n m c) (part_pass n m c h.0) (part_pass n x (past c (in_part m)) h.1)

    deriveds_pass : (n : ℕ) (ds : Deriveds) (c : Count) → EveryInDeriveds Holds n ds c → Pass test c.blocks c.bodies (deriveds_blocks g names n ds c)
    deriveds_pass n no_deriveds c h = refl
    deriveds_pass n (and_deriveds d ds) c h = pass_both test c (in_derived d) _ _ (derived_counts g names n d c) (derived_pass n d c h.0) (deriveds_pass n ds (past c (in_derived d)) h.1)

    exprs_pass : (n : ℕ) (es : Exprs) (c : Count) → EveryInExprs Holds n es c → Pass test c.blocks c.bodies (exprs_blocks g names n es c)
    exprs_pass n no_exprs c h = refl
    exprs_pass n (and_exprs e es) c h = pass_both test c (in_expr e) _ _ (expr_counts g names n e c) (expr_pass n e c h.0) (exprs_pass n es (past c (in_expr e)) h.1)

    parts_pass : (n : ℕ) (xs : Parts) (c : Count) → EveryInParts Holds n xs c → Pass test c.blocks c.bodies (parts_blocks g names n xs c)
    parts_pass n no_parts c h = refl
    parts_pass n (and_parts x xs) c h = pass_both test c (in_part x) _ _ (part_counts g names n x c) (part_pass n x c h.0) (parts_pass n xs (past c (in_part x)) h.1)

    stmts_pass : (n : ℕ) (ss : Stmts) (c : Count) → EveryInStmts Holds n ss c → Pass test c.blocks c.bodies (stmts_blocks g names n ss c)
    stmts_pass n no_stmts c h = refl
    stmts_pass n (and_stmts s ss) c h = pass_both test c (in_stmt s) _ _ (stmt_counts g names n s c) (stmt_pass n s c h.0) (stmts_pass n ss (past c (in_stmt s)) h.1)

    stmt_pass : (n : ℕ) (s : Stmt) (c : Count) → EveryInStmt Holds n s c → Pass test c.blocks c.bodies (stmt_blocks g names n s c)
    stmt_pass n (Eval e) c h = expr_pass n e c h
    stmt_pass n (Predicate e) c h = expr_pass n e c h
    stmt_pass n (Export q) c h = refl

    bodies_pass : (k : ℕ) (bs : Bodies) (c : Count) → EveryInBodies Holds k bs c → Pass test c.blocks c.bodies (bodies_blocks g names k bs c)
    bodies_pass k no_bodies c h = refl
    bodies_pass k (and_bodies x bs) c h = pass_both test c (in_body x) _ _ (body_counts g names k x c) (body_pass k x c h.0) (bodies_pass (suc k) bs (past c (in_body x)) h.1)

    body_pass : (n : ℕ) (x : BodyTree) (c : Count) → EveryInBody Holds n x c → Pass test c.blocks c.bodies (body_blocks g names n x c)
    body_pass n (body h ss) c every = pass_behind test c (in_header h) (stmts_blocks g names n ss (past c (in_header h))) (header_none h) (stmts_pass n ss (past c (in_header h)) every)

-- the body of a program stands for all calls
both_calls : (before : ℕ) (predicate : Bool) → body_calls 1 before None predicate ≡ Both
both_calls before true = refl
both_calls before false = refl

pub every-body : (Holds : Class → (block inside number plain before : ℕ) → Count → BodyTree → Type 0) (test : Standing → Bool) (r : Resolution) (pools : Gathered) (ss : Stmts) →
    ((kind : Class) (b n k plain before : ℕ) (bodies : List Body) (c : Count) (x : BodyTree) → Holds kind b n k plain before c x →
    test (record { number = k; block_number = b; block = record { class = kind; parent = n; bodies = bodies }; body = body_code (setting r.uses pools) (names_in (slice_get r.bodies k)) (calls_of plain before x) c x }) ≡ true) →
    EveryInProgram Holds ss → every_body test (translation r pools ss) ≡ true
every-body Holds test r pools ss h every =
    let g : Setting = setting r.uses pools in
    let the : Block = program g r.bodies ss in
    let at : Calls → Standing = λ calls. record { number = 0; block_number = 0; block = the; body = body_code g (names_in (slice_get r.bodies 0)) calls at_start (body None ss) } in
    both_true (test (at Both)) (list_all test (of_blocks 1 1 (stmts_blocks g r.bodies 0 ss at_start)))
    (subst (λ (calls : Calls). test (at calls) ≡ true) (both_calls 0 (has_predicate ss)) (h class.Immediate 0 0 0 1 0 the.bodies at_start (body None ss) every.0))
    (stmts_pass Holds test g r.bodies h 0 ss at_start every.1)
