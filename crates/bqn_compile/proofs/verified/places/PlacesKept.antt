-- Each body of a translation has as many places as instructions.
use Rattle.std.proofs.Common.{◌≡◌, ℕ, suc, true, List, [], ◌∷◌, ◌++◌, length, slice_get, None, refl, eq-eqb, IsTrue, subst, sym}
use Rattle.std.specs.List.{list_all}
use Rattle.bqn_syntax.specs.grammar.Trees.{Expr, Value, Train, Modifier, Use, One, Two, Part, Leaf, Elements, Merge, Paren, Block as Braces, Field, Strand, Nothing, Step, Apply, Assign, Modify, Stmt, Eval, Predicate, Export, BlockTree, block, BodyTree, body, Derived, derived, none, some, Exprs, no_exprs, and_exprs, Uses, no_uses, and_uses, Parts, no_parts, and_parts, Steps, no_steps, and_steps, Stmts, no_stmts, and_stmts, Bodies, no_bodies, and_bodies, Deriveds, no_deriveds, and_deriveds}
use Rattle.bqn_syntax.specs.blocks.Counting.{how_many}
use Rattle.bqn_syntax.specs.blocks.Blocks.{and_plain, plain_in}
use Rattle.bqn_syntax.specs.grammar.Classes.{Both}
use Rattle.bqn_syntax.specs.scope.Bodies.{BodyNames}
use Rattle.bqn_code.specs.declared.code.Block.{Block}
use Rattle.bqn_code.specs.declared.code.Body.{Body}
use Rattle.bqn_code.specs.Places.{has_places, have_places}
use Rattle.bqn_compile.specs.declared.count.Count.{Count}
use Rattle.bqn_compile.specs.Counting.{past, one_block, in_token, in_targets, in_part, in_maybe, in_steps, in_derived, in_use, in_expr, in_stmt, in_header, in_body}
use Rattle.bqn_compile.specs.Expressions.{Setting}
use Rattle.bqn_compile.specs.Bodies.{names_in, body_code, calls_of}
use Rattle.bqn_compile.specs.Blocks.{bodies_code, expr_blocks, part_blocks, blocks_from, steps_blocks, step_blocks, derived_blocks, uses_blocks, use_blocks, deriveds_blocks, exprs_blocks, parts_blocks, stmts_blocks, stmt_blocks, bodies_blocks, body_blocks}
use Rattle.bqn_compile.specs.Translation.{at_start, program}
use Rattle.bqn_compile.proofs.verified.Tests.{both_true, all_append}
use Rattle.bqn_compile.proofs.verified.places.PlacedCodes.{as_many_places}

-- each body of these blocks has as many
pub record HavePlaces (xs : List Block) : Type 0 where
  pub all : have_places true xs ≡ true

no_blocks : HavePlaces []
no_blocks = record { all = refl }

both_have : {xs ys : List Block} → HavePlaces xs → HavePlaces ys → HavePlaces (xs ++ ys)
both_have {xs} {ys} h k = record { all = all_append (λ b. list_all (has_places true) b.bodies) xs ys h.all k.all }

module _ (g : Setting) (names : List BodyNames) where
  bodies_fit : (plain before k : ℕ) (c : Count) (bs : Bodies) → list_all (has_places true) (bodies_code g names plain before k c bs) ≡ true
  bodies_fit plain before k c no_bodies = refl
  bodies_fit plain before k c (and_bodies (body h ss) bs) =
      let own : Body = body_code g (names_in (slice_get names k)) (calls_of plain before (body h ss)) c (body h ss) in
      both_true (has_places true own) (list_all (has_places true) (bodies_code g names plain (and_plain (body h ss) before) (suc k) (past c (in_body (body h ss))) bs))
      (eq-eqb (length own.places) (length own.code) (as_many_places g (names_in (slice_get names k)) (calls_of plain before (body h ss)) c h ss))
      (bodies_fit plain (and_plain (body h ss) before) (suc k) (past c (in_body (body h ss))) bs)

  mutual
    expr_have : (n : ℕ) (e : Expr) (c : Count) → HavePlaces (expr_blocks g names n e c)
    expr_have n (Value none ss) c = both_have (steps_have n ss c) no_blocks
    expr_have n (Value (some x) ss) c = both_have (steps_have n ss c) (part_have n x (past c (in_steps ss)))
    expr_have n (Train targets ds) c = deriveds_have n ds (past c (in_targets targets))
    expr_have n (Modifier targets x) c = part_have n x (past c (in_targets targets))

    part_have : (n : ℕ) (x : Part) (c : Count) → HavePlaces (part_blocks g names n x c)
    part_have n (Leaf t) c = no_blocks
    part_have n (Elements es) c = exprs_have n es c
    part_have n (Merge es) c = exprs_have n es c
    part_have n (Paren e) c = expr_have n e c
    part_have n (Braces b) c = block_has n b c
    part_have n (Field base fields) c = part_have n base c
    part_have n (Strand ps) c = parts_have n ps c
    part_have n (Nothing place) c = no_blocks

    block_has : (n : ℕ) (b : BlockTree) (c : Count) → HavePlaces (blocks_from g names n b c)
    block_has n (block place kind bs) c =
        let at : Count = past c (one_block (how_many bs)) in
        record { all = both_true (list_all (has_places true) (bodies_code g names (plain_in bs) 0 c.bodies at bs)) (have_places true (bodies_blocks g names c.bodies bs at)) (bodies_fit (plain_in bs) 0 c.bodies at bs) (bodies_have c.bodies bs at).all }

    steps_have : (n : ℕ) (ss : Steps) (c : Count) → HavePlaces (steps_blocks g names n ss c)
    steps_have n no_steps c = no_blocks
    steps_have n (and_steps s ss) c = both_have (steps_have n ss c) (step_has n s (past c (in_steps ss)))

    step_has : (n : ℕ) (s : Step) (c : Count) → HavePlaces (step_blocks g names n s c)
    step_has n (Apply d none) c = both_have no_blocks (derived_has n d (past c (in_maybe none)))
    step_has n (Apply d (some x)) c = both_have (part_have n x c) (derived_has n d (past c (in_part x)))
    step_has n (Assign q a) c = no_blocks
    step_has n (Modify t d) c = derived_has n d (past c (in_token t))

    derived_has : (n : ℕ) (d : Derived) (c : Count) → HavePlaces (derived_blocks g names n d c)
    derived_has n (derived x us) c = both_have (part_have n x c) (uses_have n us (past c (in_part x)))

    uses_have : (n : ℕ) (us : Uses) (c : Count) → HavePlaces (uses_blocks g names n us c)
    uses_have n no_uses c = no_blocks
    uses_have n (and_uses u us) c = both_have (use_has n u c) (uses_have n us (past c (in_use u)))

    use_has : (n : ℕ) (u : Use) (c : Count) → HavePlaces (use_blocks g names n u c)
    use_has n (One m) c = part_have n m c
    use_has n (Two m x) c = both_have (part_have n m c) (part_have n x (past c (in_part m)))

    deriveds_have : (n : ℕ) (ds : Deriveds) (c : Count) → HavePlaces (deriveds_blocks g names n ds c)
    deriveds_have n no_deriveds c = no_blocks
    deriveds_have n (and_deriveds d ds) c = both_have (derived_has n d c) (deriveds_have n ds (past c (in_derived d)))

    exprs_have : (n : ℕ) (es : Exprs) (c : Count) → HavePlaces (exprs_blocks g names n es c)
    exprs_have n no_exprs c = no_blocks
    exprs_have n (and_exprs e es) c = both_have (expr_have n e c) (exprs_have n es (past c (in_expr e)))

    parts_have : (n : ℕ) (xs : Parts) (c : Count) → HavePlaces (parts_blocks g names n xs c)
    parts_have n no_parts c = no_blocks
    parts_have n (and_parts x xs) c = both_have (part_have n x c) (parts_have n xs (past c (in_part x)))

    pub stmts_have : (n : ℕ) (ss : Stmts) (c : Count) → HavePlaces (stmts_blocks g names n ss c)
    stmts_have n no_stmts c = no_blocks
    stmts_have n (and_stmts s ss) c = both_have (stmt_has n s c) (stmts_have n ss (past c (in_stmt s)))

    stmt_has : (n : ℕ) (s : Stmt) (c : Count) → HavePlaces (stmt_blocks g names n s c)
    stmt_has n (Eval e) c = expr_have n e c
    stmt_has n (Predicate e) c = expr_have n e c
    stmt_has n (Export q) c = no_blocks

    bodies_have : (k : ℕ) (bs : Bodies) (c : Count) → HavePlaces (bodies_blocks g names k bs c)
    bodies_have k no_bodies c = no_blocks
    bodies_have k (and_bodies x bs) c = both_have (body_has k x c) (bodies_have (suc k) bs (past c (in_body x)))

    body_has : (n : ℕ) (x : BodyTree) (c : Count) → HavePlaces (body_blocks g names n x c)
    body_has n (body hd ss) c = stmts_have n ss (past c (in_header hd))

  -- the blocks of a program, its own first
  pub program_has : (ss : Stmts) → have_places true (program g names ss ∷ stmts_blocks g names 0 ss at_start) ≡ true
  program_has ss =
      let own : Body = body_code g (names_in (slice_get names 0)) Both at_start (body None ss) in
      both_true (list_all (has_places true) (own ∷ [])) (have_places true (stmts_blocks g names 0 ss at_start))
      (both_true (has_places true own) true (eq-eqb (length own.places) (length own.code) (as_many_places g (names_in (slice_get names 0)) Both at_start None ss)) refl)
      (stmts_have 0 ss at_start).all

-- what is made so fits in a code with places
pub places_kept : (g : Setting) (names : List BodyNames) (ss : Stmts) (blocks : List Block) → blocks ≡ program g names ss ∷ stmts_blocks g names 0 ss at_start → IsTrue (have_places true blocks)
places_kept g names ss blocks e = subst (λ (bs : List Block). have_places true bs ≡ true) (sym e) (program_has g names ss)
