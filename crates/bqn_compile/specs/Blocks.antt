-- The blocks of a code, in the text order of their opening braces.
use Rattle.std.specs.Prelude.{ℕ, suc, List, [], ◌∷◌, ◌++◌, slice_get}
use Rattle.bqn_syntax.specs.grammar.Trees.{Expr, Value, Train, Modifier, Use, One, Two, Part, Leaf, Elements, Merge, Paren, Block as Braces, Field, Strand, Nothing, Step, Apply, Assign, Modify, Stmt, Eval, Predicate, Export, BlockTree, block, BodyTree, body, Derived, derived, MaybePart, none, some, Exprs, no_exprs, and_exprs, Uses, no_uses, and_uses, Parts, no_parts, and_parts, Steps, no_steps, and_steps, Stmts, no_stmts, and_stmts, Bodies, no_bodies, and_bodies, Deriveds, no_deriveds, and_deriveds}
use Rattle.bqn_syntax.specs.blocks.Counting.{how_many}
use Rattle.bqn_syntax.specs.blocks.Blocks.{and_plain, plain_in}
use Rattle.bqn_syntax.specs.scope.Bodies.{BodyNames}
use Rattle.bqn_code.specs.declared.code.Body.{Body}
use Rattle.bqn_code.specs.declared.code.Block.{Block}
use Rattle.bqn_compile.specs.declared.count.Count.{Count}
use Rattle.bqn_compile.specs.Counting.{past, one_block, in_token, in_targets, in_part, in_maybe, in_steps, in_derived, in_use, in_expr, in_stmt, in_header, in_body}
use Rattle.bqn_compile.specs.Expressions.{Setting}
use Rattle.bqn_compile.specs.Bodies.{names_in, body_code, calls_of}

module _ (g : Setting) (names : List BodyNames) where
  -- the bodies of one block, the first of which has this number
  abbrev pub bodies_code : (plain before number : ℕ) → Count → Bodies → List Body
  bodies_code plain before number c no_bodies = []
  bodies_code plain before number c (and_bodies b bs) =
      body_code g (names_in (slice_get names number)) (calls_of plain before b) c b
      ∷ bodies_code plain (and_plain b before) (suc number) (past c (in_body b)) bs

  -- the blocks in a part of the body with this number, where so much comes before
  abbrev mutual
    pub expr_blocks : (inside : ℕ) → Expr → Count → List Block
    expr_blocks inside (Value last ss) c = steps_blocks inside ss c ++ maybe_blocks inside last (past c (in_steps ss))
    expr_blocks inside (Train targets ds) c = deriveds_blocks inside ds (past c (in_targets targets))
    expr_blocks inside (Modifier targets x) c = part_blocks inside x (past c (in_targets targets))

    pub part_blocks : (inside : ℕ) → Part → Count → List Block
    part_blocks inside (Leaf t) c = []
    part_blocks inside (Elements es) c = exprs_blocks inside es c
    part_blocks inside (Merge es) c = exprs_blocks inside es c
    part_blocks inside (Paren e) c = expr_blocks inside e c
    part_blocks inside (Braces b) c = blocks_from inside b c
    part_blocks inside (Field base fields) c = part_blocks inside base c
    part_blocks inside (Strand ps) c = parts_blocks inside ps c
    part_blocks inside (Nothing place) c = []

    -- a block and its bodies come before what is inside it
    pub blocks_from : (inside : ℕ) → BlockTree → Count → List Block
    blocks_from inside (block place kind bs) c =
        record { class = kind; parent = inside; bodies = bodies_code (plain_in bs) 0 c.bodies (past c (one_block (how_many bs))) bs }
        ∷ bodies_blocks c.bodies bs (past c (one_block (how_many bs)))

    pub maybe_blocks : (inside : ℕ) → MaybePart → Count → List Block
    maybe_blocks inside none c = []
    maybe_blocks inside (some x) c = part_blocks inside x c

    pub steps_blocks : (inside : ℕ) → Steps → Count → List Block
    steps_blocks inside no_steps c = []
    steps_blocks inside (and_steps s ss) c = steps_blocks inside ss c ++ step_blocks inside s (past c (in_steps ss))

    pub step_blocks : (inside : ℕ) → Step → Count → List Block
    step_blocks inside (Apply d left) c = maybe_blocks inside left c ++ derived_blocks inside d (past c (in_maybe left))
    step_blocks inside (Assign q a) c = []
    step_blocks inside (Modify t d) c = derived_blocks inside d (past c (in_token t))

    pub derived_blocks : (inside : ℕ) → Derived → Count → List Block
    derived_blocks inside (derived x us) c = part_blocks inside x c ++ uses_blocks inside us (past c (in_part x))

    pub uses_blocks : (inside : ℕ) → Uses → Count → List Block
    uses_blocks inside no_uses c = []
    uses_blocks inside (and_uses u us) c = use_blocks inside u c ++ uses_blocks inside us (past c (in_use u))

    pub use_blocks : (inside : ℕ) → Use → Count → List Block
    use_blocks inside (One m) c = part_blocks inside m c
    use_blocks inside (Two m x) c = part_blocks inside m c ++ part_blocks inside x (past c (in_part m))

    pub deriveds_blocks : (inside : ℕ) → Deriveds → Count → List Block
    deriveds_blocks inside no_deriveds c = []
    deriveds_blocks inside (and_deriveds d ds) c = derived_blocks inside d c ++ deriveds_blocks inside ds (past c (in_derived d))

    pub exprs_blocks : (inside : ℕ) → Exprs → Count → List Block
    exprs_blocks inside no_exprs c = []
    exprs_blocks inside (and_exprs e es) c = expr_blocks inside e c ++ exprs_blocks inside es (past c (in_expr e))

    pub parts_blocks : (inside : ℕ) → Parts → Count → List Block
    parts_blocks inside no_parts c = []
    parts_blocks inside (and_parts x xs) c = part_blocks inside x c ++ parts_blocks inside xs (past c (in_part x))

    pub stmts_blocks : (inside : ℕ) → Stmts → Count → List Block
    stmts_blocks inside no_stmts c = []
    stmts_blocks inside (and_stmts s ss) c = stmt_blocks inside s c ++ stmts_blocks inside ss (past c (in_stmt s))

    pub stmt_blocks : (inside : ℕ) → Stmt → Count → List Block
    stmt_blocks inside (Eval e) c = expr_blocks inside e c
    stmt_blocks inside (Predicate e) c = expr_blocks inside e c
    stmt_blocks inside (Export q) c = []

    -- the blocks in the bodies of a block, the first of which has this number
    pub bodies_blocks : (number : ℕ) → Bodies → Count → List Block
    bodies_blocks number no_bodies c = []
    bodies_blocks number (and_bodies b bs) c = body_blocks number b c ++ bodies_blocks (suc number) bs (past c (in_body b))

    pub body_blocks : (inside : ℕ) → BodyTree → Count → List Block
    body_blocks inside (body h ss) c = stmts_blocks inside ss (past c (in_header h))
