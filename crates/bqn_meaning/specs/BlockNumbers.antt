-- The number by which an evaluation asks for a block is that of the block in the table: what this says of each part of a tree, with the
-- counters of its evaluation. This project's own.
use Rattle.std.specs.Prelude.{◌≡◌, ℕ, ◌+◌, List, [], ◌∷◌, ◌++◌, slice_get, Option, Some, None}
use Rattle.bqn_syntax.specs.grammar.Trees.{Expr, Value, Train, Modifier, Use, One, Two, Part, Leaf, Elements, Merge, Paren, Block as Braces, Field, Strand, Nothing, Step, Apply, Assign, Modify, Eval, Predicate, Export, BlockTree, block, body, Derived, derived, MaybePart, none, some, Bodies, no_bodies, and_bodies, Exprs, no_exprs, and_exprs, Uses, no_uses, and_uses, Parts, no_parts, and_parts, Steps, no_steps, and_steps, Stmts, no_stmts, and_stmts, Deriveds, no_deriveds, and_deriveds}
use Rattle.bqn_syntax.specs.blocks.Counting.{in_expr, in_part, in_maybe, in_steps, in_derived, in_use}
use Rattle.bqn_syntax.specs.blocks.Blocks.{Numbered, Body, Block, scopes_of, Earlier, line_body, further, table_of}

-- in a table of blocks
module _ (blocks : List Block) where
  abbrev mutual
    -- each block of the expression, which stands in these bodies, has the number that its evaluation counts from c on
    pub ExprNumbered : (around : List Numbered) → Expr → (c : ℕ) → Type 0
    ExprNumbered around (Value last ss) c = MaybeNumbered around last (c + (in_steps ss).blocks) × StepsNumbered around ss c
    ExprNumbered around (Train targets ds) c = DerivedsNumbered around ds c
    ExprNumbered around (Modifier targets x) c = PartNumbered around x c

    pub PartNumbered : (around : List Numbered) → Part → (c : ℕ) → Type 0
    PartNumbered around (Leaf t) c = Unit {0}
    PartNumbered around (Elements es) c = ExprsNumbered around es c
    PartNumbered around (Merge es) c = ExprsNumbered around es c
    PartNumbered around (Paren e) c = ExprNumbered around e c
    PartNumbered around (Braces b) c = BlockIs around b (slice_get blocks c)
    PartNumbered around (Field base names) c = PartNumbered around base c
    PartNumbered around (Strand ps) c = PartsNumbered around ps c
    PartNumbered around (Nothing place) c = Unit {0}

    pub MaybeNumbered : (around : List Numbered) → MaybePart → (c : ℕ) → Type 0
    MaybeNumbered around none c = Unit {0}
    MaybeNumbered around (some x) c = PartNumbered around x c

    pub StepsNumbered : (around : List Numbered) → Steps → (c : ℕ) → Type 0
    StepsNumbered around no_steps c = Unit {0}
    StepsNumbered around (and_steps s ss) c = StepNumbered around s (c + (in_steps ss).blocks) × StepsNumbered around ss c

    pub StepNumbered : (around : List Numbered) → Step → (c : ℕ) → Type 0
    StepNumbered around (Apply d left) c = DerivedNumbered around d (c + (in_maybe left).blocks) × MaybeNumbered around left c
    StepNumbered around (Assign q arrow) c = Unit {0}
    StepNumbered around (Modify t d) c = DerivedNumbered around d c

    pub DerivedNumbered : (around : List Numbered) → Derived → (c : ℕ) → Type 0
    DerivedNumbered around (derived x us) c = UsesNumbered around us (c + (in_part x).blocks) × PartNumbered around x c

    pub UsesNumbered : (around : List Numbered) → Uses → (c : ℕ) → Type 0
    UsesNumbered around no_uses c = Unit {0}
    UsesNumbered around (and_uses u us) c = UsesNumbered around us (c + (in_use u).blocks) × UseNumbered around u c

    pub UseNumbered : (around : List Numbered) → Use → (c : ℕ) → Type 0
    UseNumbered around (One m) c = PartNumbered around m c
    UseNumbered around (Two m x) c = PartNumbered around x (c + (in_part m).blocks) × PartNumbered around m c

    pub DerivedsNumbered : (around : List Numbered) → Deriveds → (c : ℕ) → Type 0
    DerivedsNumbered around no_deriveds c = Unit {0}
    DerivedsNumbered around (and_deriveds d ds) c = DerivedsNumbered around ds (c + (in_derived d).blocks) × DerivedNumbered around d c

    pub ExprsNumbered : (around : List Numbered) → Exprs → (c : ℕ) → Type 0
    ExprsNumbered around no_exprs c = Unit {0}
    ExprsNumbered around (and_exprs e es) c = ExprNumbered around e c × ExprsNumbered around es (c + (in_expr e).blocks)

    pub PartsNumbered : (around : List Numbered) → Parts → (c : ℕ) → Type 0
    PartsNumbered around no_parts c = Unit {0}
    PartsNumbered around (and_parts x xs) c = PartNumbered around x c × PartsNumbered around xs (c + (in_part x).blocks)

    pub StmtsNumbered : (around : List Numbered) → Stmts → (c : ℕ) → Type 0
    StmtsNumbered around no_stmts c = Unit {0}
    StmtsNumbered around (and_stmts (Eval e) ss) c = ExprNumbered around e c × StmtsNumbered around ss (c + (in_expr e).blocks)
    StmtsNumbered around (and_stmts (Predicate e) ss) c = ExprNumbered around e c × StmtsNumbered around ss (c + (in_expr e).blocks)
    StmtsNumbered around (and_stmts (Export q) ss) c = StmtsNumbered around ss c

    -- what the table has is this block
    pub BlockIs : (around : List Numbered) → BlockTree → Option Block → Type 0
    BlockIs around b None = ⊥
    BlockIs around (block place class ts) (Some b) = (b.class ≡ class) × BodiesAre around ts b.bodies

    -- with these bodies, in each of which the blocks have their numbers too
    pub BodiesAre : (around : List Numbered) → Bodies → List Body → Type 0
    BodiesAre around no_bodies [] = Unit {0}
    BodiesAre around (and_bodies (body h ss) ts) (b ∷ bs) =
        (b.header ≡ h) × (b.statements ≡ ss) × (b.around ≡ around) × StmtsNumbered (scopes_of b) ss b.inside × BodiesAre around ts bs
    BodiesAre around _ _ = ⊥

-- The blocks of a line have their numbers while it is evaluated, and while further lines are, which have another program and more blocks.
pub record LineNumbered (earlier : Earlier) (ss : Stmts) : Type 0 where
  pub now : StmtsNumbered (table_of earlier ss) (scopes_of (line_body earlier ss)) ss (line_body earlier ss).inside
  pub later : (program : Block) (more : List Block) →
      StmtsNumbered (program ∷ ((further earlier ss).blocks ++ more)) (scopes_of (line_body earlier ss)) ss (line_body earlier ss).inside

abbrev pub EvaluationsMeetTheirBlocks : Type 0
EvaluationsMeetTheirBlocks = (earlier : Earlier) (ss : Stmts) → LineNumbered earlier ss
