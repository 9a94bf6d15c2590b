-- The code of a tree, made in one walk through its text. Within an expression the code grows at its front, since what stands
-- further right is evaluated first.
use Rattle.std.specs.Prelude.{ℕ, zero, suc, Bool, true, false, List, [], ◌∷◌, ◌++◌, length, map, reverse, take, drop, Option}
use Rattle.bqn_syntax.specs.declared.token.Kind.{Kind}
use Rattle.bqn_syntax.specs.declared.token.Kind.TheVariants as kind
use Rattle.bqn_syntax.specs.declared.token.Token.{Token}
use Rattle.bqn_syntax.specs.declared.tree.Arrow.{Arrow}
use Rattle.bqn_syntax.specs.declared.tree.Arrow.TheVariants as arrow
use Rattle.bqn_syntax.specs.grammar.Trees.{Pattern, Name, Header, Expr, Value, Train, Modifier, Use, One, Two, Part, Leaf, Elements, Merge, Paren, Block as Braces, Field, Strand, Nothing, Step, Apply, Assign, Modify, Stmt, Eval, Predicate, Export, BlockTree, BodyTree, body, Derived, derived, none, some, Exprs, no_exprs, and_exprs, Uses, no_uses, and_uses, Parts, no_parts, and_parts, Steps, no_steps, and_steps, Stmts, no_stmts, and_stmts, Bodies, no_bodies, and_bodies, Deriveds, no_deriveds, and_deriveds}
use Rattle.bqn_syntax.specs.blocks.Exporting.{stmts_export}
use Rattle.bqn_syntax.specs.blocks.Leads.{or_else}
use Rattle.bqn_syntax.specs.scope.Bodies.{BodyNames}
use Rattle.bqn_code.specs.declared.instr.Instr.{Instr}
use Rattle.bqn_code.specs.declared.instr.Instr.TheVariants as i
use Rattle.bqn_code.specs.declared.code.Body.{Body}
use Rattle.bqn_code.specs.declared.code.Block.{Block}
use Rattle.bqn_scope.specs.Numbering.{body_shown}
use Rattle.bqn_compile.specs.declared.count.Count.{Count}
use Rattle.bqn_compile.specs.declared.read.Read.{Read}
use Rattle.bqn_compile.specs.declared.read.Read.TheVariants as read
use Rattle.bqn_compile.specs.declared.walk.Known.{Known}
use Rattle.bqn_compile.specs.declared.walk.Walk.{Walk}
use Rattle.bqn_compile.specs.Counting.{past, in_token, in_operand, in_argument, in_header, in_target, in_expr, in_part, in_exprs, in_parts, in_block, in_stmt, in_stmts, in_body}
use Rattle.bqn_compile.specs.Pools.{seen_at}
use Rattle.bqn_compile.specs.Expressions.{Setting, load, store, merge, leaf_instr, target_instr, fields_code, and_one, parts_read, fork_code, atop_code, derives, how_many_exprs, how_many_parts, expr_code, part_code, exprs_code, parts_code}
use Rattle.bqn_compile.specs.Bodies.{argument_code, name_code, operand_code, header_code, last_code, end_code, stmts_code, exports_code, put_body}
use Rattle.bqn_compile.specs.Blocks.{expr_blocks, part_blocks, exprs_blocks, parts_blocks, blocks_from, stmt_blocks, stmts_blocks, body_blocks}
use Rattle.bqn_compile.specs.Shown.{setting_shown}

-- what comes before in the text, the code, and the blocks
pub record Walked : Type 0 where
  pub at : Count
  pub code : List Instr
  pub blocks : List Block

-- the code in order of evaluation, which the walk pushes backward within an expression
unfoldable pub walked : Walk → Walked
walked w = record { at = w.at; code = reverse w.code.items; blocks = w.blocks.items }

-- the code as it is pushed, in order of evaluation from statement to statement
unfoldable pub onward : Walk → Walked
onward w = record { at = w.at; code = w.code.items; blocks = w.blocks.items }

-- with what is pushed behind so many instructions turned round
unfoldable pub turned : ℕ → Walked → Walked
turned from w = record { at = w.at; code = take from w.code ++ reverse (drop from w.code); blocks = w.blocks }

-- ---- one thing more

unfoldable pub skip : Count → Walked → Walked
skip so w = record { at = past w.at so; code = w.code; blocks = w.blocks }

unfoldable pub push : Instr → Walked → Walked
push i w = record { at = w.at; code = i ∷ w.code; blocks = w.blocks }

unfoldable pub pushes : List Instr → Walked → Walked
pushes is w = record { at = w.at; code = is ++ w.code; blocks = w.blocks }

unfoldable pub append : List Instr → Walked → Walked
append is w = record { at = w.at; code = w.code ++ is; blocks = w.blocks }

-- behind so much more of the text, whose code is done before what is there
unfoldable pub ahead : Count → List Instr → List Block → Walked → Walked
ahead so is bs w = record { at = past w.at so; code = is ++ w.code; blocks = w.blocks ++ bs }

-- and whose code is done behind what is there
unfoldable pub behind : Count → List Instr → List Block → Walked → Walked
behind so is bs w = record { at = past w.at so; code = w.code ++ is; blocks = w.blocks ++ bs }

-- ---- what is known of the program

unfoldable pub setting_of : Known → Setting
setting_of known = setting_shown known.uses.now known.pools.now

unfoldable pub names_of : Known → List BodyNames
names_of known = map body_shown known.names.now

module _ (g : Setting) where
  -- the variable whose use comes next
  unfoldable pub load_at : Walked → Instr
  load_at w = load (seen_at g.uses w.at.uses)

  unfoldable pub store_at : Arrow → Walked → Instr
  store_at a w = store a (seen_at g.uses w.at.uses)

  unfoldable pub token_walk : Token → Walked → Walked
  token_walk t w = skip (in_token t) (push (leaf_instr g w.at.uses t.kind) w)

  unfoldable pub target_walk : Pattern → Arrow → Walked → Walked
  target_walk q a w = skip (in_target q) (push (target_instr g w.at q a) w)

  abbrev pub targets_walk : List (Token × Arrow) → Walked → Walked
  targets_walk [] w = w
  targets_walk (t ∷ ts) w = targets_walk ts (skip (in_token t.0) (push (store_at t.1 w) w))

-- ---- headers

-- whether a pattern asks for something
abbrev pub asks_kind : Kind → Bool
asks_kind (kind.Special s r) = false
asks_kind k = true

abbrev pub asks : Pattern → Bool
asks (Name t) = asks_kind t.kind
asks q = true

unfoldable pub argument_behind : Instr → Option Pattern → Walked → Walked
argument_behind i q w = skip (in_argument q) (append (argument_code i w.at.patterns q) w)

module _ (g : Setting) where
  unfoldable pub name_behind : Instr → Token → Walked → Walked
  name_behind i t w = skip (in_token t) (append (name_code i (seen_at g.uses w.at.uses) t.kind) w)

  unfoldable pub operand_behind : Instr → Option Token → Walked → Walked
  operand_behind i t w = skip (in_operand t) (append (operand_code i (seen_at g.uses w.at.uses) t) w)

  unfoldable pub header_behind : Option Header → Walked → Walked
  header_behind h w = skip (in_header h) (append (header_code g.uses w.at h) w)

-- ---- statements

abbrev pub leaves_value : Stmt → Bool
leaves_value (Eval e) = true
leaves_value s = false

-- a value that a statement has left is dropped before the next one
abbrev pub drop_code : Bool → List Instr
drop_code true = i.Pop ∷ []
drop_code false = []

abbrev pub own_code : Setting → Stmt → Count → List Instr
own_code g (Eval e) c = expr_code g c e
own_code g (Predicate e) c = expr_code g c e ++ i.Check ∷ []
own_code g (Export q) c = []

-- the end of a body behind a statement that has left a value, or has not
abbrev pub ending : (left exports : Bool) → List Instr
ending true exports = last_code exports
ending false exports = end_code exports

abbrev pub rest_code : Setting → (left exports : Bool) → Count → Stmts → List Instr
rest_code g left exports c no_stmts = ending left exports
rest_code g left exports c (and_stmts s ss) = drop_code left ++ stmts_code g exports c (and_stmts s ss)

-- ---- trains

-- what so many parts are read as
abbrev pub reads : ℕ → Read
reads zero = read.No
reads (suc n) = and_one (reads n)

-- ---- expressions in the body with this number

module _ (g : Setting) (names : List BodyNames) (inside : ℕ) where
  -- one element, whose code is done behind that of the elements left of it
  unfoldable pub expr_behind : Expr → Walked → Walked
  expr_behind e w = behind (in_expr e) (expr_code g w.at e) (expr_blocks g names inside e w.at) w

  unfoldable pub part_behind : Part → Walked → Walked
  part_behind x w = behind (in_part x) (part_code g w.at x) (part_blocks g names inside x w.at) w

  abbrev pub exprs_behind : Exprs → Walked → Walked
  exprs_behind no_exprs w = w
  exprs_behind (and_exprs e es) w = exprs_behind es (expr_behind e w)

  abbrev pub parts_behind : Parts → Walked → Walked
  parts_behind no_parts w = w
  parts_behind (and_parts x xs) w = parts_behind xs (part_behind x w)

  unfoldable pub list_walk : Exprs → Walked → Walked
  list_walk es w = ahead (in_exprs es) (exprs_code g w.at es) (exprs_blocks g names inside es w.at) (push (i.List (how_many_exprs es)) w)

  unfoldable pub strand_walk : Parts → Walked → Walked
  strand_walk xs w = ahead (in_parts xs) (parts_code g w.at xs) (parts_blocks g names inside xs w.at) (push (i.List (how_many_parts xs)) w)

  unfoldable pub block_walk : BlockTree → Walked → Walked
  block_walk b w = ahead (in_block b) (part_code g w.at (Braces b)) (blocks_from g names inside b w.at) w

  abbrev mutual
    pub expr_walk : Expr → Walked → Walked
    expr_walk (Value none (and_steps (Modify t d) ss)) w =
        push (load_at g (steps_walk ss w))
        (derived_walk d (skip (in_token t) (push i.Call1 (push (store_at g arrow.Change (steps_walk ss w)) (steps_walk ss w)))))
    expr_walk (Value none ss) w = push i.Nothing (steps_walk ss w)
    expr_walk (Value (some x) ss) w = part_walk x (steps_walk ss w)
    expr_walk (Train ts ds) w = deriveds_walk ds (pushes (atop_code (parts_read ds)) (targets_walk g ts w))
    expr_walk (Modifier ts x) w = part_walk x (targets_walk g ts w)

    pub part_walk : Part → Walked → Walked
    part_walk (Leaf t) w = token_walk g t w
    part_walk (Elements es) w = list_walk es w
    part_walk (Merge es) w = list_walk es (push (i.Given merge) (push i.Call1 w))
    part_walk (Paren e) w = expr_walk e w
    part_walk (Braces b) w = block_walk b w
    part_walk (Field base ts) w = part_walk base (pushes (fields_code g.names ts) w)
    part_walk (Strand xs) w = strand_walk xs w
    part_walk (Nothing place) w = push i.Nothing w

    -- the steps stand in the text from the last to the first
    pub steps_walk : Steps → Walked → Walked
    steps_walk no_steps w = w
    steps_walk (and_steps s ss) w = step_walk s (steps_walk ss w)

    pub step_walk : Step → Walked → Walked
    step_walk (Apply d none) w = derived_walk d (push i.Call1 w)
    step_walk (Apply d (some x)) w = derived_walk d (part_walk x (push i.Call2 w))
    step_walk (Assign q a) w = target_walk g q a w
    step_walk (Modify t d) w = derived_walk d (skip (in_token t) (push (load_at g w) (push i.Call2 (push (store_at g arrow.Change w) w))))

    pub derived_walk : Derived → Walked → Walked
    derived_walk (derived x us) w = uses_walk us (part_walk x (pushes (derives us) w))

    pub uses_walk : Uses → Walked → Walked
    uses_walk no_uses w = w
    uses_walk (and_uses u us) w = uses_walk us (use_walk u w)

    pub use_walk : Use → Walked → Walked
    use_walk (One m) w = part_walk m w
    use_walk (Two m x) w = part_walk x (part_walk m w)

    pub deriveds_walk : Deriveds → Walked → Walked
    deriveds_walk no_deriveds w = w
    deriveds_walk (and_deriveds d ds) w = deriveds_walk ds (derived_walk d (pushes (fork_code (parts_read ds)) w))

  -- ---- statements

  -- one statement behind one that has left a value, or has not
  unfoldable pub stmt_behind : Bool → Stmt → Walked → Walked
  stmt_behind left s w = behind (in_stmt s) (drop_code left ++ own_code g s w.at) (stmt_blocks g names inside s w.at) w

  -- the statements behind one that has left a value, or has not, and the end of the body
  unfoldable pub stmts_behind : (left exports : Bool) → Stmts → Walked → Walked
  stmts_behind left exports ss w = behind (in_stmts ss) (rest_code g left exports w.at ss) (stmts_blocks g names inside ss w.at) w

-- ---- bodies of a block, each with a code of its own

-- a block without bodies, and the bodies of the block at a place
unfoldable pub reserved : Block → Walked → Walked
reserved b w = record { at = w.at; code = w.code; blocks = w.blocks ++ b ∷ [] }

abbrev pub with_bodies : List Body → Block → Block
with_bodies bodies b = record b { bodies = bodies }

abbrev pub filled_at : ℕ → List Body → List Block → List Block
filled_at place bodies [] = []
filled_at zero bodies (b ∷ bs) = with_bodies bodies b ∷ bs
filled_at (suc n) bodies (b ∷ bs) = b ∷ filled_at n bodies bs

unfoldable pub filled : ℕ → List Body → Walked → Walked
filled place bodies w = record { at = w.at; code = w.code; blocks = filled_at place bodies w.blocks }

-- a body of this kind
abbrev pub body_made : Setting → BodyNames → (kind : ℕ) → Count → BodyTree → Body
body_made g own kind c (body h ss) = record {
  kind = kind;
  slots = length own.slots;
  exports = exports_code g.names own.exports;
  code = header_code g.uses c h ++ stmts_code g (stmts_export ss) (past c (in_header h)) ss;
  places = put_body (λ l q i. or_else l q) g c h ss;
}

module _ (g : Setting) (names : List BodyNames) where
  unfoldable pub body_behind : (number : ℕ) → BodyTree → Walked → Walked
  body_behind number b w = record { at = past w.at (in_body b); code = w.code; blocks = w.blocks ++ body_blocks g names number b w.at }

  abbrev pub bodies_behind : (number : ℕ) → Bodies → Walked → Walked
  bodies_behind number no_bodies w = w
  bodies_behind number (and_bodies b bs) w = bodies_behind (suc number) bs (body_behind number b w)
