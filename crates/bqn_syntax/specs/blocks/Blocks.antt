-- The blocks of a program in the text order of their opening braces, the program first, each with its bodies. Bodies are numbered
-- through all blocks in this order.
use Rattle.std.specs.Prelude.{ℕ, suc, ◌+◌, Bool, if◌then◌else◌, List, [], ◌∷◌, ◌++◌, length, map, slice_get, Option, Some, None}
use Rattle.bqn_syntax.specs.declared.tree.Class.{Class}
use Rattle.bqn_syntax.specs.declared.tree.Class.TheVariants as class
use Rattle.bqn_syntax.specs.grammar.Trees.{Header, Expr, Value, Train, Modifier, Use, One, Two, Part, Leaf, Elements, Merge, Paren, Block as Braces, Field, Strand, Nothing, Step, Apply, Assign, Modify, Stmt, Eval, Predicate, Export, BlockTree, block, BodyTree, body, Derived, derived, MaybePart, none, some, Exprs, no_exprs, and_exprs, Uses, no_uses, and_uses, Parts, no_parts, and_parts, Steps, no_steps, and_steps, Stmts, no_stmts, and_stmts, Bodies, no_bodies, and_bodies, Deriveds, no_deriveds, and_deriveds}
use Rattle.bqn_syntax.specs.grammar.Classes.{Calls, Both, body_calls, is_plain, marks_of, has_predicate}
use Rattle.bqn_syntax.specs.scope.Order.{order_of}
use Rattle.bqn_syntax.specs.scope.Mentions.{Mentions, no_mentions, header_mentions, stmts_mentions}
use Rattle.bqn_syntax.specs.scope.Scope.{Scope, block_scope, top_scope, names_of}
use Rattle.bqn_syntax.specs.scope.Bodies.{exports_of}
use Rattle.bqn_syntax.specs.blocks.Counting.{Count, past, how_many, in_part, in_maybe, in_steps, in_expr, in_derived, in_use, in_stmt, in_stmts, in_body}
use Rattle.bqn_syntax.specs.blocks.Exporting.{stmts_export}

-- a body's number and its names
pub record Numbered : Type 0 where
  pub number : ℕ
  pub scope : Scope

-- A body: the calls that it is for, its header and statements, its number and names, the bodies around it from the inside,
-- whether it exports and which names, and the number of the first block inside.
pub record Body : Type 0 where
  pub calls : Calls
  pub header : Option Header
  pub statements : Stmts
  pub own : Numbered
  pub around : List Numbered
  pub exports : Bool
  pub exported : List (List ℕ)
  pub inside : ℕ

pub record Block : Type 0 where
  pub class : Class
  pub bodies : List Body

-- the body and those around it
abbrev pub scopes_of : Body → List Numbered
scopes_of b = b.own ∷ b.around

-- ---- bodies

abbrev pub mentions_of : Option Header → Stmts → Mentions
mentions_of h ss = header_mentions h (stmts_mentions ss no_mentions)

abbrev pub numbered : ℕ → Option Header → Stmts → Numbered
numbered number h ss = record { number = number; scope = block_scope (mentions_of h ss) (order_of h ss) }

abbrev pub exported_names : Scope → Mentions → List (List ℕ)
exported_names s ms = map (λ e. e.0) (exports_of (names_of s) ms [])

-- a body behind so many plain ones in a block that has so many
abbrev pub body_of : (plain before : ℕ) (around : List Numbered) (number inside : ℕ) → Option Header → Stmts → Body
body_of plain before around number inside h ss = record {
  calls = body_calls plain before h (has_predicate ss);
  header = h;
  statements = ss;
  own = numbered number h ss;
  around = around;
  exports = stmts_export ss;
  exported = exported_names (block_scope (mentions_of h ss) (order_of h ss)) (mentions_of h ss);
  inside = inside;
}

abbrev pub and_plain : BodyTree → ℕ → ℕ
and_plain b n = if is_plain (marks_of b) then suc n else n

abbrev pub plain_in : Bodies → ℕ
plain_in no_bodies = 0
plain_in (and_bodies b bs) = and_plain b (plain_in bs)

-- the bodies of one block from this number on, the first block inside them having that number
abbrev pub bodies_of : (plain before : ℕ) (around : List Numbered) (number inside : ℕ) → Bodies → List Body
bodies_of plain before around number inside no_bodies = []
bodies_of plain before around number inside (and_bodies (body h ss) bs) =
    body_of plain before around number inside h ss ∷ bodies_of plain (and_plain (body h ss) before) around (suc number) (inside + (in_stmts ss).blocks) bs

-- ---- blocks, where so many blocks and bodies come before

abbrev pub block_of : List Numbered → Class → Bodies → Count → Block
block_of around c bs so = record { class = c; bodies = bodies_of (plain_in bs) 0 around so.bodies (suc so.blocks) bs }

-- a block and its bodies come before what is inside it
abbrev pub opened : Bodies → Count → Count
opened bs so = record { blocks = suc so.blocks; bodies = so.bodies + how_many bs }

abbrev mutual
  pub expr_blocks : List Numbered → Expr → Count → List Block
  expr_blocks around (Value last ss) so = steps_blocks around ss so ++ maybe_blocks around last (past so (in_steps ss))
  expr_blocks around (Train targets ds) so = deriveds_blocks around ds so
  expr_blocks around (Modifier targets x) so = part_blocks around x so

  pub part_blocks : List Numbered → Part → Count → List Block
  part_blocks around (Leaf t) so = []
  part_blocks around (Elements es) so = exprs_blocks around es so
  part_blocks around (Merge es) so = exprs_blocks around es so
  part_blocks around (Paren e) so = expr_blocks around e so
  part_blocks around (Braces b) so = blocks_from around b so
  part_blocks around (Field base names) so = part_blocks around base so
  part_blocks around (Strand ps) so = parts_blocks around ps so
  part_blocks around (Nothing place) so = []

  pub blocks_from : List Numbered → BlockTree → Count → List Block
  blocks_from around (block place c bs) so = block_of around c bs so ∷ bodies_blocks around so.bodies bs (opened bs so)

  pub maybe_blocks : List Numbered → MaybePart → Count → List Block
  maybe_blocks around none so = []
  maybe_blocks around (some x) so = part_blocks around x so

  pub steps_blocks : List Numbered → Steps → Count → List Block
  steps_blocks around no_steps so = []
  steps_blocks around (and_steps s ss) so = steps_blocks around ss so ++ step_blocks around s (past so (in_steps ss))

  pub step_blocks : List Numbered → Step → Count → List Block
  step_blocks around (Apply d left) so = maybe_blocks around left so ++ derived_blocks around d (past so (in_maybe left))
  step_blocks around (Assign q a) so = []
  step_blocks around (Modify t d) so = derived_blocks around d so

  pub derived_blocks : List Numbered → Derived → Count → List Block
  derived_blocks around (derived x us) so = part_blocks around x so ++ uses_blocks around us (past so (in_part x))

  pub uses_blocks : List Numbered → Uses → Count → List Block
  uses_blocks around no_uses so = []
  uses_blocks around (and_uses u us) so = use_blocks around u so ++ uses_blocks around us (past so (in_use u))

  pub use_blocks : List Numbered → Use → Count → List Block
  use_blocks around (One m) so = part_blocks around m so
  use_blocks around (Two m x) so = part_blocks around m so ++ part_blocks around x (past so (in_part m))

  pub deriveds_blocks : List Numbered → Deriveds → Count → List Block
  deriveds_blocks around no_deriveds so = []
  deriveds_blocks around (and_deriveds d ds) so = derived_blocks around d so ++ deriveds_blocks around ds (past so (in_derived d))

  pub exprs_blocks : List Numbered → Exprs → Count → List Block
  exprs_blocks around no_exprs so = []
  exprs_blocks around (and_exprs e es) so = expr_blocks around e so ++ exprs_blocks around es (past so (in_expr e))

  pub parts_blocks : List Numbered → Parts → Count → List Block
  parts_blocks around no_parts so = []
  parts_blocks around (and_parts x xs) so = part_blocks around x so ++ parts_blocks around xs (past so (in_part x))

  pub stmts_blocks : List Numbered → Stmts → Count → List Block
  stmts_blocks around no_stmts so = []
  stmts_blocks around (and_stmts s ss) so = stmt_blocks around s so ++ stmts_blocks around ss (past so (in_stmt s))

  pub stmt_blocks : List Numbered → Stmt → Count → List Block
  stmt_blocks around (Eval e) so = expr_blocks around e so
  stmt_blocks around (Predicate e) so = expr_blocks around e so
  stmt_blocks around (Export q) so = []

  pub bodies_blocks : List Numbered → ℕ → Bodies → Count → List Block
  bodies_blocks around number no_bodies so = []
  bodies_blocks around number (and_bodies b bs) so = body_blocks around number b so ++ bodies_blocks around (suc number) bs (past so (in_body b))

  pub body_blocks : List Numbered → ℕ → BodyTree → Count → List Block
  body_blocks around number (body h ss) so = stmts_blocks (numbered number h ss ∷ around) ss so

-- ---- the whole table

-- the bodies by their numbers
abbrev pub all_bodies : List Block → List Body
all_bodies [] = []
all_bodies (b ∷ bs) = b.bodies ++ all_bodies bs

abbrev pub class_in : Option Block → Option Class
class_in None = None
class_in (Some b) = Some b.class

-- the class of the block with this number
abbrev pub class_of : List Block → ℕ → Option Class
class_of blocks number = class_in (slice_get blocks number)

abbrev pub body_at : List Block → ℕ → Option Body
body_at blocks number = slice_get (all_bodies blocks) number

-- what earlier lines of a session leave to a further one: the names of the top body, and the blocks of all of them
pub record Earlier : Type 0 where
  pub names : List (List ℕ)
  pub blocks : List Block

abbrev pub no_lines : Earlier
no_lines = record { names = []; blocks = [] }

-- how many blocks and bodies come before those of a line, the program and its body among them
abbrev pub behind : Earlier → Count
behind earlier = record { blocks = 1 + length earlier.blocks; bodies = 1 + length (all_bodies earlier.blocks) }

abbrev pub line_scope : Earlier → Stmts → Scope
line_scope earlier ss = top_scope earlier.names (stmts_mentions ss no_mentions) (order_of None ss)

-- the body of a line, which is the body 0
abbrev pub line_body : Earlier → Stmts → Body
line_body earlier ss = record {
  calls = Both;
  header = None;
  statements = ss;
  own = record { number = 0; scope = line_scope earlier ss };
  around = [];
  exports = stmts_export ss;
  exported = exported_names (line_scope earlier ss) (stmts_mentions ss no_mentions);
  inside = 1 + length earlier.blocks;
}

-- what a line leaves to the next one
abbrev pub further : Earlier → Stmts → Earlier
further earlier ss = record {
  names = names_of (line_scope earlier ss);
  blocks = earlier.blocks ++ stmts_blocks (scopes_of (line_body earlier ss)) ss (behind earlier);
}

-- the blocks while a line is evaluated
abbrev pub table_of : Earlier → Stmts → List Block
table_of earlier ss = record { class = class.Immediate; bodies = line_body earlier ss ∷ [] } ∷ (further earlier ss).blocks
