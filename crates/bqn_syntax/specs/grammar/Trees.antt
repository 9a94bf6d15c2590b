-- Trees as plain data, and what a tree of the program is as such data: the same, level by level.
use Rattle.std.specs.Prelude.{List, [], ◌∷◌, map, Option, Some, None}
use Rattle.std.specs.Option.{option_map}
use Rattle.bqn_base.specs.declared.place.Place.{Place}
use Rattle.bqn_syntax.specs.declared.token.Token.{Token}
use Rattle.bqn_syntax.specs.declared.tree.Arrow.{Arrow}
use Rattle.bqn_syntax.specs.declared.tree.Class.{Class}
use Rattle.bqn_syntax.specs.declared.pattern.Pattern.{Pattern as CodePattern, Pattern-F, fold-Pattern}
use Rattle.bqn_syntax.specs.declared.pattern.Header.{Header as CodeHeader}
use Rattle.bqn_syntax.specs.declared.tree.Expr.{Expr as CodeExpr, Expr-F, fold-Expr}
use Rattle.bqn_syntax.specs.declared.tree.ModUse.{ModUse as CodeUse, ModUse-F, fold-ModUse}
use Rattle.bqn_syntax.specs.declared.tree.Part.{Part as CodePart, Part-F, fold-Part}
use Rattle.bqn_syntax.specs.declared.tree.Step.{Step as CodeStep, Step-F, fold-Step}
use Rattle.bqn_syntax.specs.declared.tree.Stmt.{Stmt as CodeStmt, Stmt-F, fold-Stmt}
use Rattle.bqn_syntax.specs.declared.tree.BlockTree.{BlockTree as CodeBlock, BlockTree-F, fold-BlockTree}
use Rattle.bqn_syntax.specs.declared.tree.BodyTree.{BodyTree as CodeBody, BodyTree-F, fold-BodyTree}
use Rattle.bqn_syntax.specs.declared.tree.Derived.{Derived as CodeDerived, Derived-F, fold-Derived}
use Rattle.bqn_syntax.specs.declared.tree.Tree.{Tree as CodeTree}

-- a name, `·`, a literal of a header, or a list or strand of patterns
mutual
  pub data Pattern : Type 0 where
    Name : Token → Pattern
    Skip : Place → Pattern
    Literal : Token → Pattern
    ListPattern : Patterns → Pattern
    StrandPattern : Patterns → Pattern

  pub data Patterns : Type 0 where
    no_patterns : Patterns
    and_patterns : Pattern → Patterns → Patterns

-- what stands before the `:` of a body
pub record Header : Type 0 where
  pub left : Option Pattern
  pub left_operand : Option Token
  pub own : Token
  pub right_operand : Option Token
  pub right : Option Pattern

mutual
  -- a value, read from right to left; a train; a modifier
  pub data Expr : Type 0 where
    Value : MaybePart → Steps → Expr
    Train : List (Token × Arrow) → Deriveds → Expr
    Modifier : List (Token × Arrow) → Part → Expr

  -- a 1-modifier, or a 2-modifier and its right operand
  pub data Use : Type 0 where
    One : Part → Use
    Two : Part → Part → Use

  pub data Part : Type 0 where
    Leaf : Token → Part
    Elements : Exprs → Part
    Merge : Exprs → Part
    Paren : Expr → Part
    Block : BlockTree → Part
    Field : Part → List Token → Part
    Strand : Parts → Part
    Nothing : Place → Part

  -- what is done with the value on the right
  pub data Step : Type 0 where
    Apply : Derived → MaybePart → Step
    Assign : Pattern → Arrow → Step
    Modify : Token → Derived → Step

  pub data Stmt : Type 0 where
    Eval : Expr → Stmt
    Predicate : Expr → Stmt
    Export : Pattern → Stmt

  pub data BlockTree : Type 0 where
    block : Place → Class → Bodies → BlockTree

  pub data BodyTree : Type 0 where
    body : Option Header → Stmts → BodyTree

  -- a part and the modifiers after it
  pub data Derived : Type 0 where
    derived : Part → Uses → Derived

  pub data MaybePart : Type 0 where
    none : MaybePart
    some : Part → MaybePart

  pub data Exprs : Type 0 where
    no_exprs : Exprs
    and_exprs : Expr → Exprs → Exprs

  pub data Uses : Type 0 where
    no_uses : Uses
    and_uses : Use → Uses → Uses

  pub data Parts : Type 0 where
    no_parts : Parts
    and_parts : Part → Parts → Parts

  pub data Steps : Type 0 where
    no_steps : Steps
    and_steps : Step → Steps → Steps

  pub data Stmts : Type 0 where
    no_stmts : Stmts
    and_stmts : Stmt → Stmts → Stmts

  pub data Bodies : Type 0 where
    no_bodies : Bodies
    and_bodies : BodyTree → Bodies → Bodies

  pub data Deriveds : Type 0 where
    no_deriveds : Deriveds
    and_deriveds : Derived → Deriveds → Deriveds

abbrev pub patterns : List Pattern → Patterns
patterns [] = no_patterns
patterns (x ∷ xs) = and_patterns x (patterns xs)

abbrev pub exprs : List Expr → Exprs
exprs [] = no_exprs
exprs (x ∷ xs) = and_exprs x (exprs xs)

abbrev pub uses : List Use → Uses
uses [] = no_uses
uses (x ∷ xs) = and_uses x (uses xs)

abbrev pub parts : List Part → Parts
parts [] = no_parts
parts (x ∷ xs) = and_parts x (parts xs)

abbrev pub steps : List Step → Steps
steps [] = no_steps
steps (x ∷ xs) = and_steps x (steps xs)

abbrev pub stmts : List Stmt → Stmts
stmts [] = no_stmts
stmts (x ∷ xs) = and_stmts x (stmts xs)

abbrev pub bodies : List BodyTree → Bodies
bodies [] = no_bodies
bodies (x ∷ xs) = and_bodies x (bodies xs)

abbrev pub deriveds : List Derived → Deriveds
deriveds [] = no_deriveds
deriveds (x ∷ xs) = and_deriveds x (deriveds xs)

abbrev pub maybe_part : Option Part → MaybePart
maybe_part None = none
maybe_part (Some part) = some part

abbrev at_pattern : Pattern-F Pattern → Pattern
at_pattern (Pattern-F.Name token) = Name token
at_pattern (Pattern-F.Skip place) = Skip place
at_pattern (Pattern-F.Literal token) = Literal token
at_pattern (Pattern-F.List all) = ListPattern (patterns all)
at_pattern (Pattern-F.Strand all) = StrandPattern (patterns all)

abbrev pub pattern_of : CodePattern → Pattern
pattern_of = fold-Pattern Pattern at_pattern

abbrev pub header_of : CodeHeader → Header
header_of header = record {
  left = option_map pattern_of header.left;
  left_operand = header.left_operand;
  own = header.own;
  right_operand = header.right_operand;
  right = option_map pattern_of header.right;
}

abbrev at_expr : Expr-F Expr Use Part Step Stmt BlockTree BodyTree Derived → Expr
at_expr (Expr-F.Value last all) = Value (maybe_part last) (steps all)
at_expr (Expr-F.Train targets all) = Train targets (deriveds all)
at_expr (Expr-F.Modifier targets part) = Modifier targets part

abbrev at_use : ModUse-F Expr Use Part Step Stmt BlockTree BodyTree Derived → Use
at_use (ModUse-F.One part) = One part
at_use (ModUse-F.Two part right) = Two part right

abbrev at_part : Part-F Expr Use Part Step Stmt BlockTree BodyTree Derived → Part
at_part (Part-F.Leaf token) = Leaf token
at_part (Part-F.List all) = Elements (exprs all)
at_part (Part-F.Merge all) = Merge (exprs all)
at_part (Part-F.Paren expr) = Paren expr
at_part (Part-F.Block inner) = Block inner
at_part (Part-F.Field base names) = Field base names
at_part (Part-F.Strand all) = Strand (parts all)
at_part (Part-F.Nothing place) = Nothing place

abbrev at_step : Step-F Expr Use Part Step Stmt BlockTree BodyTree Derived → Step
at_step (Step-F.Apply function left) = Apply function (maybe_part left)
at_step (Step-F.Assign target arrow) = Assign (pattern_of target) arrow
at_step (Step-F.Modify target function) = Modify target function

abbrev at_stmt : Stmt-F Expr Use Part Step Stmt BlockTree BodyTree Derived → Stmt
at_stmt (Stmt-F.Eval expr) = Eval expr
at_stmt (Stmt-F.Predicate expr) = Predicate expr
at_stmt (Stmt-F.Export target) = Export (pattern_of target)

abbrev at_block : BlockTree-F Expr Use Part Step Stmt BlockTree BodyTree Derived → BlockTree
at_block b = block b.place b.class (bodies b.bodies)

abbrev at_body : BodyTree-F Expr Use Part Step Stmt BlockTree BodyTree Derived → BodyTree
at_body b = body (option_map header_of b.header) (stmts b.statements)

abbrev at_derived : Derived-F Expr Use Part Step Stmt BlockTree BodyTree Derived → Derived
at_derived d = derived d.first (uses d.uses)

abbrev pub expr_of : CodeExpr → Expr
expr_of = fold-Expr Expr Use Part Step Stmt BlockTree BodyTree Derived at_expr at_use at_part at_step at_stmt at_block at_body at_derived

abbrev pub use_of : CodeUse → Use
use_of = fold-ModUse Expr Use Part Step Stmt BlockTree BodyTree Derived at_expr at_use at_part at_step at_stmt at_block at_body at_derived

abbrev pub part_of : CodePart → Part
part_of = fold-Part Expr Use Part Step Stmt BlockTree BodyTree Derived at_expr at_use at_part at_step at_stmt at_block at_body at_derived

abbrev pub step_of : CodeStep → Step
step_of = fold-Step Expr Use Part Step Stmt BlockTree BodyTree Derived at_expr at_use at_part at_step at_stmt at_block at_body at_derived

abbrev pub stmt_of : CodeStmt → Stmt
stmt_of = fold-Stmt Expr Use Part Step Stmt BlockTree BodyTree Derived at_expr at_use at_part at_step at_stmt at_block at_body at_derived

abbrev pub block_of : CodeBlock → BlockTree
block_of = fold-BlockTree Expr Use Part Step Stmt BlockTree BodyTree Derived at_expr at_use at_part at_step at_stmt at_block at_body at_derived

abbrev pub body_of : CodeBody → BodyTree
body_of = fold-BodyTree Expr Use Part Step Stmt BlockTree BodyTree Derived at_expr at_use at_part at_step at_stmt at_block at_body at_derived

abbrev pub derived_of : CodeDerived → Derived
derived_of = fold-Derived Expr Use Part Step Stmt BlockTree BodyTree Derived at_expr at_use at_part at_step at_stmt at_block at_body at_derived

abbrev pub tree_of : CodeTree → Stmts
tree_of tree = stmts (map stmt_of tree.statements)
