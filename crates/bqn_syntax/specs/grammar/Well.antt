-- The well trees: each piece has a form, and roles and nesting fit. BQN's page on grammar.
use Rattle.std.specs.Prelude.{◌≡◌, ◌≤◌, ℕ, ◌+◌, max, Bool, true, false, not, List, [], ◌∷◌, Option, Some, None}
use Rattle.bqn_syntax.specs.declared.token.Kind.{Kind}
use Rattle.bqn_syntax.specs.declared.token.Kind.TheVariants as kind
use Rattle.bqn_syntax.specs.declared.token.Token.{Token}
use Rattle.bqn_syntax.specs.declared.tree.Arrow.{Arrow}
use Rattle.bqn_syntax.specs.declared.sort.Sort.TheVariants.{Stands}
use Rattle.bqn_syntax.specs.declared.sort.Tag.{Tag}
use Rattle.bqn_syntax.specs.declared.sort.Tag.TheVariants as tag
use Rattle.bqn_syntax.specs.grammar.Sorts.{sort_of, tag as tag_of, is_name, is_word}
use Rattle.bqn_syntax.specs.grammar.Headers.{own_tag, is_left_operand, is_right_operand, is_left, is_right}
use Rattle.bqn_syntax.specs.grammar.Classes.{marks_in, class_of}
use Rattle.bqn_syntax.specs.grammar.Trees.{Pattern, Name, Skip, Literal, ListPattern, StrandPattern, Patterns, no_patterns, and_patterns, Header, Expr, Value, Train, Modifier, Use, One, Two, Part, Leaf, Elements, Merge, Paren, Block, Field, Strand, Nothing, Step, Apply, Assign, Modify, Stmt, Eval, Predicate, Export, BlockTree, block, BodyTree, body, Derived, derived, MaybePart, none, some, Exprs, no_exprs, and_exprs, Uses, no_uses, and_uses, Parts, no_parts, and_parts, Steps, no_steps, and_steps, Stmts, no_stmts, and_stmts, Bodies, no_bodies, and_bodies, Deriveds, no_deriveds, and_deriveds}

-- Roles.

abbrev pub IsOperand : Tag → Type 0
IsOperand tag.Subject = Unit {0}
IsOperand tag.Function = Unit {0}
IsOperand _ = ⊥

abbrev pub IsLeft : Tag → Type 0
IsLeft tag.Subject = Unit {0}
IsLeft tag.Nothing = Unit {0}
IsLeft _ = ⊥

abbrev pub IsModifier : Tag → Type 0
IsModifier tag.Mod1 = Unit {0}
IsModifier tag.Mod2 = Unit {0}
IsModifier _ = ⊥

abbrev pub UseFits : Use → Type 0
UseFits (One m) = tag_of m ≡ tag.Mod1
UseFits (Two m x) = (tag_of m ≡ tag.Mod2) × IsOperand (tag_of x)

abbrev pub UsesFit : Uses → Type 0
UsesFit no_uses = Unit {0}
UsesFit (and_uses u us) = UseFits u × UsesFit us

-- a function, or an operand with modifiers
abbrev pub IsFunction : Derived → Type 0
IsFunction (derived x no_uses) = tag_of x ≡ tag.Function
IsFunction (derived x (and_uses u us)) = IsOperand (tag_of x) × UseFits u × UsesFit us

-- a subject, `·` or a function
abbrev pub IsTrainPart : Derived → Type 0
IsTrainPart (derived x no_uses) = IsModifier (tag_of x) → ⊥
IsTrainPart d = IsFunction d

-- the part left of these, which are none, may be more than a function: the third from the right, the fifth and so on
abbrev pub any_left_of : Deriveds → Bool
any_left_of no_deriveds = false
any_left_of (and_deriveds d no_deriveds) = false
any_left_of (and_deriveds d ds) = not (any_left_of ds)

abbrev pub PlaceFits : Bool → Derived → Type 0
PlaceFits true d = IsTrainPart d
PlaceFits false d = IsFunction d

abbrev pub TrainFits : Deriveds → Type 0
TrainFits no_deriveds = Unit {0}
TrainFits (and_deriveds d ds) = PlaceFits (any_left_of ds) d × TrainFits ds

abbrev pub IsSome : Deriveds → Type 0
IsSome no_deriveds = ⊥
IsSome (and_deriveds d ds) = Unit {0}

-- names of one role
abbrev pub TargetsFit : Tag → List (Token × Arrow) → Type 0
TargetsFit r [] = Unit {0}
TargetsFit r (t ∷ ts) = (is_name r t.0.kind ≡ true) × TargetsFit r ts

-- a list or a strand before an arrow is a pattern, so no function ends in one there
abbrev pub EndsInNoList : Part → Type 0
EndsInNoList (Elements es) = ⊥
EndsInNoList (Strand ps) = ⊥
EndsInNoList _ = Unit {0}

abbrev pub LastOperand : Uses → Type 0
LastOperand no_uses = Unit {0}
LastOperand (and_uses (One m) us) = LastOperand us
LastOperand (and_uses (Two m x) no_uses) = EndsInNoList x
LastOperand (and_uses (Two m x) us) = LastOperand us

abbrev pub MayStandBeforeArrow : Derived → Type 0
MayStandBeforeArrow (derived x us) = LastOperand us

-- Patterns.

abbrev pub IsLiteral : Kind → Type 0
IsLiteral (kind.Number z) = Unit {0}
IsLiteral (kind.Char c) = Unit {0}
IsLiteral (kind.Text s) = Unit {0}
IsLiteral _ = ⊥

abbrev pub IsNoStrand : Pattern → Type 0
IsNoStrand (StrandPattern qs) = ⊥
IsNoStrand _ = Unit {0}

abbrev pub AreTwo : Patterns → Type 0
AreTwo (and_patterns q (and_patterns r qs)) = Unit {0}
AreTwo _ = ⊥

-- whose leaves may be literals, or may not
abbrev mutual
  pub WellPattern : Bool → Pattern → Type 0
  WellPattern literals (Name t) = is_word t.kind ≡ true
  WellPattern literals (Skip place) = Unit {0}
  WellPattern literals (Literal t) = (literals ≡ true) × IsLiteral t.kind
  WellPattern literals (ListPattern qs) = WellPatterns literals qs
  WellPattern literals (StrandPattern qs) = AreTwo qs × WellJoined literals qs

  pub WellPatterns : Bool → Patterns → Type 0
  WellPatterns literals no_patterns = Unit {0}
  WellPatterns literals (and_patterns q qs) = WellPattern literals q × WellPatterns literals qs

  pub WellJoined : Bool → Patterns → Type 0
  WellJoined literals no_patterns = Unit {0}
  WellJoined literals (and_patterns q qs) = IsNoStrand q × WellPattern literals q × WellJoined literals qs

-- a subject name, a list or a strand
abbrev pub IsTarget : Pattern → Type 0
IsTarget (Name t) = is_name tag.Subject t.kind ≡ true
IsTarget (Skip place) = ⊥
IsTarget (Literal t) = ⊥
IsTarget _ = Unit {0}

-- Headers.

abbrev pub IsOutermost : Pattern → Type 0
IsOutermost (Name t) = is_name tag.Subject t.kind ≡ true
IsOutermost _ = Unit {0}

-- a header pattern, or the special name
pub data IsArgument (is_special : Kind → Bool) : Pattern → Type 0 where
  special : {t : Token} → is_special t.kind ≡ true → IsArgument is_special (Name t)
  pattern : {q : Pattern} → IsOutermost q → WellPattern true q → IsArgument is_special q

abbrev pub ArgumentFits : (Kind → Bool) → Option Pattern → Type 0
ArgumentFits is_special None = Unit {0}
ArgumentFits is_special (Some q) = IsArgument is_special q

abbrev pub OperandFits : (Kind → Bool) → Option Token → Type 0
OperandFits is_operand None = ⊥
OperandFits is_operand (Some t) = is_operand t.kind ≡ true

abbrev pub SelfFits : Tag → Option Token → Option Token → Type 0
SelfFits tag.Function None None = Unit {0}
SelfFits tag.Mod1 l None = OperandFits is_left_operand l
SelfFits tag.Mod2 l r = OperandFits is_left_operand l × OperandFits is_right_operand r
SelfFits _ l r = ⊥

-- a left argument stands beside a right one alone
abbrev pub SidesFit : Option Pattern → Option Pattern → Type 0
SidesFit (Some q) None = ⊥
SidesFit l r = Unit {0}

pub record WellHeader (h : Header) : Type 0 where
  pub self : SelfFits (own_tag h.own.kind) h.left_operand h.right_operand
  pub sides : SidesFit h.left h.right
  pub left : ArgumentFits is_left h.left
  pub right : ArgumentFits is_right h.right

abbrev pub HeaderFits : Option Header → Type 0
HeaderFits None = Unit {0}
HeaderFits (Some h) = WellHeader h

-- Expressions.

abbrev pub IsLast : Tag → Steps → Type 0
IsLast tag.Subject ss = Unit {0}
IsLast tag.Nothing (and_steps (Apply f left) ss) = Unit {0}
IsLast _ ss = ⊥

abbrev pub BeginsWithChange : Steps → Type 0
BeginsWithChange (and_steps (Modify t f) ss) = Unit {0}
BeginsWithChange _ = ⊥

-- a field stands after one part that is a subject, and names of subjects
abbrev pub IsBase : Part → Type 0
IsBase (Field x names) = ⊥
IsBase (Strand ps) = ⊥
IsBase x = tag_of x ≡ tag.Subject

abbrev pub NamesFit : List Token → Type 0
NamesFit [] = ⊥
NamesFit (t ∷ []) = is_word t.kind ≡ true
NamesFit (t ∷ u ∷ ts) = (is_name tag.Subject t.kind ≡ true) × NamesFit (u ∷ ts)

abbrev pub IsElement : Part → Type 0
IsElement (Strand ps) = ⊥
IsElement (Nothing place) = ⊥
IsElement _ = Unit {0}

abbrev pub AreTwoParts : Parts → Type 0
AreTwoParts (and_parts x (and_parts y xs)) = Unit {0}
AreTwoParts _ = ⊥

abbrev pub IsSomeExprs : Exprs → Type 0
IsSomeExprs no_exprs = ⊥
IsSomeExprs (and_exprs e es) = Unit {0}

abbrev pub IsSomeBodies : Bodies → Type 0
IsSomeBodies no_bodies = ⊥
IsSomeBodies (and_bodies b bs) = Unit {0}

abbrev pub IsValue : Expr → Type 0
IsValue (Value last steps) = Unit {0}
IsValue _ = ⊥

abbrev mutual
  pub WellExpr : Expr → Type 0
  WellExpr (Value none ss) = BeginsWithChange ss × WellSteps ss
  WellExpr (Value (some x) ss) = IsLast (tag_of x) ss × WellPart x × WellSteps ss
  WellExpr (Train ts ds) = TargetsFit tag.Function ts × IsSome ds × TrainFits ds × WellDeriveds ds
  WellExpr (Modifier ts x) = IsModifier (tag_of x) × TargetsFit (tag_of x) ts × WellPart x

  pub WellPart : Part → Type 0
  WellPart (Leaf t) = sort_of t.kind ≡ Stands
  WellPart (Elements es) = WellExprs es
  WellPart (Merge es) = IsSomeExprs es × WellExprs es
  WellPart (Paren e) = WellExpr e
  WellPart (Block b) = WellBlock b
  WellPart (Field x names) = IsBase x × NamesFit names × WellPart x
  WellPart (Strand ps) = AreTwoParts ps × WellParts ps
  WellPart (Nothing place) = Unit {0}

  pub WellSteps : Steps → Type 0
  WellSteps no_steps = Unit {0}
  WellSteps (and_steps s ss) = WellStep s × WellSteps ss

  pub WellStep : Step → Type 0
  WellStep (Apply f none) = IsFunction f × WellDerived f
  WellStep (Apply f (some x)) = IsFunction f × WellDerived f × IsLeft (tag_of x) × WellPart x
  WellStep (Assign q a) = IsTarget q × WellPattern false q
  WellStep (Modify t f) = (is_name tag.Subject t.kind ≡ true) × IsFunction f × MayStandBeforeArrow f × WellDerived f

  pub WellDerived : Derived → Type 0
  WellDerived (derived x us) = WellPart x × WellUses us

  pub WellUses : Uses → Type 0
  WellUses no_uses = Unit {0}
  WellUses (and_uses u us) = WellUse u × WellUses us

  pub WellUse : Use → Type 0
  WellUse (One m) = WellPart m
  WellUse (Two m x) = WellPart m × WellPart x

  pub WellDeriveds : Deriveds → Type 0
  WellDeriveds no_deriveds = Unit {0}
  WellDeriveds (and_deriveds d ds) = WellDerived d × WellDeriveds ds

  pub WellExprs : Exprs → Type 0
  WellExprs no_exprs = Unit {0}
  WellExprs (and_exprs e es) = WellExpr e × WellExprs es

  pub WellParts : Parts → Type 0
  WellParts no_parts = Unit {0}
  WellParts (and_parts x xs) = IsElement x × WellPart x × WellParts xs

  -- a predicate stands in a block alone
  pub WellStmt : Bool → Stmt → Type 0
  WellStmt in_block (Eval e) = WellExpr e
  WellStmt in_block (Predicate e) = (in_block ≡ true) × IsValue e × WellExpr e
  WellStmt in_block (Export q) = WellPattern false q

  pub WellStmts : Bool → Stmts → Type 0
  WellStmts in_block no_stmts = Unit {0}
  WellStmts in_block (and_stmts s ss) = WellStmt in_block s × WellStmts in_block ss

  pub WellBody : BodyTree → Type 0
  WellBody (body h ss) = HeaderFits h × WellStmts true ss

  pub WellBodies : Bodies → Type 0
  WellBodies no_bodies = Unit {0}
  WellBodies (and_bodies b bs) = WellBody b × WellBodies bs

  pub WellBlock : BlockTree → Type 0
  WellBlock (block place c bs) = IsSomeBodies bs × (class_of (marks_in bs) ≡ Some c) × WellBodies bs

-- How many brackets are open at once.

abbrev mutual
  pub pattern_depth : Pattern → ℕ
  pattern_depth (ListPattern qs) = 1 + patterns_depth qs
  pattern_depth (StrandPattern qs) = patterns_depth qs
  pattern_depth (Name t) = 0
  pattern_depth (Skip place) = 0
  pattern_depth (Literal t) = 0

  pub patterns_depth : Patterns → ℕ
  patterns_depth no_patterns = 0
  patterns_depth (and_patterns q qs) = max (pattern_depth q) (patterns_depth qs)

abbrev pub argument_depth : Option Pattern → ℕ
argument_depth None = 0
argument_depth (Some q) = pattern_depth q

abbrev pub header_depth : Option Header → ℕ
header_depth None = 0
header_depth (Some h) = max (argument_depth h.left) (argument_depth h.right)

abbrev mutual
  pub expr_depth : Expr → ℕ
  expr_depth (Value last ss) = max (maybe_depth last) (steps_depth ss)
  expr_depth (Train ts ds) = deriveds_depth ds
  expr_depth (Modifier ts x) = part_depth x

  pub part_depth : Part → ℕ
  part_depth (Leaf t) = 0
  part_depth (Elements es) = 1 + exprs_depth es
  part_depth (Merge es) = 1 + exprs_depth es
  part_depth (Paren e) = 1 + expr_depth e
  part_depth (Block b) = 1 + block_depth b
  part_depth (Field x names) = part_depth x
  part_depth (Strand ps) = parts_depth ps
  part_depth (Nothing place) = 0

  pub maybe_depth : MaybePart → ℕ
  maybe_depth none = 0
  maybe_depth (some x) = part_depth x

  pub steps_depth : Steps → ℕ
  steps_depth no_steps = 0
  steps_depth (and_steps s ss) = max (step_depth s) (steps_depth ss)

  pub step_depth : Step → ℕ
  step_depth (Apply f left) = max (derived_depth f) (maybe_depth left)
  step_depth (Assign q a) = pattern_depth q
  step_depth (Modify t f) = derived_depth f

  pub derived_depth : Derived → ℕ
  derived_depth (derived x us) = max (part_depth x) (uses_depth us)

  pub uses_depth : Uses → ℕ
  uses_depth no_uses = 0
  uses_depth (and_uses u us) = max (use_depth u) (uses_depth us)

  pub use_depth : Use → ℕ
  use_depth (One m) = part_depth m
  use_depth (Two m x) = max (part_depth m) (part_depth x)

  pub deriveds_depth : Deriveds → ℕ
  deriveds_depth no_deriveds = 0
  deriveds_depth (and_deriveds d ds) = max (derived_depth d) (deriveds_depth ds)

  pub exprs_depth : Exprs → ℕ
  exprs_depth no_exprs = 0
  exprs_depth (and_exprs e es) = max (expr_depth e) (exprs_depth es)

  pub parts_depth : Parts → ℕ
  parts_depth no_parts = 0
  parts_depth (and_parts x xs) = max (part_depth x) (parts_depth xs)

  pub stmt_depth : Stmt → ℕ
  stmt_depth (Eval e) = expr_depth e
  stmt_depth (Predicate e) = expr_depth e
  stmt_depth (Export q) = pattern_depth q

  pub stmts_depth : Stmts → ℕ
  stmts_depth no_stmts = 0
  stmts_depth (and_stmts s ss) = max (stmt_depth s) (stmts_depth ss)

  pub body_depth : BodyTree → ℕ
  body_depth (body h ss) = max (header_depth h) (stmts_depth ss)

  pub bodies_depth : Bodies → ℕ
  bodies_depth no_bodies = 0
  bodies_depth (and_bodies b bs) = max (body_depth b) (bodies_depth bs)

  pub block_depth : BlockTree → ℕ
  block_depth (block place c bs) = bodies_depth bs

-- a well program
pub record Well (ss : Stmts) : Type 0 where
  pub statements : WellStmts false ss
  pub depth : stmts_depth ss ≤ 128
