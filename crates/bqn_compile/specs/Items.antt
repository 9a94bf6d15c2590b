-- What a tree has for the pools and the counts, as one list in text order.
use Rattle.std.specs.Prelude.{ℕ, Bool, true, false, List, [], ◌∷◌, ◌++◌, Option, Some, None}
use Rattle.bqn_base.specs.declared.place.Place.{Place}
use Rattle.bqn_syntax.specs.declared.token.Kind.{Kind}
use Rattle.bqn_syntax.specs.declared.token.Kind.TheVariants as kind
use Rattle.bqn_syntax.specs.declared.token.Token.{Token}
use Rattle.bqn_syntax.specs.declared.tree.Arrow.{Arrow}
use Rattle.bqn_syntax.specs.grammar.Trees.{Pattern, Name, Skip, Literal, ListPattern, StrandPattern, Patterns, no_patterns, and_patterns, Header, Expr, Value, Train, Modifier, Use, One, Two, Part, Leaf, Elements, Merge, Paren, Block, Field, Strand, Nothing, Step, Apply, Assign, Modify, Stmt, Eval, Predicate, Export, BlockTree, block, BodyTree, body, Derived, derived, MaybePart, none, some, Exprs, no_exprs, and_exprs, Uses, no_uses, and_uses, Parts, no_parts, and_parts, Steps, no_steps, and_steps, Stmts, no_stmts, and_stmts, Bodies, no_bodies, and_bodies, Deriveds, no_deriveds, and_deriveds}
use Rattle.bqn_syntax.specs.scope.Order.{How, Reads, Defines, Changes, by_arrow}
use Rattle.bqn_syntax.specs.blocks.Counting.{how_many}

-- a token by itself; the names behind a part; a pattern, with whether literals may stand in it; the brace of a block with so many
-- bodies; names that are exported without a value
pub data Item : Type 0 where
  Alone : How → Token → Item
  Fields : List Token → Item
  Taken : (literals : Bool) → How → Pattern → Item
  Opened : Place → ℕ → Item
  Shown : Pattern → Item

abbrev pub operand_items : Option Token → List Item
operand_items None = []
operand_items (Some t) = Alone Defines t ∷ []

abbrev pub named_items : Kind → Token → List Item
named_items (kind.Special s r) t = []
named_items k t = Taken true Defines (Name t) ∷ []

abbrev pub argument_items : Option Pattern → List Item
argument_items None = []
argument_items (Some (Name t)) = named_items t.kind t
argument_items (Some q) = Taken true Defines q ∷ []

abbrev pub header_items : Option Header → List Item
header_items None = []
header_items (Some h) =
    argument_items h.left ++ (operand_items h.left_operand ++ Alone Defines h.own ∷ (operand_items h.right_operand ++ argument_items h.right))

abbrev pub targets_items : List (Token × Arrow) → List Item
targets_items [] = []
targets_items (t ∷ ts) = Alone (by_arrow t.1) t.0 ∷ targets_items ts

abbrev pub target_item : How → Pattern → Item
target_item how (Name t) = Alone how t
target_item how q = Taken false how q

abbrev mutual
  pub expr_items : Expr → List Item
  expr_items (Value last ss) = steps_items ss ++ maybe_items last
  expr_items (Train ts ds) = targets_items ts ++ deriveds_items ds
  expr_items (Modifier ts x) = targets_items ts ++ part_items x

  pub part_items : Part → List Item
  part_items (Leaf t) = Alone Reads t ∷ []
  part_items (Elements es) = exprs_items es
  part_items (Merge es) = exprs_items es
  part_items (Paren e) = expr_items e
  part_items (Block b) = block_items b
  part_items (Field base names) = part_items base ++ Fields names ∷ []
  part_items (Strand ps) = parts_items ps
  part_items (Nothing place) = []

  pub block_items : BlockTree → List Item
  block_items (block place c bs) = Opened place (how_many bs) ∷ bodies_items bs

  pub maybe_items : MaybePart → List Item
  maybe_items none = []
  maybe_items (some x) = part_items x

  pub steps_items : Steps → List Item
  steps_items no_steps = []
  steps_items (and_steps s ss) = steps_items ss ++ step_items s

  pub step_items : Step → List Item
  step_items (Apply d left) = maybe_items left ++ derived_items d
  step_items (Assign q a) = target_item (by_arrow a) q ∷ []
  step_items (Modify t d) = Alone Changes t ∷ derived_items d

  pub derived_items : Derived → List Item
  derived_items (derived x us) = part_items x ++ uses_items us

  pub uses_items : Uses → List Item
  uses_items no_uses = []
  uses_items (and_uses u us) = use_items u ++ uses_items us

  pub use_items : Use → List Item
  use_items (One m) = part_items m
  use_items (Two m x) = part_items m ++ part_items x

  pub deriveds_items : Deriveds → List Item
  deriveds_items no_deriveds = []
  deriveds_items (and_deriveds d ds) = derived_items d ++ deriveds_items ds

  pub exprs_items : Exprs → List Item
  exprs_items no_exprs = []
  exprs_items (and_exprs e es) = expr_items e ++ exprs_items es

  pub parts_items : Parts → List Item
  parts_items no_parts = []
  parts_items (and_parts x xs) = part_items x ++ parts_items xs

  pub stmts_items : Stmts → List Item
  stmts_items no_stmts = []
  stmts_items (and_stmts s ss) = stmt_items s ++ stmts_items ss

  pub stmt_items : Stmt → List Item
  stmt_items (Eval e) = expr_items e
  stmt_items (Predicate e) = expr_items e
  stmt_items (Export q) = Shown q ∷ []

  pub bodies_items : Bodies → List Item
  bodies_items no_bodies = []
  bodies_items (and_bodies b bs) = body_items b ++ bodies_items bs

  pub body_items : BodyTree → List Item
  body_items (body h ss) = header_items h ++ stmts_items ss

-- ---- what holds of them

-- something holds of each
abbrev pub EveryItem : (Item → Type 0) → List Item → Type 0
EveryItem P [] = Unit {0}
EveryItem P (x ∷ xs) = P x × EveryItem P xs

module _ (P : Token → Type 0) where
  -- something holds of each token
  abbrev pub AllTokens : List Token → Type 0
  AllTokens [] = Unit {0}
  AllTokens (t ∷ ts) = P t × AllTokens ts

  -- and of each leaf of a pattern
  abbrev mutual
    pub PatternTokens : Pattern → Type 0
    PatternTokens (Name t) = P t
    PatternTokens (Skip place) = Unit {0}
    PatternTokens (Literal t) = P t
    PatternTokens (ListPattern qs) = PatternsTokens qs
    PatternTokens (StrandPattern qs) = PatternsTokens qs

    pub PatternsTokens : Patterns → Type 0
    PatternsTokens no_patterns = Unit {0}
    PatternsTokens (and_patterns q qs) = PatternTokens q × PatternsTokens qs
