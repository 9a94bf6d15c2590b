-- The items of a tree's pieces, and what each open bracket of the walk keeps of its items.
use Rattle.std.proofs.Common.{◌≤◌, ℕ, Bool, List, [], ◌∷◌, ◌++◌}
use Rattle.bqn_syntax.specs.declared.token.Token.{Token}
use Rattle.bqn_syntax.specs.declared.tree.Arrow.{Arrow}
use Rattle.bqn_syntax.specs.declared.tree.Arrow.TheVariants as arrow
use Rattle.bqn_syntax.specs.grammar.Items.{Element, OfPart, OfList, Item, Standing, Drawn, Joining, Selecting}
use Rattle.bqn_syntax.specs.grammar.Well.{WellPart, WellPattern, part_depth, pattern_depth}
use Rattle.bqn_syntax.specs.grammar.Trees.{Pattern, Name, Skip, Literal, ListPattern, StrandPattern, Patterns, no_patterns, and_patterns, Expr, Value, Train, Modifier, Use, One, Two, Part, Leaf, Elements, Merge, Paren, Block, Field, Strand, Nothing, Step, Apply, Assign, Modify, Derived, derived, MaybePart, none, some, Uses, no_uses, and_uses, Parts, no_parts, and_parts, Steps, no_steps, and_steps, Deriveds, no_deriveds, and_deriveds}

abbrev pub part_item : Part → Item
part_item x = Standing (OfPart x)

abbrev mutual
  pub pattern_items : Pattern → List Item
  pattern_items (Name t) = part_item (Leaf t) ∷ []
  pattern_items (Skip place) = part_item (Nothing place) ∷ []
  pattern_items (Literal t) = part_item (Leaf t) ∷ []
  pattern_items (ListPattern qs) = Standing (OfList (ListPattern qs)) ∷ []
  pattern_items (StrandPattern qs) = joined_items qs

  pub joined_items : Patterns → List Item
  joined_items no_patterns = []
  joined_items (and_patterns q qs) = pattern_items q ++ joined_more_items qs

  pub joined_more_items : Patterns → List Item
  joined_more_items no_patterns = []
  joined_more_items (and_patterns q qs) = Joining ∷ (pattern_items q ++ joined_more_items qs)

abbrev pub name_items : List Token → List Item
name_items [] = []
name_items (t ∷ ts) = Selecting ∷ part_item (Leaf t) ∷ name_items ts

abbrev pub target_items : List (Token × Arrow) → List Item
target_items [] = []
target_items (t ∷ ts) = part_item (Leaf t.0) ∷ Drawn t.1 ∷ target_items ts

abbrev mutual
  -- the items of a part: strands and fields are several
  pub part_items : Part → List Item
  part_items (Leaf t) = part_item (Leaf t) ∷ []
  part_items (Elements es) = part_item (Elements es) ∷ []
  part_items (Merge es) = part_item (Merge es) ∷ []
  part_items (Paren e) = part_item (Paren e) ∷ []
  part_items (Block b) = part_item (Block b) ∷ []
  part_items (Field x names) = part_items x ++ name_items names
  part_items (Strand ps) = parts_items ps
  part_items (Nothing place) = part_item (Nothing place) ∷ []

  pub parts_items : Parts → List Item
  parts_items no_parts = []
  parts_items (and_parts x xs) = part_items x ++ parts_more_items xs

  pub parts_more_items : Parts → List Item
  parts_more_items no_parts = []
  parts_more_items (and_parts x xs) = Joining ∷ (part_items x ++ parts_more_items xs)

abbrev pub maybe_items : MaybePart → List Item
maybe_items none = []
maybe_items (some x) = part_items x

abbrev pub use_items : Use → List Item
use_items (One m) = part_items m
use_items (Two m x) = part_items m ++ part_items x

abbrev pub uses_items : Uses → List Item
uses_items no_uses = []
uses_items (and_uses u us) = use_items u ++ uses_items us

abbrev pub derived_items : Derived → List Item
derived_items (derived x us) = part_items x ++ uses_items us

abbrev pub deriveds_items : Deriveds → List Item
deriveds_items no_deriveds = []
deriveds_items (and_deriveds d ds) = derived_items d ++ deriveds_items ds

abbrev pub step_items : Step → List Item
step_items (Apply f left) = maybe_items left ++ derived_items f
step_items (Assign q a) = pattern_items q ++ Drawn a ∷ []
step_items (Modify t f) = part_item (Leaf t) ∷ (derived_items f ++ Drawn arrow.Change ∷ [])

-- the first step stands rightmost
abbrev pub steps_items : Steps → List Item
steps_items no_steps = []
steps_items (and_steps s ss) = steps_items ss ++ step_items s

abbrev pub expr_items : Expr → List Item
expr_items (Value last ss) = steps_items ss ++ maybe_items last
expr_items (Train ts ds) = target_items ts ++ deriveds_items ds
expr_items (Modifier ts x) = target_items ts ++ part_items x

-- what the walk keeps of each item of an open bracket: a part that stands for one token or one bracket group is well, a list that is
-- a pattern is one
abbrev pub IsOne : Part → Type 0
IsOne (Field x names) = ⊥
IsOne (Strand ps) = ⊥
IsOne x = Unit {0}

abbrev pub IsList : Pattern → Type 0
IsList (ListPattern qs) = Unit {0}
IsList _ = ⊥

abbrev pub GoodElement : Bool → Element → Type 0
GoodElement literals (OfPart x) = IsOne x × WellPart x
GoodElement literals (OfList q) = IsList q × WellPattern literals q

abbrev pub GoodItem : Bool → Item → Type 0
GoodItem literals (Standing x) = GoodElement literals x
GoodItem literals _ = Unit {0}

abbrev pub GoodItems : Bool → List Item → Type 0
GoodItems literals [] = Unit {0}
GoodItems literals (i ∷ is) = GoodItem literals i × GoodItems literals is

-- at most so many brackets are open inside each item
abbrev pub ElementDepth : ℕ → Element → Type 0
ElementDepth n (OfPart x) = part_depth x ≤ n
ElementDepth n (OfList q) = pattern_depth q ≤ n

abbrev pub ItemDepth : ℕ → Item → Type 0
ItemDepth n (Standing x) = ElementDepth n x
ItemDepth n _ = Unit {0}

abbrev pub ItemDepths : ℕ → List Item → Type 0
ItemDepths n [] = Unit {0}
ItemDepths n (i ∷ is) = ItemDepth n i × ItemDepths n is
