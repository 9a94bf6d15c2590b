-- The forms of a piece, read leftward from its last unit: BQN's page on grammar.
use Rattle.std.specs.Prelude.{Bool, true, false, not, List, [], ◌∷◌, Option, Some, None}
use Rattle.std.specs.Option.{option_map, option_and_then}
use Rattle.bqn_syntax.specs.declared.token.Token.{Token}
use Rattle.bqn_syntax.specs.declared.tree.Arrow.{Arrow}
use Rattle.bqn_syntax.specs.declared.tree.Arrow.TheVariants as arrow
use Rattle.bqn_syntax.specs.declared.sort.Tag.{Tag}
use Rattle.bqn_syntax.specs.declared.sort.Tag.TheVariants as tag
use Rattle.bqn_syntax.specs.grammar.Sorts.{tag as tag_of, named}
use Rattle.bqn_syntax.specs.grammar.Items.{Item, terms_of, leaf_pattern}
use Rattle.bqn_syntax.specs.grammar.Units.{Unit', Subject, Function, Absent, Alone, Arrow', Aim, units_of}
use Rattle.bqn_syntax.specs.grammar.Trees.{Pattern, Name, Skip, Expr, Value, Train, Modifier, Part, Leaf, Nothing, Step, Apply, Assign, Modify, Stmt, Eval, Predicate, Export, Derived, derived, MaybePart, none, some, no_uses, Steps, no_steps, and_steps, Deriveds, no_deriveds, and_deriveds}

-- Values.

abbrev pub more : Step → Option Steps → Option Steps
more step steps = option_map (λ all. and_steps step all) steps

abbrev pub assigned : Option Token → Arrow → Option Steps → Option Steps
assigned None a steps = None
assigned (Some t) a steps = more (Assign (Name t) a) steps

abbrev pub changed : Option Token → Derived → Option Steps → Option Steps
changed None f steps = None
changed (Some t) f steps = more (Modify t f) steps

-- what is done with a value, from the unit left of it on
abbrev pub steps_of : List Unit' → Option Steps
steps_of [] = Some no_steps
steps_of (Function f ∷ Subject x ∷ units) = more (Apply f (some x)) (steps_of units)
steps_of (Function f ∷ Absent x ∷ units) = more (Apply f (some x)) (steps_of units)
steps_of (Function f ∷ units) = more (Apply f none) (steps_of units)
steps_of (Arrow' a ∷ Aim q ∷ units) = more (Assign q a) (steps_of units)
steps_of (Arrow' a ∷ Subject x ∷ units) = assigned (named tag.Subject x) a (steps_of units)
steps_of (Arrow' arrow.Change ∷ Function f ∷ Subject x ∷ units) = changed (named tag.Subject x) f (steps_of units)
steps_of _ = None

abbrev pub value : MaybePart → Option Steps → Option Expr
value last steps = option_map (λ all. Value last all) steps

-- Targets of operations: names of one role, each before an arrow.

abbrev pub single : Unit' → Option Part
single (Subject x) = Some x
single (Function (derived x no_uses)) = Some x
single (Alone x) = Some x
single _ = None

abbrev pub targets : Tag → List (Token × Arrow) → List Unit' → Option (List (Token × Arrow))
targets r so [] = Some so
targets r so (Arrow' a ∷ u ∷ units) = option_and_then (λ t. targets r ((t, a) ∷ so) units) (option_and_then (named r) (single u))
targets r so _ = None

-- Trains: every second part from the right is a function, and so is the first; the others may be subjects or `·`.
abbrev pub train : Bool → Deriveds → List Unit' → Option Expr
train any parts (Function f ∷ units) = train (not any) (and_deriveds f parts) units
train true parts (Subject x ∷ units) = train false (and_deriveds (derived x no_uses) parts) units
train true parts (Absent x ∷ units) = train false (and_deriveds (derived x no_uses) parts) units
train any parts units = option_map (λ ts. Train ts parts) (targets tag.Function [] units)

-- what the units of a piece are, the last one first
abbrev pub expression : List Unit' → Option Expr
expression (Subject x ∷ units) = value (some x) (steps_of units)
expression (Absent x ∷ Function f ∷ units) = value (some x) (steps_of (Function f ∷ units))
expression (Arrow' arrow.Change ∷ Function f ∷ Subject x ∷ units) = value none (changed (named tag.Subject x) f (steps_of units))
expression (Function f ∷ units) = train false (and_deriveds f no_deriveds) units
expression (Alone m ∷ units) = option_map (λ ts. Modifier ts m) (targets (tag_of m) [] units)
expression _ = None

-- what is exported without a value: a name or a pattern
abbrev pub exported_part : Part → Option Pattern
exported_part (Leaf t) = leaf_pattern false t.kind t
exported_part (Nothing place) = Some (Skip place)
exported_part _ = None

abbrev pub exported : Unit' → Option Pattern
exported (Aim q) = Some q
exported (Absent x) = exported_part x
exported u = option_and_then exported_part (single u)

abbrev pub statement : List Unit' → Option Stmt
statement (Arrow' arrow.Export ∷ u ∷ []) = option_map (λ q. Export q) (exported u)
statement units = option_map (λ e. Eval e) (expression units)

-- a predicate is a value
abbrev pub predicate : Expr → Option Stmt
predicate (Value last steps) = Some (Predicate (Value last steps))
predicate _ = None

-- The pieces by their items.

abbrev pub units_in : List Item → Option (List Unit')
units_in items = option_and_then units_of (terms_of items)

abbrev pub piece_expression : List Item → Option Expr
piece_expression items = option_and_then expression (units_in items)

abbrev pub piece_statement : List Item → Option Stmt
piece_statement items = option_and_then statement (units_in items)

abbrev pub piece_predicate : List Item → Option Stmt
piece_predicate items = option_and_then predicate (piece_expression items)
