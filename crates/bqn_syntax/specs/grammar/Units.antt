-- What modifiers bind to: BQN's page on grammar.
use Rattle.std.specs.Prelude.{List, [], ◌∷◌, ◌++◌, Option, Some, None}
use Rattle.std.specs.Option.{option_map, option_and_then}
use Rattle.bqn_syntax.specs.declared.tree.Arrow.{Arrow}
use Rattle.bqn_syntax.specs.declared.sort.Tag.{Tag}
use Rattle.bqn_syntax.specs.declared.sort.Tag.TheVariants as tag
use Rattle.bqn_syntax.specs.grammar.Sorts.{tag as tag_of}
use Rattle.bqn_syntax.specs.grammar.Items.{Term, Operand, Target, Draw}
use Rattle.bqn_syntax.specs.grammar.Trees.{Pattern, Part, Use, One, Two, Derived, derived, no_uses, uses}

-- a subject, a function, `·`, a modifier by itself, an arrow, a target that is no name
pub data Unit' : Type 0 where
  Subject : Part → Unit'
  Function : Derived → Unit'
  Absent : Part → Unit'
  Alone : Part → Unit'
  Arrow' : Arrow → Unit'
  Aim : Pattern → Unit'

-- the operand that is being read, with its modifiers so far; the last one may want its second operand
pub data Binding : Type 0 where
  Free : Binding
  Bound : Part → List Use → Binding
  Wanting : Part → List Use → Part → Binding

-- the units so far, the last one first
pub record Row : Type 0 where
  pub units : List Unit'
  pub binding : Binding

abbrev pub row : List Unit' → Binding → Row
row units binding = record { units = units; binding = binding }

abbrev pub alone : Tag → Part → Unit'
alone tag.Subject x = Subject x
alone tag.Function x = Function (derived x no_uses)
alone tag.Mod1 x = Alone x
alone tag.Mod2 x = Alone x
alone tag.Nothing x = Absent x

-- an operand with its modifiers is a function
abbrev pub unit_of : Part → List Use → Unit'
unit_of x [] = alone (tag_of x) x
unit_of x (u ∷ us) = Function (derived x (uses (u ∷ us)))

abbrev pub closed : List Unit' → Binding → Option (List Unit')
closed units Free = Some units
closed units (Bound x us) = Some (unit_of x us ∷ units)
closed units (Wanting x us m) = None

-- a subject or a function
abbrev pub operand : List Unit' → Binding → Part → Row
operand units Free x = row units (Bound x [])
operand units (Bound y us) x = row (unit_of y us ∷ units) (Bound x [])
operand units (Wanting y us m) x = row units (Bound y (us ++ Two m x ∷ []))

abbrev pub modified : List Unit' → Binding → Part → Option Row
modified units Free m = Some (row (Alone m ∷ units) Free)
modified units (Bound y us) m = Some (row units (Bound y (us ++ One m ∷ [])))
modified units (Wanting y us n) m = None

abbrev pub modified_twice : List Unit' → Binding → Part → Option Row
modified_twice units Free m = Some (row (Alone m ∷ units) Free)
modified_twice units (Bound y us) m = Some (row units (Wanting y us m))
modified_twice units (Wanting y us n) m = None

-- what no modifier binds to
abbrev pub beside : Unit' → List Unit' → Binding → Option Row
beside u units binding = option_map (λ all. row (u ∷ all) Free) (closed units binding)

abbrev pub bind_part : Tag → List Unit' → Binding → Part → Option Row
bind_part tag.Subject units binding x = Some (operand units binding x)
bind_part tag.Function units binding x = Some (operand units binding x)
bind_part tag.Mod1 units binding x = modified units binding x
bind_part tag.Mod2 units binding x = modified_twice units binding x
bind_part tag.Nothing units binding x = beside (Absent x) units binding

-- one more term
abbrev pub bind : Row → Term → Option Row
bind so (Operand x) = bind_part (tag_of x) so.units so.binding x
bind so (Target q) = beside (Aim q) so.units so.binding
bind so (Draw a) = beside (Arrow' a) so.units so.binding

abbrev pub binds : Row → List Term → Option Row
binds so [] = Some so
binds so (term ∷ terms) = option_and_then (λ next. binds next terms) (bind so term)

abbrev pub bound : Row → Option (List Unit')
bound so = closed so.units so.binding

-- the units of a piece, the last one first
abbrev pub units_of : List Term → Option (List Unit')
units_of terms = option_and_then bound (binds (row [] Free) terms)
