-- What items and units stand for.
use Rattle.std.specs.Prelude.{◌≡◌, Bool, true, false, List, [], ◌∷◌, map, Option, Some, None, Result, Ok, Err}
use Rattle.bqn_base.specs.declared.refusal.Refusal.{Refusal}
use Rattle.bqn_syntax.specs.declared.token.Token.{Token}
use Rattle.bqn_syntax.specs.declared.tree.Tree.{Tree}
use Rattle.bqn_syntax.specs.grammar.Items as items
use Rattle.bqn_syntax.specs.grammar.Units as units
use Rattle.bqn_syntax.specs.grammar.Trees.{pattern_of, Stmts, tree_of}
use Rattle.bqn_syntax.specs.grammar.Spells.{Spells}
use Rattle.bqn_syntax.specs.grammar.Well.{Well}
use Rattle.bqn_parse.specs.Drafts.{draft_of, function_of}
use Rattle.bqn_parse.specs.declared.item.Element.{Element}
use Rattle.bqn_parse.specs.declared.item.Element.TheVariants as element
use Rattle.bqn_parse.specs.declared.item.Item.{Item}
use Rattle.bqn_parse.specs.declared.item.Item.TheVariants as item
use Rattle.bqn_parse.specs.declared.unit.Unit.{Unit as CodeUnit}
use Rattle.bqn_parse.specs.declared.unit.Unit.TheVariants as unit
use Rattle.bqn_parse.specs.declared.error.ParseError.{ParseError}
use Rattle.bqn_parse.specs.declared.error.ParseError.TheVariants.{Refused, Memory}

abbrev pub element_of : Element → items.Element
element_of (element.Part x) = items.OfPart (draft_of x)
element_of (element.List q) = items.OfList (pattern_of q)

abbrev pub item_of : Item → items.Item
item_of (item.Standing x) = items.Standing (element_of x)
item_of (item.Drawn a) = items.Drawn a
item_of item.Joining = items.Joining
item_of item.Selecting = items.Selecting
item_of item.Wrong = items.Wrong

abbrev pub items_of : List Item → List items.Item
items_of all = map item_of all

abbrev pub unit_shown : CodeUnit → units.Unit'
unit_shown (unit.Subject x) = units.Subject (draft_of x)
unit_shown (unit.Function f) = units.Function (function_of f)
unit_shown (unit.Absent x) = units.Absent (draft_of x)
unit_shown (unit.Alone x) = units.Alone (draft_of x)
unit_shown (unit.Arrow a) = units.Arrow' a
unit_shown (unit.Aim q) = units.Aim (pattern_of q)

-- the last one first, before others
abbrev pub backward_onto : List CodeUnit → List units.Unit' → List units.Unit'
backward_onto [] so = so
backward_onto (u ∷ us) so = backward_onto us (unit_shown u ∷ so)

-- the units, the last one first
abbrev pub backward : List CodeUnit → List units.Unit'
backward us = backward_onto us []

-- what is shown now, if there is such a form
abbrev pub when : {A : Type 0} → Bool → A → Option A
when true shown = Some shown
when false shown = None

-- the tree that is given is this, or the refusal is; out of memory says nothing
abbrev pub Gives : Result Stmts Refusal → Result Tree ParseError → Type 0
Gives answer (Ok tree) = answer ≡ Ok (tree_of tree)
Gives answer (Err (Refused r)) = answer ≡ Err r
Gives answer (Err Memory) = Unit {0}

-- each well tree that the tokens spell is the one that is given
abbrev pub Finds : List Token → Result Tree ParseError → Type 0
Finds tokens result = (ss : Stmts) → Well ss → Spells ss tokens → Gives (Ok ss) result
