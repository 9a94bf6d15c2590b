-- What the elements and items of a header are in the definition.
use Rattle.std.specs.Prelude.{Bool, true, false, List, map}
use Rattle.bqn_syntax.specs.declared.token.Kind.{Kind}
use Rattle.bqn_syntax.specs.declared.token.Kind.TheVariants as kind
use Rattle.bqn_syntax.specs.grammar.Trees.{pattern_of, Leaf, Nothing}
use Rattle.bqn_syntax.specs.grammar.Items as items
use Rattle.bqn_headers.specs.declared.element.Element.{Element}
use Rattle.bqn_headers.specs.declared.element.Element.TheVariants as element
use Rattle.bqn_headers.specs.declared.element.Item.{Item}
use Rattle.bqn_headers.specs.declared.element.Item.TheVariants as item

abbrev pub is_literal : Kind → Bool
is_literal (kind.Number z) = true
is_literal (kind.Char c) = true
is_literal (kind.Text s) = true
is_literal _ = false

abbrev pub element_shown : Element → items.Element
element_shown (element.Leaf t) = items.OfPart (Leaf t)
element_shown (element.Skip place) = items.OfPart (Nothing place)
element_shown (element.List q) = items.OfList (pattern_of q)

abbrev pub item_shown : Item → items.Item
item_shown (item.Standing x) = items.Standing (element_shown x)
item_shown item.Joining = items.Joining

abbrev pub group_shown : List Element → List items.Element
group_shown = map element_shown

abbrev pub groups_shown : List (List Element) → List (List items.Element)
groups_shown = map group_shown

abbrev pub items_shown : List Item → List items.Item
items_shown = map item_shown
