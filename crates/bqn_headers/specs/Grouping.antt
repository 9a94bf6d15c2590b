-- Items that are grouped one by one, from the left.
use Rattle.std.specs.Prelude.{Bool, true, false, List, [], ◌∷◌, ◌++◌, Option, Some, None}
use Rattle.std.specs.Option.{option_and_then}
use Rattle.bqn_syntax.specs.grammar.Items.{Element, Item, Standing, Joining}
use Rattle.bqn_headers.specs.declared.groups.Grouping.{Grouping as CodeGrouping}
use Rattle.bqn_headers.specs.Elements.{group_shown, groups_shown}

-- the groups that are whole, the one that may go on, and whether a `‿` stands after it
pub record Grouping : Type 0 where
  pub done : List (List Element)
  pub current : List Element
  pub joins : Bool

abbrev pub grouping : List (List Element) → List Element → Bool → Grouping
grouping done current joins = record { done = done; current = current; joins = joins }

abbrev pub grouping_shown : CodeGrouping → Grouping
grouping_shown g = grouping (groups_shown g.done) (group_shown g.current) g.joins

-- the group that may go on is whole; before the first element there is none
abbrev pub closed : List (List Element) → List Element → List (List Element)
closed done [] = done
closed done (x ∷ xs) = done ++ (x ∷ xs) ∷ []

abbrev pub with_element : Bool → List (List Element) → List Element → Element → Grouping
with_element true done current x = grouping done (current ++ x ∷ []) false
with_element false done current x = grouping (closed done current) (x ∷ []) false

abbrev pub with_joiner : Bool → List (List Element) → List Element → Option Grouping
with_joiner false done (x ∷ xs) = Some (grouping done (x ∷ xs) true)
with_joiner _ done _ = None

abbrev pub taken : Grouping → Item → Option Grouping
taken g (Standing x) = Some (with_element g.joins g.done g.current x)
taken g Joining = with_joiner g.joins g.done g.current
taken g _ = None

abbrev pub ended : Bool → List (List Element) → List Element → Option (List (List Element))
ended true done current = None
ended false done current = Some (closed done current)

abbrev pub resumed : Grouping → List Item → Option (List (List Element))
resumed g [] = ended g.joins g.done g.current
resumed g (item ∷ items) = option_and_then (λ next. resumed next items) (taken g item)
