-- What the tokens after a bracket say of it: whether a list stands before an arrow, and whether its piece is a header.
use Rattle.std.specs.Prelude.{Bool, true, false, List, [], ◌∷◌}
use Rattle.bqn_syntax.specs.declared.token.Token.{Token}
use Rattle.bqn_syntax.specs.declared.sort.Sort.{Sort}
use Rattle.bqn_syntax.specs.declared.sort.Sort.TheVariants.{Opens, Closes, Separates, Draws, Joins, Selects, Ends, Heads, Asks, Skips, Stands}
use Rattle.bqn_syntax.specs.grammar.Sorts.{sort_of}

-- what stands from a place on
pub record Ahead : Type 0 where
  -- joined elements, if any, and then an arrow
  pub arrow : Bool
  -- an element, and then these
  pub element : Bool
  -- the rest of a piece that ends in `:`
  pub colon : Bool

abbrev pub ahead : Bool → Bool → Bool → Ahead
ahead arrow element colon = record { arrow = arrow; element = element; colon = colon }

-- what stands here, and after each bracket that closes but does not open from here on, the innermost first
pub record Looks : Type 0 where
  pub here : Ahead
  pub outer : List Ahead

abbrev pub first_of : List Ahead → Ahead
first_of [] = ahead false false false
first_of (a ∷ more) = a

abbrev pub rest_of : List Ahead → List Ahead
rest_of [] = []
rest_of (a ∷ more) = more

abbrev pub looks : Ahead → List Ahead → Looks
looks here outer = record { here = here; outer = outer }

-- with one more token in front; an element is one token or one pair of brackets
abbrev pub look : Sort → Looks → Looks
look (Opens b) l = looks (ahead false (first_of l.outer).arrow (first_of l.outer).colon) (rest_of l.outer)
look (Closes b) l = looks (ahead false false false) (l.here ∷ l.outer)
look Separates l = looks (ahead false false false) l.outer
look Ends l = looks (ahead false false false) l.outer
look Asks l = looks (ahead false false false) l.outer
look Heads l = looks (ahead false false true) l.outer
look (Draws a) l = looks (ahead true false l.here.colon) l.outer
look Joins l = looks (ahead l.here.element false l.here.colon) l.outer
look Selects l = looks (ahead false false l.here.colon) l.outer
look Skips l = looks (ahead false l.here.arrow l.here.colon) l.outer
look Stands l = looks (ahead false l.here.arrow l.here.colon) l.outer

abbrev pub looks_of : List Token → Looks
looks_of [] = looks (ahead false false false) []
looks_of (t ∷ tokens) = look (sort_of t.kind) (looks_of tokens)

-- what stands after the bracket that closes the one that these tokens stand after
abbrev pub behind_group : List Token → Ahead
behind_group tokens = first_of (looks_of tokens).outer
