-- What is being read of a piece.
use Rattle.std.specs.Prelude.{Bool, List, [], ◌∷◌, ◌++◌, map, Option, Some, None}
use Rattle.std.specs.Option.{option_map}
use Rattle.bqn_syntax.specs.grammar.Items as items
use Rattle.bqn_syntax.specs.grammar.Trees.{Pattern}
use Rattle.bqn_parse.specs.declared.item.Element.{Element}
use Rattle.bqn_parse.specs.declared.reading.pattern.Joined.{Joined}
use Rattle.bqn_parse.specs.declared.reading.terms.Reader.{Reader}
use Rattle.bqn_parse.specs.declared.reading.terms.Reading.{Reading}
use Rattle.bqn_parse.specs.declared.reading.terms.Reading.TheVariants as reading
use Rattle.bqn_parse.specs.Drafts.{draft_of}
use Rattle.bqn_parse.specs.Fused.{Piece, piece}
use Rattle.bqn_parse.specs.Grouping.{grouping_shown}
use Rattle.bqn_parse.specs.Views.{element_of}

abbrev pub elements_of : List Element → List items.Element
elements_of all = map element_of all

-- what is being read, after these elements
abbrev pub reading_of : List items.Element → Reading → items.Reading
reading_of joined reading.Between = items.Between
reading_of joined (reading.At x) = items.At joined (element_of x)
reading_of joined reading.Joined = items.Joined joined
reading_of joined (reading.Selected x) = items.Selected joined (draft_of x)

abbrev pub reader_of : Reader → Piece
reader_of reader = piece (grouping_shown reader.grouping) (reading_of (elements_of reader.joined.items) reader.reading)

-- elements that are joined to what follows, and the element after them
pub record Strung : Type 0 where
  pub elements : List items.Element
  pub last : Option items.Element

abbrev pub strung_of : Joined → Strung
strung_of row = record { elements = elements_of row.elements.items; last = option_map element_of row.last }

-- an element, where a joiner or nothing stands before
abbrev pub one_element : List items.Element → Option items.Element → items.Element → Option Strung
one_element xs None y = Some (record { elements = xs; last = Some y })
one_element xs (Some x) y = None

-- a joiner, where an element stands before
abbrev pub one_joiner : List items.Element → Option items.Element → Option Strung
one_joiner xs None = None
one_joiner xs (Some x) = Some (record { elements = xs ++ x ∷ []; last = None })

-- elements and joiners alternate
abbrev pub one_more : Strung → items.Item → Option Strung
one_more so (items.Standing y) = one_element so.elements so.last y
one_more so items.Joining = one_joiner so.elements so.last
one_more so _ = None

-- these elements, each with a joiner after it, before other items
abbrev pub strung : List items.Element → List items.Item → List items.Item
strung [] rest = rest
strung (x ∷ xs) rest = items.Standing x ∷ items.Joining ∷ strung xs rest

abbrev pub behind_last : Option items.Element → List items.Item → List items.Item
behind_last None rest = rest
behind_last (Some x) rest = items.Standing x ∷ rest

-- the items that were read so, before other items
abbrev pub spelled : Strung → List items.Item → List items.Item
spelled so rest = strung so.elements (behind_last so.last rest)

-- the pattern that those items and others are
unfoldable pub spelt : Bool → Strung → List items.Item → Option Pattern
spelt literals so rest = items.piece_pattern literals (spelled so rest)

-- the pattern that those items are by themselves
abbrev pub ended : Bool → List items.Element → Option items.Element → Option Pattern
ended literals xs None = None
ended literals xs (Some x) = items.group_pattern literals (xs ++ x ∷ [])
