-- What the open lists of a header are in the definition.
use Rattle.std.specs.Prelude.{List, map, reverse}
use Rattle.bqn_syntax.specs.grammar.Trees.{pattern_of}
use Rattle.bqn_syntax.specs.grammar.Headers as headers
use Rattle.bqn_headers.specs.declared.lists.OpenList.{OpenList}
use Rattle.bqn_headers.specs.declared.lists.Lists.{Lists}
use Rattle.bqn_headers.specs.Elements.{items_shown}

abbrev pub open_shown : OpenList → headers.OpenList
open_shown l = record { pieces = map pattern_of l.pieces.items; items = items_shown l.items }

abbrev pub outer_shown : List OpenList → List headers.OpenList
outer_shown ls = map open_shown (reverse ls)

abbrev pub lists_shown : Lists → headers.Lists
lists_shown ls = headers.lists (open_shown ls.inner) (outer_shown ls.outer.items)
