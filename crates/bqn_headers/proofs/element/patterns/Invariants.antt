use Rattle.std.proofs.Common.{true, map, length}
use Rattle.bqn_syntax.specs.grammar.Trees.{pattern_of}
use Rattle.bqn_syntax.specs.grammar.Items as items
use Rattle.bqn_headers.specs.Elements.{group_shown}
use Rattle.bqn_headers.proofs.Patterns.{Gone}
use Rattle.bqn_headers.proofs.element.patterns.Given as goal

abbrev pub decreases-elements : goal.decreases-elements
decreases-elements l = length l.elements

abbrev pub invariant-elements : goal.invariant-elements
invariant-elements l = Gone (map pattern_of l.patterns.items) l.elements (items.each (items.element_pattern true) (group_shown l.fn.elements))
