use Rattle.std.proofs.Common.{◌≡◌, map}
use Rattle.std.specs.Vec.Iter.{into_iter_items}
use Rattle.bqn_syntax.specs.grammar.Items as items
use Rattle.bqn_syntax.specs.grammar.Trees.{part_of}
use Rattle.bqn_parse.specs.Strands.{elements_of}
use Rattle.bqn_parse.proofs.Strands.{behind}
use Rattle.bqn_parse.proofs.reading.strand.element_parts.Given as goal

abbrev pub invariant-elements : goal.invariant-elements
invariant-elements l = behind (map part_of l.parts.items) (items.each items.element_part (elements_of (into_iter_items l.element-iterator))) ≡ items.each items.element_part (elements_of l.fn.elements.items)
