use Rattle.std.proofs.Common.{◌≡◌, length, reverse}
use Rattle.bqn_parse.specs.Fused.{units_with}
use Rattle.bqn_parse.specs.Strands.{reader_of}
use Rattle.bqn_parse.specs.Views.{items_of}
use Rattle.bqn_parse.proofs.reading.terms.read_all.Given as goal

abbrev pub decreases-items : goal.decreases-items
decreases-items l = length l.items.items

abbrev pub invariant-items : goal.invariant-items
invariant-items l = units_with (reader_of l.reader) (items_of (reverse l.items.items)) ≡ units_with (reader_of l.fn.reader) (items_of (reverse l.fn.items.items))
