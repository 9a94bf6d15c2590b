use Rattle.std.proofs.Common.{◌≡◌, length, reverse}
use Rattle.bqn_parse.specs.Strands.{spelt, strung_of}
use Rattle.bqn_parse.specs.Views.{items_of}
use Rattle.bqn_parse.proofs.reading.pattern.read_all.Given as goal

abbrev pub decreases-items : goal.decreases-items
decreases-items l = length l.items.items

abbrev pub invariant-items : goal.invariant-items
invariant-items l = spelt l.literals (strung_of l.row) (items_of (reverse l.items.items)) ≡ spelt l.literals (strung_of l.fn.row) (items_of (reverse l.fn.items.items))
