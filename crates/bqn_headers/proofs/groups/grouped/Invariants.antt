use Rattle.std.proofs.Common.{length}
use Rattle.bqn_syntax.specs.grammar.Items.{groups}
use Rattle.bqn_headers.specs.Elements.{items_shown}
use Rattle.bqn_headers.specs.Grouping.{grouping_shown}
use Rattle.bqn_headers.proofs.Grouped.{Left}
use Rattle.bqn_headers.proofs.groups.grouped.Given as goal

abbrev pub decreases-items : goal.decreases-items
decreases-items l = length l.items

abbrev pub invariant-items : goal.invariant-items
invariant-items l = Left (grouping_shown l.grouping) l.items (groups (items_shown l.fn.items))
