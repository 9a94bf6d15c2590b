use Rattle.std.proofs.Common.{◌≡◌, [], length, reverse}
use Rattle.bqn_syntax.specs.grammar.Expressions as expressions
use Rattle.bqn_parse.specs.Views.{backward}
use Rattle.bqn_parse.proofs.reading.targets.targets.Given as goal

abbrev pub invariant-targets : goal.invariant-targets
invariant-targets l = expressions.targets l.tag (reverse l.found.items) (backward l.left.items) ≡ expressions.targets l.tag [] (backward l.fn.left.items)

abbrev pub decreases-targets : goal.decreases-targets
decreases-targets l = length (backward l.left.items)
