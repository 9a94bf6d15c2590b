use Rattle.std.proofs.Common.{◌≡◌, map}
use Rattle.bqn_syntax.specs.grammar.Trees.{step_of}
use Rattle.bqn_parse.specs.Leftward.{left_of, left_shown}
use Rattle.bqn_parse.specs.Views.{backward}
use Rattle.bqn_parse.proofs.reading.value_steps.all_steps.Given as goal

abbrev pub invariant-steps : goal.invariant-steps
invariant-steps l = left_shown l.so (map step_of l.steps.items) (backward l.left.items) ≡ left_shown l.fn.first (map step_of l.fn.steps.items) (backward l.fn.left.items)

abbrev pub decreases-steps : goal.decreases-steps
decreases-steps l = left_of l.so (backward l.left.items)
