use Rattle.std.proofs.Common.{◌≡◌, ◌+◌, false, length}
use Rattle.bqn_syntax.specs.grammar.Expressions as expressions
use Rattle.bqn_syntax.specs.grammar.Trees.{and_deriveds, no_deriveds}
use Rattle.bqn_parse.specs.Drafts.{function_of}
use Rattle.bqn_parse.specs.Trains.{parts_shown}
use Rattle.bqn_parse.specs.Views.{backward}
use Rattle.bqn_parse.proofs.reading.train.train.Given as goal

abbrev pub invariant-parts : goal.invariant-parts
invariant-parts l = expressions.train l.any (parts_shown l.parts.items) (backward l.left.items) ≡ expressions.train false (and_deriveds (function_of l.fn.last) no_deriveds) (backward l.fn.left.items)

abbrev pub decreases-parts : goal.decreases-parts
decreases-parts l = length (backward l.left.items) + 1
