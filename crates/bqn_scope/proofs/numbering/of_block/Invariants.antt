use Rattle.std.proofs.Common.{◌≡◌, ◌++◌, drop}
use Rattle.bqn_syntax.specs.scope.Bodies.{of_block}
use Rattle.bqn_scope.specs.Numbering.{bodies_shown}
use Rattle.bqn_scope.specs.Shown.{scopes_shown}
use Rattle.bqn_scope.proofs.numbering.of_block.Given as goal

abbrev pub invariant-bodies : goal.invariant-bodies
invariant-bodies l = bodies_shown l.found.items ++ of_block l.parent (scopes_shown (drop l.own-index l.bodies)) ≡ bodies_shown l.initial.found.items ++ of_block l.parent (scopes_shown l.bodies)
