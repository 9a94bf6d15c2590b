use Rattle.std.proofs.Common.{◌≡◌, drop}
use Rattle.bqn_syntax.specs.scope.Bodies.{inside, inside_block}
use Rattle.bqn_scope.specs.Numbering.{bodies_shown}
use Rattle.bqn_scope.specs.Shown.{mentions_shown, scopes_shown}
use Rattle.bqn_scope.proofs.numbering.+numbering.Given as goal

abbrev pub invariant-inside-mentions : goal.invariant-inside-mentions
invariant-inside-mentions l = inside l.number (mentions_shown (drop l.mention-index l.mentions)) (bodies_shown l.found.items) ≡ inside l.number (mentions_shown l.mentions) (bodies_shown l.initial.found.items)

abbrev pub invariant-inside_block-bodies : goal.invariant-inside_block-bodies
invariant-inside_block-bodies l = inside_block l.number (scopes_shown (drop l.own-index l.bodies)) (bodies_shown l.found.items) ≡ inside_block l.initial.number (scopes_shown l.bodies) (bodies_shown l.initial.found.items)
