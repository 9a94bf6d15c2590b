use Rattle.std.proofs.Common.{◌≡◌, drop}
use Rattle.bqn_syntax.specs.scope.Scope.{uses_of, uses_inside}
use Rattle.bqn_scope.specs.Around.{IsBound, bodies_around}
use Rattle.bqn_scope.specs.Scopes.{uses_shown}
use Rattle.bqn_scope.specs.Shown.{mentions_shown, scopes_shown}
use Rattle.bqn_scope.proofs.walk.+walk.Given as goal

abbrev pub invariant-walk-mentions : goal.invariant-walk-mentions
invariant-walk-mentions l = record {
  bound : IsBound l.around;
  same : bodies_around l.around ≡ bodies_around l.initial.around;
  rest : uses_of (bodies_around l.initial.around) (mentions_shown (drop l.m-index l.mentions)) (uses_shown l.uses.items) ≡ uses_of (bodies_around l.initial.around) (mentions_shown l.mentions) (uses_shown l.initial.uses.items);
}

abbrev pub invariant-inside-bodies : goal.invariant-inside-bodies
invariant-inside-bodies l = record {
  bound : IsBound l.around;
  same : bodies_around l.around ≡ bodies_around l.initial.around;
  rest : uses_inside (bodies_around l.initial.around) (scopes_shown (drop l.own-index l.bodies)) (uses_shown l.uses.items) ≡ uses_inside (bodies_around l.initial.around) (scopes_shown l.bodies) (uses_shown l.initial.uses.items);
}
