use Rattle.std.proofs.Common.{◌≡◌, ◌≤◌, ◌+◌, drop, length}
use Rattle.bqn_scope.specs.Bindings.{bindings_shown, bound_by}
use Rattle.bqn_scope.proofs.bindings.Bindings.bind_session.Given as goal

abbrev pub invariant-names : goal.invariant-names
invariant-names l = record {
  inside : l.index ≤ length l.names;
  bound : bindings_shown l.self ≡ bound_by 0 (0 + l.index) (drop l.index l.names) (bindings_shown l.initial.self);
}

abbrev pub decreases-names : goal.decreases-names
decreases-names l = l.index
