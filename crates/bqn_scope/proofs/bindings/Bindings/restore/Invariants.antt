use Rattle.std.proofs.Common.{◌≡◌, ◌≤◌, take, length}
use Rattle.bqn_scope.specs.Bindings.{bindings_shown, hidden_shown, unbound}
use Rattle.bqn_scope.proofs.bindings.Bindings.restore.Given as goal

abbrev pub invariant-hidden : goal.invariant-hidden
invariant-hidden l = record {
  inside : l.index ≤ length l.hidden;
  whole : unbound (hidden_shown (take l.index l.hidden)) (bindings_shown l.self) ≡ unbound (hidden_shown l.hidden) (bindings_shown l.initial.self);
}

abbrev pub decreases-hidden : goal.decreases-hidden
decreases-hidden l = l.index
