use Rattle.std.proofs.Common.{◌≡◌, ◌≤◌, ◌+◌, drop, length}
use Rattle.bqn_scope.specs.Bindings.{bindings_shown, bound_by, hidden_by, hidden_shown}
use Rattle.bqn_scope.specs.Tokens.{tokens_shown, names_of_tokens}
use Rattle.bqn_scope.proofs.bindings.Bindings.bind.Given as goal

abbrev pub invariant-tokens : goal.invariant-tokens
invariant-tokens l = record {
  inside : l.index ≤ length l.tokens;
  bound : bindings_shown l.self ≡ bound_by l.level (l.first + l.index) (drop l.index (names_of_tokens (tokens_shown l.tokens))) (bindings_shown l.initial.self);
  hidden : hidden_shown l.hidden.items ≡ hidden_by l.level (l.first + l.index) (drop l.index (names_of_tokens (tokens_shown l.tokens))) (bindings_shown l.initial.self);
}

abbrev pub decreases-tokens : goal.decreases-tokens
decreases-tokens l = l.index
