use Rattle.std.proofs.Common.{◌≡◌, ◌++◌, drop, length}
use Rattle.bqn_syntax.specs.scope.Scope.{too_early}
use Rattle.bqn_scope.specs.Shown.{events_shown}
use Rattle.bqn_scope.specs.Tokens.{tokens_shown}
use Rattle.bqn_scope.specs.Waiting.{kept}
use Rattle.bqn_scope.proofs.early.too_early.Given as goal

abbrev pub invariant-order : goal.invariant-order
invariant-order l = record {
  room : length l.waiting.items ≡ length (tokens_shown l.defined.places.tokens.items);
  whole : tokens_shown l.early.items ++ too_early (kept l.waiting.items (tokens_shown l.defined.places.tokens.items)) (events_shown (drop l.event-index l.order)) ≡ too_early (tokens_shown l.defined.places.tokens.items) (events_shown l.order);
}
