use Rattle.std.proofs.Common.{◌≡◌, drop}
use Rattle.bqn_syntax.specs.scope.Order.{targets_order}
use Rattle.bqn_scope.specs.Shown.{events_backward}
use Rattle.bqn_scope.proofs.order.targets.Given as goal

abbrev pub invariant-loop-target : goal.invariant-loop-target
invariant-loop-target l = targets_order (drop l.target-index l.all) (events_backward l.events.items) ≡ targets_order l.all (events_backward l.initial.events.items)
