use Rattle.std.proofs.Common.{◌≡◌, map, reverse}
use Rattle.bqn_syntax.specs.scope.Order.{stmts_order}
use Rattle.bqn_syntax.specs.grammar.Trees.{stmt_of, stmts}
use Rattle.bqn_scope.specs.Shown.{events_backward}
use Rattle.bqn_scope.proofs.order.statements.Given as goal

abbrev pub invariant-loop-s : goal.invariant-loop-s
invariant-loop-s l = events_backward l.events.items ≡ stmts_order (stmts (map (λ x. stmt_of x.now) (reverse l.yielded))) (events_backward l.initial.events.items)
