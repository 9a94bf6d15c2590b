use Rattle.std.proofs.Common.{◌≡◌, map, reverse}
use Rattle.bqn_syntax.specs.scope.Order.{patterns_order}
use Rattle.bqn_syntax.specs.grammar.Trees.{pattern_of, patterns}
use Rattle.bqn_scope.specs.Shown.{how_shown, events_backward}
use Rattle.bqn_scope.proofs.order.+pattern.Given as goal

abbrev pub invariant-patterns-loop-q : goal.invariant-patterns-loop-q
invariant-patterns-loop-q l = events_backward l.events.items ≡ patterns_order (how_shown l.how) (patterns (map (λ x. pattern_of x.now) (reverse l.yielded))) (events_backward l.initial.events.items)
