use Rattle.std.proofs.Common.{◌≡◌, map, reverse, drop}
use Rattle.bqn_syntax.specs.scope.Order.{exprs_order, parts_order, steps_order, uses_order, deriveds_order}
use Rattle.bqn_syntax.specs.grammar.Trees.{expr_of, part_of, step_of, derived_of, use_of, exprs, parts, steps, deriveds, uses}
use Rattle.bqn_scope.specs.Shown.{events_backward}
use Rattle.bqn_scope.proofs.order.+order.Given as goal

abbrev pub invariant-exprs-loop-e : goal.invariant-exprs-loop-e
invariant-exprs-loop-e l = events_backward l.events.items ≡ exprs_order (exprs (map (λ x. expr_of x.now) (reverse l.yielded))) (events_backward l.initial.events.items)

abbrev pub invariant-parts-loop-x : goal.invariant-parts-loop-x
invariant-parts-loop-x l = events_backward l.events.items ≡ parts_order (parts (map (λ x. part_of x.now) (reverse l.yielded))) (events_backward l.initial.events.items)

abbrev pub invariant-steps_of-loop-s : goal.invariant-steps_of-loop-s
invariant-steps_of-loop-s l = events_backward l.events.items ≡ steps_order (steps (map (λ x. step_of x.now) (reverse l.yielded))) (events_backward l.initial.events.items)

abbrev pub invariant-uses-loop-u : goal.invariant-uses-loop-u
invariant-uses-loop-u l = uses_order (uses (map use_of (drop l.u-index l.all))) (events_backward l.events.items) ≡ uses_order (uses (map use_of l.all)) (events_backward l.initial.events.items)

abbrev pub invariant-deriveds-loop-d : goal.invariant-deriveds-loop-d
invariant-deriveds-loop-d l = deriveds_order (deriveds (map derived_of (drop l.d-index l.all))) (events_backward l.events.items) ≡ deriveds_order (deriveds (map derived_of l.all)) (events_backward l.initial.events.items)
