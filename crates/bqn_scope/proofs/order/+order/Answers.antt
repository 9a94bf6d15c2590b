use Rattle.bqn_syntax.specs.scope.Order.{exprs_order, parts_order, steps_order}
use Rattle.bqn_syntax.specs.grammar.Trees.{expr_of, part_of, step_of, derived_of, exprs, parts, steps}
use Rattle.bqn_scope.specs.Shown.{events_backward}
use Rattle.std.proofs.Common.{◌∙◌, ap}
use Rattle.std.proofs.lemmas.Iterator.Adapters.{YieldsList-from_rev_slice}
use Rattle.std.proofs.lemmas.Iterator.Consumers.{YieldsList-end}
use Rattle.bqn_base.proofs.Lists.{all_yielded}
use Rattle.bqn_syntax.specs.scope.Order.{Changes, leaf_order, derived_order}
use Rattle.bqn_scope.proofs.Unstarted.{on-ok, unstarted-Modify, unstarted-Apply, unstarted-Assign}
use Rattle.bqn_scope.proofs.order.+order.Goals as goal

pub exprs-returns : goal.exprs-returns
exprs-returns t c = c.loop-e.invariant ∙ ap (λ xs. exprs_order (exprs xs) (events_backward c.args.events.now.items)) (all_yielded expr_of c.args.all.now c.loop-e.yielded (YieldsList-end (YieldsList-from_rev_slice c.args.all.now cc) c.loop-e.yielded _ c.loop-e.yielded_by _ _ c.in-None.is c.next.ensures.steps).0)

pub parts-returns : goal.parts-returns
parts-returns t c = c.loop-x.invariant ∙ ap (λ xs. parts_order (parts xs) (events_backward c.args.events.now.items)) (all_yielded part_of c.args.all.now c.loop-x.yielded (YieldsList-end (YieldsList-from_rev_slice c.args.all.now cc) c.loop-x.yielded _ c.loop-x.yielded_by _ _ c.in-None.is c.next.ensures.steps).0)

pub steps_of-returns : goal.steps_of-returns
steps_of-returns t c = c.loop-s.invariant ∙ ap (λ xs. steps_order (steps xs) (events_backward c.args.events.now.items)) (all_yielded step_of c.args.all.now c.loop-s.yielded (YieldsList-end (YieldsList-from_rev_slice c.args.all.now cc) c.loop-s.yielded _ c.loop-s.yielded_by _ _ c.in-None.is c.next.ensures.steps).0)

pub unstarted-returns-in_ok-derived-in-Modify : goal.unstarted-returns-in_ok-derived-in-Modify
unstarted-returns-in_ok-derived-in-Modify t c = on-ok c.leaf.result _ _ _ c.leaf.ensures (ap (leaf_order Changes c.in-Modify.target.kind c.in-Modify.target) (c.in_ok-derived-in-Modify.ensures ∙ ap (derived_order (derived_of c.in-Modify.function)) c.in_ok-steps_of-in-Modify.ensures) ∙ unstarted-Modify c.args.all.now c.in-Some.rest.now c.in-Some.first.now c.in-Modify.target c.in-Modify.function (events_backward c.args.events.now.items) c.in-Some.ensures.cases.0 c.in-Modify.is)

pub unstarted-returns-in-Apply : goal.unstarted-returns-in-Apply
unstarted-returns-in-Apply t c = on-ok c.steps_of-in-Apply.result _ _ _ c.steps_of-in-Apply.ensures (unstarted-Apply c.args.all.now c.in-Some.rest.now c.in-Some.first.now c.in-Apply.function c.in-Apply.left (events_backward c.args.events.now.items) c.in-Some.ensures.cases.0 c.in-Apply.is)

pub unstarted-returns-in-Assign : goal.unstarted-returns-in-Assign
unstarted-returns-in-Assign t c = on-ok c.steps_of-in-Assign.result _ _ _ c.steps_of-in-Assign.ensures (unstarted-Assign c.args.all.now c.in-Some.rest.now c.in-Some.first.now c.in-Assign.target c.in-Assign.arrow (events_backward c.args.events.now.items) c.in-Some.ensures.cases.0 c.in-Assign.is)
