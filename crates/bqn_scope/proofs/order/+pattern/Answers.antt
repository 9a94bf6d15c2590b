use Rattle.bqn_syntax.specs.scope.Order.{patterns_order}
use Rattle.bqn_syntax.specs.grammar.Trees.{pattern_of, patterns}
use Rattle.bqn_scope.specs.Shown.{how_shown, events_backward}
use Rattle.std.proofs.Common.{◌∙◌, ap}
use Rattle.std.proofs.lemmas.Iterator.Adapters.{YieldsList-from_rev_slice}
use Rattle.std.proofs.lemmas.Iterator.Consumers.{YieldsList-end}
use Rattle.bqn_base.proofs.Lists.{all_yielded}
use Rattle.bqn_scope.proofs.order.+pattern.Goals as goal

pub patterns-returns : goal.patterns-returns
patterns-returns t c = c.loop-q.invariant ∙ ap (λ xs. patterns_order (how_shown c.args.how) (patterns xs) (events_backward c.args.events.now.items)) (all_yielded pattern_of c.args.all.now c.loop-q.yielded (YieldsList-end (YieldsList-from_rev_slice c.args.all.now cc) c.loop-q.yielded _ c.loop-q.yielded_by _ _ c.in-None.is c.next.ensures.steps).0)
