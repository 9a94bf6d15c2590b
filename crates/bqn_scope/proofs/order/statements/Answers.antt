use Rattle.bqn_syntax.specs.scope.Order.{stmts_order}
use Rattle.bqn_syntax.specs.grammar.Trees.{stmt_of, stmts}
use Rattle.bqn_scope.specs.Shown.{events_backward}
use Rattle.std.proofs.Common.{◌∙◌, ap}
use Rattle.std.proofs.lemmas.Iterator.Adapters.{YieldsList-from_rev_slice}
use Rattle.std.proofs.lemmas.Iterator.Consumers.{YieldsList-end}
use Rattle.bqn_base.proofs.Lists.{all_yielded}
use Rattle.bqn_scope.proofs.order.statements.Goals as goal

pub returns : goal.returns
returns c = c.loop-s.invariant ∙ ap (λ xs. stmts_order (stmts xs) (events_backward c.args.events.now.items)) (all_yielded stmt_of c.args.all.now c.loop-s.yielded (YieldsList-end (YieldsList-from_rev_slice c.args.all.now cc) c.loop-s.yielded _ c.loop-s.yielded_by _ _ c.in-None.is c.next.ensures.steps).0)
