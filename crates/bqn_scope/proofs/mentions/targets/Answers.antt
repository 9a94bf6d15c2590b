use Rattle.bqn_syntax.specs.scope.Mentions.{target_mentions}
use Rattle.bqn_scope.specs.Shown.{mentions_backward}
use Rattle.std.proofs.Common.{◌∙◌, ap}
use Rattle.std.proofs.lemmas.Iterator.Adapters.{YieldsList-from_rev_slice}
use Rattle.std.proofs.lemmas.Iterator.Consumers.{YieldsList-end}
use Rattle.bqn_base.proofs.Lists.{all_yielded}
use Rattle.std.proofs.lemmas.List.{map-id}
use Rattle.bqn_scope.proofs.mentions.targets.Goals as goal

pub returns : goal.returns
returns c = c.loop-target.invariant ∙ ap (λ xs. target_mentions xs (mentions_backward c.args.mentions.now.items)) (all_yielded (λ y. y) c.args.all.now c.loop-target.yielded (YieldsList-end (YieldsList-from_rev_slice c.args.all.now cc) c.loop-target.yielded _ c.loop-target.yielded_by _ _ c.in-None.is c.next.ensures.steps).0 ∙ map-id c.args.all.now)
