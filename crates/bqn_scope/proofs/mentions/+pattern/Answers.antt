use Rattle.bqn_syntax.specs.scope.Mentions.{patterns_mentions}
use Rattle.bqn_syntax.specs.grammar.Trees.{pattern_of, patterns}
use Rattle.bqn_scope.specs.Shown.{how_shown, mentions_backward}
use Rattle.std.proofs.Common.{◌∙◌, ap}
use Rattle.std.proofs.lemmas.Iterator.Adapters.{YieldsList-from_rev_slice}
use Rattle.std.proofs.lemmas.Iterator.Consumers.{YieldsList-end}
use Rattle.bqn_base.proofs.Lists.{all_yielded}
use Rattle.bqn_scope.proofs.mentions.+pattern.Goals as goal

pub patterns-returns : goal.patterns-returns
patterns-returns t c = c.loop-q.invariant ∙ ap (λ xs. patterns_mentions (how_shown c.args.how) (patterns xs) (mentions_backward c.args.mentions.now.items)) (all_yielded pattern_of c.args.all.now c.loop-q.yielded (YieldsList-end (YieldsList-from_rev_slice c.args.all.now cc) c.loop-q.yielded _ c.loop-q.yielded_by _ _ c.in-None.is c.next.ensures.steps).0)
