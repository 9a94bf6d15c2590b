use Rattle.std.proofs.Common.{◌∙◌, ap, List, ◌++◌}
use Rattle.std.proofs.lemmas.Iterator.Adapters.{YieldsList-from_rev_slice}
use Rattle.std.proofs.lemmas.Iterator.Consumers.{YieldsList-end}
use Rattle.std.proofs.lemmas.List.{map-id}
use Rattle.bqn_syntax.specs.declared.token.Token.{Token}
use Rattle.bqn_syntax.specs.declared.tree.Arrow.{Arrow}
use Rattle.bqn_compile.specs.Placing.{targets_places}
use Rattle.bqn_base.proofs.Lists.{all_yielded}
use Rattle.bqn_compile.proofs.placing.targets.Goals as goal

pub returns : goal.returns
returns c =
    c.loop-t.invariant
    ∙ ap (λ (ts : List (Token × Arrow)). c.args.out.now.items ++ targets_places ts)
    (all_yielded (λ (x : Token × Arrow). x) c.args.all.now c.loop-t.yielded (YieldsList-end (YieldsList-from_rev_slice c.args.all.now cc) c.loop-t.yielded _ c.loop-t.yielded_by _ _ c.in-None.is c.next.ensures.steps).0 ∙ map-id c.args.all.now)
