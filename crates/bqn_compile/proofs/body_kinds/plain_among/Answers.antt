use Rattle.std.proofs.Common.{◌∙◌, ap, List}
use Rattle.std.proofs.lemmas.Iterator.Adapters.{YieldsList-from_rev_slice}
use Rattle.std.proofs.lemmas.Iterator.Consumers.{YieldsList-end}
use Rattle.bqn_syntax.specs.blocks.Blocks.{plain_in}
use Rattle.bqn_syntax.specs.grammar.Trees.{BodyTree, body_of, bodies}
use Rattle.bqn_base.proofs.Lists.{all_yielded}
use Rattle.bqn_compile.proofs.body_kinds.plain_among.Goals as goal

pub returns : goal.returns
returns c =
    c.loop-b.invariant
    ∙ ap (λ (bs : List BodyTree). plain_in (bodies bs))
    (all_yielded body_of c.args.all.now c.loop-b.yielded (YieldsList-end (YieldsList-from_rev_slice c.args.all.now cc) c.loop-b.yielded _ c.loop-b.yielded_by _ _ c.in-None.is c.next.ensures.steps).0)
