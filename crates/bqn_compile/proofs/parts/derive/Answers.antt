use Rattle.std.proofs.Common.{◌∙◌, ap, map, reverse, List, ◌∷◌, ◌++◌, []}
use Rattle.std.proofs.lemmas.Iterator.Adapters.{YieldsList-from_rev_slice}
use Rattle.std.proofs.lemmas.Iterator.Consumers.{YieldsList-end}
use Rattle.bqn_syntax.specs.grammar.Trees.{Use, use_of, uses}
use Rattle.bqn_compile.specs.Expressions.{derives}
use Rattle.bqn_compile.specs.Walking.{pushes, walked}
use Rattle.bqn_compile.proofs.Walks.{derive-step}
use Rattle.bqn_base.proofs.Lists.{all_yielded, yielded_more}
use Rattle.bqn_compile.proofs.parts.derive.Goals as goal

pub loop-u-preserved : goal.loop-u-preserved
loop-u-preserved c =
    derive-step (walked c.args.out.now) (walked c.loop-u.out) (walked c.push.new.out) c.derived_instr.result (use_of c.in-Some.u.now)
    (map (λ x. use_of x.now) (reverse c.loop-u.yielded)) (map (λ x. use_of x.now) (reverse (c.loop-u.yielded ++ c.in-Some.u ∷ [])))
    (yielded_more use_of c.loop-u.yielded c.in-Some.u) c.derived_instr.ensures c.loop-u.invariant c.in_ok-push.ensures.walked

pub returns : goal.returns
returns c =
    c.loop-u.invariant
    ∙ ap (λ (us : List Use). pushes (derives (uses us)) (walked c.args.out.now))
    (all_yielded use_of c.args.all.now c.loop-u.yielded (YieldsList-end (YieldsList-from_rev_slice c.args.all.now cc) c.loop-u.yielded _ c.loop-u.yielded_by _ _ c.in-None.is c.next.ensures.steps).0)
