use Rattle.std.proofs.Common.{◌∙◌, ap, map, reverse, List, ◌∷◌, ◌++◌, []}
use Rattle.std.proofs.lemmas.Iterator.Adapters.{YieldsList-from_rev_slice}
use Rattle.std.proofs.lemmas.Iterator.Consumers.{YieldsList-end}
use Rattle.std.proofs.lemmas.List.{map-id}
use Rattle.bqn_syntax.specs.declared.token.Token.{Token}
use Rattle.bqn_compile.specs.Expressions.{fields_code}
use Rattle.bqn_compile.specs.Walking.{pushes, setting_of, walked}
use Rattle.bqn_compile.proofs.Walks.{fields-step}
use Rattle.bqn_base.proofs.Lists.{all_yielded, yielded_more}
use Rattle.bqn_compile.proofs.parts.fields.Goals as goal

pub loop-name-preserved : goal.loop-name-preserved
loop-name-preserved c =
    fields-step (walked c.args.out.now) (walked c.loop-name.out) (walked c.push.new.out) c.in_ok-i.i (setting_of c.args.known.now).names c.in-Some.name.now
    (map (λ x. x.now) (reverse c.loop-name.yielded)) (map (λ x. x.now) (reverse (c.loop-name.yielded ++ c.in-Some.name ∷ [])))
    (yielded_more (λ (x : Token). x) c.loop-name.yielded c.in-Some.name) c.in_ok-i.ensures c.loop-name.invariant c.in_ok-push.ensures.walked

pub returns : goal.returns
returns c =
    c.loop-name.invariant
    ∙ ap (λ (ts : List Token). pushes (fields_code (setting_of c.args.known.now).names ts) (walked c.args.out.now))
    (all_yielded (λ (x : Token). x) c.args.all.now c.loop-name.yielded (YieldsList-end (YieldsList-from_rev_slice c.args.all.now cc) c.loop-name.yielded _ c.loop-name.yielded_by _ _ c.in-None.is c.next.ensures.steps).0 ∙ map-id c.args.all.now)
