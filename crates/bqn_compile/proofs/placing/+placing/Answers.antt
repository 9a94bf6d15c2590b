use Rattle.std.proofs.Common.{◌≡◌, ◌+◌, ◌∙◌, ap, arith, drop, List, ◌∷◌, ◌++◌}
use Rattle.std.proofs.lemmas.Iterator.Adapters.{YieldsList-from_rev_slice}
use Rattle.std.proofs.lemmas.Iterator.Consumers.{YieldsList-end}
use Rattle.bqn_syntax.specs.blocks.Leads.{or_else, uses_lead, deriveds_lead}
use Rattle.bqn_syntax.specs.grammar.Trees.{Use, Derived, use_of, derived_of, uses, deriveds}
use Rattle.bqn_compile.specs.Expressions.{parts_read}
use Rattle.bqn_compile.specs.Placing.{uses_places, deriveds_places}
use Rattle.bqn_base.proofs.Lists.{all_yielded}
use Rattle.bqn_compile.proofs.Loops.{drop-next}
use Rattle.bqn_compile.proofs.Placings.{on_ok, steps-more, lead-more, unstarted-Apply, unstarted-Assign, unstarted-Modify}
use Rattle.bqn_compile.proofs.placing.+placing.Goals as goal

pub deriveds-returns-clause-places : goal.deriveds-returns-clause-places
deriveds-returns-clause-places t c =
    c.loop-d.invariant.places
    ∙ ap (λ (ds : List Derived). c.args.out.now.items ++ deriveds_places c.args.lead (deriveds ds))
    (all_yielded derived_of c.args.all.now c.loop-d.yielded (YieldsList-end (YieldsList-from_rev_slice c.args.all.now cc) c.loop-d.yielded _ c.loop-d.yielded_by _ _ c.in-None.is c.next.ensures.steps).0)

pub deriveds-returns-clause-read : goal.deriveds-returns-clause-read
deriveds-returns-clause-read t c =
    c.loop-d.invariant.read
    ∙ ap (λ (ds : List Derived). parts_read (deriveds ds))
    (all_yielded derived_of c.args.all.now c.loop-d.yielded (YieldsList-end (YieldsList-from_rev_slice c.args.all.now cc) c.loop-d.yielded _ c.loop-d.yielded_by _ _ c.in-None.is c.next.ensures.steps).0)

pub mod_uses-returns-clause-places : goal.mod_uses-returns-clause-places
mod_uses-returns-clause-places t c =
    c.loop-u.invariant.places
    ∙ ap (λ (us : List Use). c.args.out.now.items ++ uses_places c.args.lead (uses us))
    (all_yielded use_of c.args.all.now c.loop-u.yielded (YieldsList-end (YieldsList-from_rev_slice c.args.all.now cc) c.loop-u.yielded _ c.loop-u.yielded_by _ _ c.in-None.is c.next.ensures.steps).0)

pub mod_uses-returns-clause-own : goal.mod_uses-returns-clause-own
mod_uses-returns-clause-own t c =
    c.loop-u.invariant.own
    ∙ ap (λ (us : List Use). uses_lead (uses us))
    (all_yielded use_of c.args.all.now c.loop-u.yielded (YieldsList-end (YieldsList-from_rev_slice c.args.all.now cc) c.loop-u.yielded _ c.loop-u.yielded_by _ _ c.in-None.is c.next.ensures.steps).0)

pub deriveds-returns-clause-own : goal.deriveds-returns-clause-own
deriveds-returns-clause-own t c =
    c.loop-d.invariant.own
    ∙ ap (λ (ds : List Derived). deriveds_lead (deriveds ds))
    (all_yielded derived_of c.args.all.now c.loop-d.yielded (YieldsList-end (YieldsList-from_rev_slice c.args.all.now cc) c.loop-d.yielded _ c.loop-d.yielded_by _ _ c.in-None.is c.next.ensures.steps).0)

pub steps-loop-s-preserved : goal.steps-loop-s-preserved
steps-loop-s-preserved t c =
    let e : drop c.loop-s.s-index c.args.all.now ≡ c.s-item.result ∷ drop (c.loop-s.s-index + 1) c.args.all.now = drop-next c.args.all.now c.loop-s.s-index c.s-item.result (omega arith) c.s-item.is in
    record {
      places = steps-more c.args.lead (drop c.loop-s.s-index c.args.all.now) (drop (c.loop-s.s-index + 1) c.args.all.now) c.s-item.result c.loop-s.out.items c.step.new.out.items _ e c.in_ok-step.ensures.places c.loop-s.invariant.places;
      own = lead-more c.args.lead (drop c.loop-s.s-index c.args.all.now) (drop (c.loop-s.s-index + 1) c.args.all.now) c.s-item.result c.loop-s.own c.in_ok-step.field-0 c.or_next-own.result _ e c.in_ok-step.ensures.own c.or_next-own.ensures c.loop-s.invariant.own;
    }

pub unstarted-returns-in_ok-before-in-Modify-clause-places : goal.unstarted-returns-in_ok-before-in-Modify-clause-places
unstarted-returns-in_ok-before-in-Modify-clause-places t c =
    c.in_ok-before-in-Modify.ensures.places
    ∙ unstarted-Modify c.args.lead c.args.all.now c.in-Some.rest.now c.in-Some.first.now c.args.out.now.items c.push-in-Modify.new.out.items c.in-Modify.target c.in-Modify.function c.derived.new.out.items c.push-in-Modify-2.new.out.items c.push-in-Modify-3.new.out.items c.or_else.result
    c.in-Some.ensures.cases.0 c.in-Modify.is c.in_ok-push-in-Modify.ensures c.in_ok-own-in-Modify.ensures.places (c.or_else.ensures ∙ ap (or_else c.args.lead) c.in_ok-own-in-Modify.ensures.own) c.in_ok-push-in-Modify-2.ensures c.in_ok-push-in-Modify-3.ensures

pub unstarted-returns-in_ok-push-in-Apply : goal.unstarted-returns-in_ok-push-in-Apply
unstarted-returns-in_ok-push-in-Apply t c = record {
  places = on_ok c.steps-in-Apply.result _ _ _ c.steps-in-Apply.ensures.places
      (unstarted-Apply c.args.lead c.args.all.now c.in-Some.rest.now c.in-Some.first.now c.args.out.now.items c.push-in-Apply.new.out.items c.in-Apply.function c.in-Apply.left c.in-Some.ensures.cases.0 c.in-Apply.is c.in_ok-push-in-Apply.ensures);
  own = c.steps-in-Apply.ensures.own;
}

pub unstarted-returns-in_ok-push-in-Assign : goal.unstarted-returns-in_ok-push-in-Assign
unstarted-returns-in_ok-push-in-Assign t c = record {
  places = on_ok c.steps-in-Assign.result _ _ _ c.steps-in-Assign.ensures.places
      (unstarted-Assign c.args.lead c.args.all.now c.in-Some.rest.now c.in-Some.first.now c.args.out.now.items c.push-in-Assign.new.out.items c.in-Assign.target c.in-Assign.arrow c.in-Some.ensures.cases.0 c.in-Assign.is c.in_ok-push-in-Assign.ensures);
  own = c.steps-in-Assign.ensures.own;
}
