use Rattle.std.proofs.Common.{[], ◌∷◌, length, length-append, reverse, sym, ◌∙◌}
use Rattle.std.proofs.lemmas.Iterator.Adapters.{YieldsList-from_rev_slice}
use Rattle.std.proofs.lemmas.Iterator.Consumers.{YieldsList-turn}
use Rattle.bqn_compile.proofs.StepLeads.{first-backward, lead-found, lead-after}
use Rattle.bqn_compile.proofs.leads.+leads.Goals as goal

pub steps-loop-s-init : goal.steps-loop-s-init
steps-loop-s-init t c = first-backward c.args.all.now

pub steps-returns-in-Some-step : goal.steps-returns-in-Some-step
steps-returns-in-Some-step t c =
    lead-found (reverse c.args.all.now) (length c.loop-s.yielded) c.in-Some.s.now c.in-Some-step.p
    (YieldsList-turn (YieldsList-from_rev_slice c.args.all.now cc) c.loop-s.yielded _ c.loop-s.yielded_by _ _ c.in-Some.s c.in-Some.is c.next.ensures.steps).0
    (YieldsList-turn (YieldsList-from_rev_slice c.args.all.now cc) c.loop-s.yielded _ c.loop-s.yielded_by _ _ c.in-Some.s c.in-Some.is c.next.ensures.steps).1
    (sym c.in-Some-step.is ∙ c.step.ensures)
    ∙ c.loop-s.invariant

pub steps-loop-s-preserved : goal.steps-loop-s-preserved
steps-loop-s-preserved t c =
    lead-after (reverse c.args.all.now) (length c.loop-s.yielded) _ c.in-Some.s.now
    (YieldsList-turn (YieldsList-from_rev_slice c.args.all.now cc) c.loop-s.yielded _ c.loop-s.yielded_by _ _ c.in-Some.s c.in-Some.is c.next.ensures.steps).0
    (YieldsList-turn (YieldsList-from_rev_slice c.args.all.now cc) c.loop-s.yielded _ c.loop-s.yielded_by _ _ c.in-Some.s c.in-Some.is c.next.ensures.steps).1
    (sym c.in_default.is ∙ c.step.ensures) (length-append c.loop-s.yielded (c.in-Some.s ∷ []))
    ∙ c.loop-s.invariant
