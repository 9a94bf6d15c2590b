use Rattle.bqn_syntax.specs.scope.Mentions.{exprs_mentions, parts_mentions, uses_mentions, deriveds_mentions, stmts_mentions, scopes_of}
use Rattle.bqn_syntax.specs.grammar.Trees.{expr_of, part_of, derived_of, use_of, stmt_of, exprs, parts, deriveds, uses, stmts, bodies, body_of}
use Rattle.bqn_scope.specs.Shown.{mentions_backward}
use Rattle.std.proofs.Common.{◌∙◌, ap}
use Rattle.std.proofs.lemmas.Iterator.Adapters.{YieldsList-from_rev_slice}
use Rattle.std.proofs.lemmas.Iterator.Consumers.{YieldsList-end}
use Rattle.bqn_base.proofs.Lists.{all_yielded}
use Rattle.bqn_scope.specs.Shown.{scopes_shown}
use Rattle.bqn_scope.proofs.mentions.+mentions.Goals as goal

pub exprs-returns : goal.exprs-returns
exprs-returns t c = c.loop-e.invariant ∙ ap (λ xs. exprs_mentions (exprs xs) (mentions_backward c.args.mentions.now.items)) (all_yielded expr_of c.args.all.now c.loop-e.yielded (YieldsList-end (YieldsList-from_rev_slice c.args.all.now cc) c.loop-e.yielded _ c.loop-e.yielded_by _ _ c.in-None.is c.next.ensures.steps).0)

pub parts-returns : goal.parts-returns
parts-returns t c = c.loop-x.invariant ∙ ap (λ xs. parts_mentions (parts xs) (mentions_backward c.args.mentions.now.items)) (all_yielded part_of c.args.all.now c.loop-x.yielded (YieldsList-end (YieldsList-from_rev_slice c.args.all.now cc) c.loop-x.yielded _ c.loop-x.yielded_by _ _ c.in-None.is c.next.ensures.steps).0)

pub uses-returns : goal.uses-returns
uses-returns t c = c.loop-u.invariant ∙ ap (λ xs. uses_mentions (uses xs) (mentions_backward c.args.mentions.now.items)) (all_yielded use_of c.args.all.now c.loop-u.yielded (YieldsList-end (YieldsList-from_rev_slice c.args.all.now cc) c.loop-u.yielded _ c.loop-u.yielded_by _ _ c.in-None.is c.next.ensures.steps).0)

pub deriveds-returns : goal.deriveds-returns
deriveds-returns t c = c.loop-d.invariant ∙ ap (λ xs. deriveds_mentions (deriveds xs) (mentions_backward c.args.mentions.now.items)) (all_yielded derived_of c.args.all.now c.loop-d.yielded (YieldsList-end (YieldsList-from_rev_slice c.args.all.now cc) c.loop-d.yielded _ c.loop-d.yielded_by _ _ c.in-None.is c.next.ensures.steps).0)

pub statements-returns : goal.statements-returns
statements-returns t c = c.loop-s.invariant ∙ ap (λ xs. stmts_mentions (stmts xs) (mentions_backward c.args.mentions.now.items)) (all_yielded stmt_of c.args.all.now c.loop-s.yielded (YieldsList-end (YieldsList-from_rev_slice c.args.all.now cc) c.loop-s.yielded _ c.loop-s.yielded_by _ _ c.in-None.is c.next.ensures.steps).0)

pub bodies-returns : goal.bodies-returns
bodies-returns t c = ap scopes_shown (c.new.ensures ∙ c.reverse.ensures.items) ∙ c.loop-b.invariant ∙ ap (λ xs. scopes_of (bodies xs)) (all_yielded body_of c.args.all.now c.loop-b.yielded (YieldsList-end (YieldsList-from_rev_slice c.args.all.now cc) c.loop-b.yielded _ c.loop-b.yielded_by _ _ c.in-None.is c.next.ensures.steps).0)
