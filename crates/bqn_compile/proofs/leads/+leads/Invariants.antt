use Rattle.std.proofs.Common.{◌≡◌, map, drop, length, reverse}
use Rattle.bqn_syntax.specs.blocks.Leads.{steps_lead, uses_lead, deriveds_lead, exprs_lead, parts_lead}
use Rattle.bqn_syntax.specs.grammar.Trees.{step_of, steps, use_of, uses, derived_of, deriveds, expr_of, exprs, part_of, parts}
use Rattle.bqn_compile.proofs.StepLeads.{first_lead}
use Rattle.bqn_compile.proofs.leads.+leads.Given as goal

abbrev pub invariant-steps-loop-s : goal.invariant-steps-loop-s
invariant-steps-loop-s l = first_lead (drop (length l.yielded) (reverse l.all)) ≡ steps_lead (steps (map step_of l.all))

abbrev pub invariant-mod_uses-loop-u : goal.invariant-mod_uses-loop-u
invariant-mod_uses-loop-u l = uses_lead (uses (map use_of (drop l.u-index l.all))) ≡ uses_lead (uses (map use_of l.all))

abbrev pub invariant-deriveds-loop-d : goal.invariant-deriveds-loop-d
invariant-deriveds-loop-d l = deriveds_lead (deriveds (map derived_of (drop l.d-index l.all))) ≡ deriveds_lead (deriveds (map derived_of l.all))

abbrev pub invariant-exprs-loop-e : goal.invariant-exprs-loop-e
invariant-exprs-loop-e l = exprs_lead (exprs (map expr_of (drop l.e-index l.all))) ≡ exprs_lead (exprs (map expr_of l.all))

abbrev pub invariant-parts-loop-x : goal.invariant-parts-loop-x
invariant-parts-loop-x l = parts_lead (parts (map part_of (drop l.x-index l.all))) ≡ parts_lead (parts (map part_of l.all))
