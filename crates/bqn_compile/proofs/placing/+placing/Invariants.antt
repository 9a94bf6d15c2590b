use Rattle.std.proofs.Common.{◌≡◌, ◌++◌, map, drop, reverse}
use Rattle.bqn_syntax.specs.blocks.Leads.{or_next, steps_lead, uses_lead, deriveds_lead, exprs_lead, parts_lead}
use Rattle.bqn_syntax.specs.grammar.Trees.{step_of, steps, use_of, uses, derived_of, deriveds, expr_of, exprs, part_of, parts}
use Rattle.bqn_compile.specs.Expressions.{parts_read}
use Rattle.bqn_compile.specs.Placing.{steps_places, uses_places, deriveds_places, exprs_places, parts_places}
use Rattle.bqn_compile.proofs.placing.+placing.Given as goal

abbrev pub invariant-steps-loop-s : goal.invariant-steps-loop-s
invariant-steps-loop-s l = record {
  places : l.out.items ++ steps_places l.lead (steps (map step_of (drop l.s-index l.all))) ≡ l.initial.out.items ++ steps_places l.lead (steps (map step_of l.all));
  own : or_next (steps_lead (steps (map step_of (drop l.s-index l.all)))) l.own ≡ steps_lead (steps (map step_of l.all));
}

abbrev pub invariant-exprs-loop-e : goal.invariant-exprs-loop-e
invariant-exprs-loop-e l = record {
  places : l.out.items ++ exprs_places l.lead (exprs (map expr_of (drop l.e-index l.all))) ≡ l.initial.out.items ++ exprs_places l.lead (exprs (map expr_of l.all));
  own : or_next l.own (exprs_lead (exprs (map expr_of (drop l.e-index l.all)))) ≡ exprs_lead (exprs (map expr_of l.all));
}

abbrev pub invariant-parts-loop-x : goal.invariant-parts-loop-x
invariant-parts-loop-x l = record {
  places : l.out.items ++ parts_places l.lead (parts (map part_of (drop l.x-index l.all))) ≡ l.initial.out.items ++ parts_places l.lead (parts (map part_of l.all));
  own : or_next l.own (parts_lead (parts (map part_of (drop l.x-index l.all)))) ≡ parts_lead (parts (map part_of l.all));
}

abbrev pub invariant-mod_uses-loop-u : goal.invariant-mod_uses-loop-u
invariant-mod_uses-loop-u l = record {
  places : l.out.items ≡ l.initial.out.items ++ uses_places l.lead (uses (map (λ x. use_of x.now) (reverse l.yielded)));
  own : l.own ≡ uses_lead (uses (map (λ x. use_of x.now) (reverse l.yielded)));
}

abbrev pub invariant-deriveds-loop-d : goal.invariant-deriveds-loop-d
invariant-deriveds-loop-d l = record {
  places : l.out.items ≡ l.initial.out.items ++ deriveds_places l.lead (deriveds (map (λ x. derived_of x.now) (reverse l.yielded)));
  own : l.own ≡ deriveds_lead (deriveds (map (λ x. derived_of x.now) (reverse l.yielded)));
  read : l.read ≡ parts_read (deriveds (map (λ x. derived_of x.now) (reverse l.yielded)));
}
