use Rattle.std.proofs.Common.{◌≡◌, map, drop}
use Rattle.bqn_syntax.specs.blocks.Exporting.{steps_export, uses_export, deriveds_export, exprs_export, parts_export}
use Rattle.bqn_syntax.specs.grammar.Trees.{step_of, steps, use_of, uses, derived_of, deriveds, expr_of, exprs, part_of, parts}
use Rattle.bqn_compile.proofs.exporting.+exports.Given as goal

abbrev pub invariant-steps-loop-s : goal.invariant-steps-loop-s
invariant-steps-loop-s l = steps_export (steps (map step_of (drop l.s-index l.all))) ≡ steps_export (steps (map step_of l.all))

abbrev pub invariant-mod_uses-loop-u : goal.invariant-mod_uses-loop-u
invariant-mod_uses-loop-u l = uses_export (uses (map use_of (drop l.u-index l.all))) ≡ uses_export (uses (map use_of l.all))

abbrev pub invariant-deriveds-loop-d : goal.invariant-deriveds-loop-d
invariant-deriveds-loop-d l = deriveds_export (deriveds (map derived_of (drop l.d-index l.all))) ≡ deriveds_export (deriveds (map derived_of l.all))

abbrev pub invariant-exprs-loop-e : goal.invariant-exprs-loop-e
invariant-exprs-loop-e l = exprs_export (exprs (map expr_of (drop l.e-index l.all))) ≡ exprs_export (exprs (map expr_of l.all))

abbrev pub invariant-parts-loop-x : goal.invariant-parts-loop-x
invariant-parts-loop-x l = parts_export (parts (map part_of (drop l.x-index l.all))) ≡ parts_export (parts (map part_of l.all))
