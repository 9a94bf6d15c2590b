use Rattle.std.proofs.Common.{◌≡◌, map, drop}
use Rattle.bqn_syntax.specs.grammar.Classes as classes
use Rattle.bqn_syntax.specs.grammar.Trees.{expr_of, part_of, step_of, derived_of, use_of, exprs, parts, steps, deriveds, uses}
use Rattle.bqn_parse.specs.Marking.{seen_shown}
use Rattle.bqn_parse.proofs.marks.+marks.Given as goal

abbrev pub invariant-seen_in_exprs-loop-e : goal.invariant-seen_in_exprs-loop-e
invariant-seen_in_exprs-loop-e l = classes.and (seen_shown l.so) (classes.seen_in_exprs (exprs (map expr_of (drop l.e-index l.es)))) ≡ classes.seen_in_exprs (exprs (map expr_of l.es))

abbrev pub invariant-seen_in_uses-loop-u : goal.invariant-seen_in_uses-loop-u
invariant-seen_in_uses-loop-u l = classes.and (seen_shown l.so) (classes.seen_in_uses (uses (map use_of (drop l.u-index l.us)))) ≡ classes.seen_in_uses (uses (map use_of l.us))

abbrev pub invariant-seen_in_parts-loop-x : goal.invariant-seen_in_parts-loop-x
invariant-seen_in_parts-loop-x l = classes.and (seen_shown l.so) (classes.seen_in_parts (parts (map part_of (drop l.x-index l.xs)))) ≡ classes.seen_in_parts (parts (map part_of l.xs))

abbrev pub invariant-seen_in_steps-loop-s : goal.invariant-seen_in_steps-loop-s
invariant-seen_in_steps-loop-s l = classes.and (seen_shown l.so) (classes.seen_in_steps (steps (map step_of (drop l.s-index l.ss)))) ≡ classes.seen_in_steps (steps (map step_of l.ss))

abbrev pub invariant-seen_in_deriveds-loop-d : goal.invariant-seen_in_deriveds-loop-d
invariant-seen_in_deriveds-loop-d l = classes.and (seen_shown l.so) (classes.seen_in_deriveds (deriveds (map derived_of (drop l.d-index l.ds)))) ≡ classes.seen_in_deriveds (deriveds (map derived_of l.ds))
