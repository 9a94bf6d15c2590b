use Rattle.std.proofs.Common.{◌≡◌, map, drop}
use Rattle.bqn_syntax.specs.grammar.Trees.{step_of, use_of, derived_of, expr_of, part_of, stmt_of, body_of}
use Rattle.bqn_syntax.specs.grammar.Trees as plain
use Rattle.bqn_scope.specs.Scopes.{use_shown}
use Rattle.bqn_compile.specs.Gathering.{the_most, steps, mod_uses, deriveds, exprs, parts, stmts, bodies}
use Rattle.bqn_compile.specs.Shown.{gathered_shown}
use Rattle.bqn_compile.proofs.gathering.+gather.Given as goal

abbrev pub invariant-steps-loop-s : goal.invariant-steps-loop-s
invariant-steps-loop-s l = steps the_most (map use_shown l.uses) (plain.steps (map step_of l.s-iterator.iter.rest.now)) (gathered_shown l.pools) ≡ steps the_most (map use_shown l.uses) (plain.steps (map step_of l.all)) (gathered_shown l.initial.pools)

abbrev pub invariant-mod_uses-loop-u : goal.invariant-mod_uses-loop-u
invariant-mod_uses-loop-u l = mod_uses the_most (map use_shown l.uses) (plain.uses (map use_of (drop l.u-index l.all))) (gathered_shown l.pools) ≡ mod_uses the_most (map use_shown l.uses) (plain.uses (map use_of l.all)) (gathered_shown l.initial.pools)

abbrev pub invariant-deriveds-loop-d : goal.invariant-deriveds-loop-d
invariant-deriveds-loop-d l = deriveds the_most (map use_shown l.uses) (plain.deriveds (map derived_of (drop l.d-index l.all))) (gathered_shown l.pools) ≡ deriveds the_most (map use_shown l.uses) (plain.deriveds (map derived_of l.all)) (gathered_shown l.initial.pools)

abbrev pub invariant-exprs-loop-e : goal.invariant-exprs-loop-e
invariant-exprs-loop-e l = exprs the_most (map use_shown l.uses) (plain.exprs (map expr_of (drop l.e-index l.all))) (gathered_shown l.pools) ≡ exprs the_most (map use_shown l.uses) (plain.exprs (map expr_of l.all)) (gathered_shown l.initial.pools)

abbrev pub invariant-parts-loop-x : goal.invariant-parts-loop-x
invariant-parts-loop-x l = parts the_most (map use_shown l.uses) (plain.parts (map part_of (drop l.x-index l.all))) (gathered_shown l.pools) ≡ parts the_most (map use_shown l.uses) (plain.parts (map part_of l.all)) (gathered_shown l.initial.pools)

abbrev pub invariant-stmts-loop-s : goal.invariant-stmts-loop-s
invariant-stmts-loop-s l = stmts the_most (map use_shown l.uses) (plain.stmts (map stmt_of (drop l.s-index l.all))) (gathered_shown l.pools) ≡ stmts the_most (map use_shown l.uses) (plain.stmts (map stmt_of l.all)) (gathered_shown l.initial.pools)

abbrev pub invariant-bodies-loop-b : goal.invariant-bodies-loop-b
invariant-bodies-loop-b l = bodies the_most (map use_shown l.uses) (plain.bodies (map body_of (drop l.b-index l.all))) (gathered_shown l.pools) ≡ bodies the_most (map use_shown l.uses) (plain.bodies (map body_of l.all)) (gathered_shown l.initial.pools)
