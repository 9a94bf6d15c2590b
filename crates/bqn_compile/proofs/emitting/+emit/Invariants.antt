use Rattle.std.proofs.Common.{◌≡◌, ◌++◌, false, length, map, reverse, drop}
use Rattle.bqn_syntax.specs.grammar.Trees.{expr_of, part_of, step_of, use_of, derived_of, stmt_of, body_of, exprs, parts, steps, uses, deriveds, stmts, bodies}
use Rattle.bqn_compile.specs.Blocks.{bodies_code}
use Rattle.bqn_compile.specs.Walking.{setting_of, names_of, walked, onward, exprs_behind, parts_behind, steps_walk, uses_walk, deriveds_walk, stmts_behind, bodies_behind}
use Rattle.bqn_compile.proofs.emitting.+emit.Given as goal

abbrev pub invariant-list-loop-e : goal.invariant-list-loop-e
invariant-list-loop-e l = exprs_behind (setting_of l.known) (names_of l.known) l.inside (exprs (map expr_of (drop l.e-index l.all))) (onward l.out) ≡ exprs_behind (setting_of l.known) (names_of l.known) l.inside (exprs (map expr_of l.all)) (onward l.initial.out)

abbrev pub invariant-strand-loop-x : goal.invariant-strand-loop-x
invariant-strand-loop-x l = parts_behind (setting_of l.known) (names_of l.known) l.inside (parts (map part_of (drop l.x-index l.all))) (onward l.out) ≡ parts_behind (setting_of l.known) (names_of l.known) l.inside (parts (map part_of l.all)) (onward l.initial.out)

abbrev pub invariant-steps-loop-s : goal.invariant-steps-loop-s
invariant-steps-loop-s l = walked l.out ≡ steps_walk (setting_of l.known) (names_of l.known) l.inside (steps (map (λ x. step_of x.now) (reverse l.yielded))) (walked l.initial.out)

abbrev pub invariant-mod_uses-loop-u : goal.invariant-mod_uses-loop-u
invariant-mod_uses-loop-u l = uses_walk (setting_of l.known) (names_of l.known) l.inside (uses (map use_of (drop l.u-index l.all))) (walked l.out) ≡ uses_walk (setting_of l.known) (names_of l.known) l.inside (uses (map use_of l.all)) (walked l.initial.out)

abbrev pub invariant-deriveds-loop-d : goal.invariant-deriveds-loop-d
invariant-deriveds-loop-d l = record {
  right : l.right ≡ length (drop l.d-index l.all);
  walk : deriveds_walk (setting_of l.known) (names_of l.known) l.inside (deriveds (map derived_of (drop l.d-index l.all))) (walked l.out) ≡ deriveds_walk (setting_of l.known) (names_of l.known) l.inside (deriveds (map derived_of l.all)) (walked l.initial.out);
}

abbrev pub invariant-statements-loop-s : goal.invariant-statements-loop-s
invariant-statements-loop-s l = stmts_behind (setting_of l.known) (names_of l.known) l.inside l.left l.exports (stmts (map stmt_of (drop l.s-index l.all))) (onward l.out) ≡ stmts_behind (setting_of l.known) (names_of l.known) l.inside false l.exports (stmts (map stmt_of l.all)) (onward l.initial.out)

abbrev pub invariant-bodies-loop-b : goal.invariant-bodies-loop-b
invariant-bodies-loop-b l = record {
  walk : bodies_behind (setting_of l.known) (names_of l.known) l.number (bodies (map body_of (drop l.b-index l.all))) (onward l.out) ≡ bodies_behind (setting_of l.known) (names_of l.known) l.first (bodies (map body_of l.all)) (onward l.initial.out);
  made : l.made.items ++ bodies_code (setting_of l.known) (names_of l.known) l.plain l.before l.number (onward l.out).at (bodies (map body_of (drop l.b-index l.all))) ≡ bodies_code (setting_of l.known) (names_of l.known) l.plain 0 l.first (onward l.initial.out).at (bodies (map body_of l.all));
}
