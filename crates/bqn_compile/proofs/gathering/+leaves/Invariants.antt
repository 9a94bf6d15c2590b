use Rattle.std.proofs.Common.{◌≡◌, map, drop}
use Rattle.bqn_syntax.specs.scope.Order.{by_arrow}
use Rattle.bqn_syntax.specs.grammar.Trees.{pattern_of, patterns}
use Rattle.bqn_scope.specs.Scopes.{use_shown}
use Rattle.bqn_compile.specs.Gathering.{the_most, all_leaves}
use Rattle.bqn_compile.specs.Shown.{gathered_shown}
use Rattle.bqn_compile.proofs.gathering.+leaves.Given as goal

abbrev pub invariant-all_leaves-loop-q : goal.invariant-all_leaves-loop-q
invariant-all_leaves-loop-q l = all_leaves the_most (map use_shown l.uses) (by_arrow l.arrow) (patterns (map pattern_of (drop l.q-index l.all))) (gathered_shown l.pools) ≡ all_leaves the_most (map use_shown l.uses) (by_arrow l.arrow) (patterns (map pattern_of l.all)) (gathered_shown l.initial.pools)
