use Rattle.std.proofs.Common.{◌≡◌, ◌+◌, ◌++◌, map, drop}
use Rattle.bqn_syntax.specs.scope.Order.{by_arrow}
use Rattle.bqn_syntax.specs.grammar.Trees.{pattern_of, patterns}
use Rattle.bqn_scope.specs.Scopes.{use_shown}
use Rattle.bqn_code.specs.Plain.{pattern_of as code_of}
use Rattle.bqn_compile.specs.Counting.{in_all_leaves}
use Rattle.bqn_compile.specs.Patterns.{patterns_code}
use Rattle.bqn_compile.specs.Shown.{constants_shown}
use Rattle.bqn_compile.proofs.patterns.+pattern_code.Given as goal

abbrev pub invariant-list_code-loop-q : goal.invariant-list_code-loop-q
invariant-list_code-loop-q l =
    (map code_of l.codes.items ++ patterns_code (map use_shown l.uses) (constants_shown l.pools.constants.keys) l.pools.names (by_arrow l.arrow) l.number (patterns (map pattern_of (drop l.q-index l.all))) ≡ patterns_code (map use_shown l.uses) (constants_shown l.pools.constants.keys) l.pools.names (by_arrow l.arrow) l.initial.number (patterns (map pattern_of l.all)))
    × (l.number + (in_all_leaves (patterns (map pattern_of (drop l.q-index l.all)))).uses ≡ l.initial.number + (in_all_leaves (patterns (map pattern_of l.all))).uses)
