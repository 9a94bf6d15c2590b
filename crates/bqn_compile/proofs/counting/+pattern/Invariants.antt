use Rattle.std.proofs.Common.{◌≡◌, map, drop}
use Rattle.bqn_syntax.specs.grammar.Trees.{pattern_of, patterns}
use Rattle.bqn_compile.specs.Counting.{past, in_all_leaves}
use Rattle.bqn_compile.proofs.counting.+pattern.Given as goal

abbrev pub invariant-all_leaves-loop-q : goal.invariant-all_leaves-loop-q
invariant-all_leaves-loop-q l = past l.so (in_all_leaves (patterns (map pattern_of (drop l.q-index l.all)))) ≡ in_all_leaves (patterns (map pattern_of l.all))
