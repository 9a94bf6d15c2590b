use Rattle.std.proofs.Common.{◌≡◌, map, drop}
use Rattle.bqn_syntax.specs.grammar.Trees.{pattern_of, patterns}
use Rattle.bqn_compile.specs.Gathering.{all_exported}
use Rattle.bqn_compile.specs.Shown.{gathered_shown}
use Rattle.bqn_compile.proofs.pooling.+exported.Given as goal

abbrev pub invariant-all_exported-loop-q : goal.invariant-all_exported-loop-q
invariant-all_exported-loop-q l = all_exported (patterns (map pattern_of (drop l.q-index l.all))) (gathered_shown l.pools) ≡ all_exported (patterns (map pattern_of l.all)) (gathered_shown l.initial.pools)
