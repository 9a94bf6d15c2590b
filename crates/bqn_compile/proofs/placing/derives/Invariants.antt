use Rattle.std.proofs.Common.{◌≡◌, ◌++◌, map, drop}
use Rattle.bqn_syntax.specs.grammar.Trees.{use_of, uses}
use Rattle.bqn_compile.specs.Placing.{derives_places}
use Rattle.bqn_compile.proofs.placing.derives.Given as goal

abbrev pub invariant-loop-u : goal.invariant-loop-u
invariant-loop-u l = l.out.items ++ derives_places l.lead (uses (map use_of (drop l.u-index l.all))) ≡ l.initial.out.items ++ derives_places l.lead (uses (map use_of l.all))
