use Rattle.std.proofs.Common.{◌≡◌, map, reverse}
use Rattle.bqn_syntax.specs.grammar.Trees.{use_of, uses}
use Rattle.bqn_compile.specs.Expressions.{derives}
use Rattle.bqn_compile.specs.Walking.{pushes, walked}
use Rattle.bqn_compile.proofs.parts.derive.Given as goal

abbrev pub invariant-loop-u : goal.invariant-loop-u
invariant-loop-u l = walked l.out ≡ pushes (derives (uses (map (λ x. use_of x.now) (reverse l.yielded)))) (walked l.initial.out)
