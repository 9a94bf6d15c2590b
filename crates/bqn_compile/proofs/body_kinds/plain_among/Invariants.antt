use Rattle.std.proofs.Common.{◌≡◌, map, reverse}
use Rattle.bqn_syntax.specs.blocks.Blocks.{plain_in}
use Rattle.bqn_syntax.specs.grammar.Trees.{body_of, bodies}
use Rattle.bqn_compile.proofs.body_kinds.plain_among.Given as goal

abbrev pub invariant-loop-b : goal.invariant-loop-b
invariant-loop-b l = l.many ≡ plain_in (bodies (map (λ x. body_of x.now) (reverse l.yielded)))
