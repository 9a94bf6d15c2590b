use Rattle.std.proofs.Common.{◌≡◌, ◌++◌, map, reverse}
use Rattle.bqn_compile.specs.Placing.{targets_places}
use Rattle.bqn_compile.proofs.placing.targets.Given as goal

abbrev pub invariant-loop-t : goal.invariant-loop-t
invariant-loop-t l = l.out.items ≡ l.initial.out.items ++ targets_places (map (λ x. x.now) (reverse l.yielded))
