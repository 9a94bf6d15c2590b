use Rattle.std.proofs.Common.{◌≡◌, map, drop}
use Rattle.bqn_scope.specs.Scopes.{use_shown}
use Rattle.bqn_compile.specs.Gathering.{the_most, targets}
use Rattle.bqn_compile.specs.Shown.{gathered_shown}
use Rattle.bqn_compile.proofs.gathering.targets.Given as goal

abbrev pub invariant-loop-t : goal.invariant-loop-t
invariant-loop-t l = targets the_most (map use_shown l.uses) (drop l.t-index l.all) (gathered_shown l.pools) ≡ targets the_most (map use_shown l.uses) l.all (gathered_shown l.initial.pools)
