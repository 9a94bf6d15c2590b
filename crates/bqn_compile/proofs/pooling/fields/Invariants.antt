use Rattle.std.proofs.Common.{◌≡◌, drop}
use Rattle.bqn_compile.specs.Gathering.{fields}
use Rattle.bqn_compile.specs.Shown.{gathered_shown}
use Rattle.bqn_compile.proofs.pooling.fields.Given as goal

abbrev pub invariant-loop-t : goal.invariant-loop-t
invariant-loop-t l = fields (drop l.t-index l.names) (gathered_shown l.pools) ≡ fields l.names (gathered_shown l.initial.pools)
