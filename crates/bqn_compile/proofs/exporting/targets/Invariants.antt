use Rattle.std.proofs.Common.{◌≡◌, drop}
use Rattle.bqn_syntax.specs.blocks.Exporting.{targets_export}
use Rattle.bqn_compile.proofs.exporting.targets.Given as goal

abbrev pub invariant-loop-t : goal.invariant-loop-t
invariant-loop-t l = targets_export (drop l.t-index l.all) ≡ targets_export l.all
