use Rattle.std.proofs.Common.{◌≡◌, drop}
use Rattle.bqn_compile.specs.Walking.{setting_of, targets_walk, walked}
use Rattle.bqn_compile.proofs.walk.targets.Given as goal

abbrev pub invariant-loop-t : goal.invariant-loop-t
invariant-loop-t l = targets_walk (setting_of l.known) (drop l.t-index l.all) (walked l.out) ≡ targets_walk (setting_of l.known) l.all (walked l.initial.out)
