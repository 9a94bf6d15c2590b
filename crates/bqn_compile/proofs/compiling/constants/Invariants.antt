use Rattle.std.proofs.Common.{◌≡◌, take}
use Rattle.bqn_compile.specs.Shown.{constants_shown}
use Rattle.bqn_compile.proofs.compiling.constants.Given as goal

abbrev pub invariant-loop-key : goal.invariant-loop-key
invariant-loop-key l = l.all.items ≡ constants_shown (take l.key-index l.keys)
