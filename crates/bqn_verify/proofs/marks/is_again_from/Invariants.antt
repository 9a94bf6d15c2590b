use Rattle.std.proofs.Common.{◌≡◌, ◌-◌, drop, length}
use Rattle.bqn_verify.specs.Marks.{is_again}
use Rattle.bqn_verify.proofs.marks.is_again_from.Given as goal

abbrev pub invariant-loop-at : goal.invariant-loop-at
invariant-loop-at l = is_again l.names l.name (drop l.at l.exports) ≡ is_again l.names l.name (drop l.from l.exports)

abbrev pub decreases-loop-at : goal.decreases-loop-at
decreases-loop-at l = length l.exports - l.at
