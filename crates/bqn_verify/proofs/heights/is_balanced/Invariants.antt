use Rattle.std.proofs.Common.{◌≡◌, ◌≤◌, ◌-◌, drop, length}
use Rattle.bqn_code.specs.Heights.{is_balanced}
use Rattle.bqn_verify.proofs.heights.is_balanced.Given as goal

abbrev pub invariant-loop-at : goal.invariant-loop-at
invariant-loop-at l = (is_balanced 0 l.code ≡ is_balanced l.height (drop l.at l.code)) × (l.height ≤ l.at)

abbrev pub decreases-loop-at : goal.decreases-loop-at
decreases-loop-at l = length l.code - l.at
