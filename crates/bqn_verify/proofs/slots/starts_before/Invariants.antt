use Rattle.std.proofs.Common.{◌≤◌, length}
use Rattle.bqn_verify.proofs.slots.starts_before.Given as goal

abbrev pub invariant-loop-left : goal.invariant-loop-left
invariant-loop-left l = (l.left ≤ l.many) × (l.many ≤ length l.starts)

abbrev pub decreases-loop-left : goal.decreases-loop-left
decreases-loop-left l = l.left
