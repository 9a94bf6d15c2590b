use Rattle.std.proofs.Common.{◌≡◌, ◌≤◌, true, drop, length}
use Rattle.bqn_code.specs.Conditions.{are_distinct}
use Rattle.bqn_verify.specs.Marks.{Heads, Nexts}
use Rattle.bqn_verify.proofs.marks.are_many_distinct.Given as goal

abbrev pub invariant-loop-from : goal.invariant-loop-from
invariant-loop-from l = (are_distinct l.names (drop l.from l.exports) ≡ true) × Heads l.names l.exports l.from l.heads × Nexts l.names l.exports l.next × (l.from ≤ length l.exports) × (length l.heads ≡ 32768) × (length l.next ≡ 65535)

abbrev pub decreases-loop-from : goal.decreases-loop-from
decreases-loop-from l = l.from
