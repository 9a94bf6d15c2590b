use Rattle.std.proofs.Common.{◌≡◌, ◌*◌, ◌^◌, ◌≤◌, drop}
use Rattle.bqn_rows.specs.Limits.{size}
use Rattle.bqn_value.proofs.making.is_within.Given as goal

abbrev pub invariant-loop-axis : goal.invariant-loop-axis
invariant-loop-axis l = (l.product ≤ 2 ^ 22) × (l.product * size (drop l.axis-index l.shape) ≡ size l.shape)
