use Rattle.std.proofs.Common.{◌≡◌, ◌≤◌, length}
use Rattle.bqn_verify.specs.Rows.{rows_of, up_in}
use Rattle.bqn_verify.proofs.slots.slots_up.Given as goal

abbrev pub invariant-loop-up : goal.invariant-loop-up
invariant-loop-up l = (up_in (rows_of 0 l.blocks) l.up l.number ≡ up_in (rows_of 0 l.blocks) l.initial.up l.initial.number) × (l.many ≤ length l.starts)

abbrev pub decreases-loop-up : goal.decreases-loop-up
decreases-loop-up l = l.up
