use Rattle.std.proofs.Common.{◌≡◌, drop, slice_get}
use Rattle.bqn_verify.specs.Rows.{rows_of}
use Rattle.bqn_verify.proofs.slots.row_from.Given as goal

abbrev pub invariant-loop-n : goal.invariant-loop-n
invariant-loop-n l = slice_get (rows_of l.n (drop l.n l.blocks)) l.left ≡ slice_get (rows_of l.from (drop l.from l.blocks)) l.behind
