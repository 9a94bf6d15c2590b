use Rattle.std.proofs.Common.{◌≡◌, ◌≤◌, ◌*◌, ◌^◌, drop}
use Rattle.bqn_code.specs.Conditions.{have_parents}
use Rattle.bqn_verify.specs.Judged.{parents_in}
use Rattle.bqn_verify.proofs.program.have_parents.Given as goal

abbrev pub invariant-loop-i : goal.invariant-loop-i
invariant-loop-i l = (have_parents l.before (drop l.i l.blocks) ≡ parents_in l.blocks) × (l.before ≤ 2 ^ 32 * l.i)
