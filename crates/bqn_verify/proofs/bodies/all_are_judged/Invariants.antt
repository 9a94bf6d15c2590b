use Rattle.std.proofs.Common.{◌≡◌, ◌≤◌, ◌*◌, ◌^◌, drop}
use Rattle.std.specs.List.{All}
use Rattle.bqn_code.specs.Plain.{code_of}
use Rattle.bqn_verify.specs.Judged.{all_are_judged}
use Rattle.bqn_verify.specs.Rows.{IsStart, bodies_before}
use Rattle.bqn_verify.proofs.bodies.all_are_judged.Given as goal

abbrev pub invariant-loop-i : goal.invariant-loop-i
invariant-loop-i l = (all_are_judged (code_of l.code) l.number (drop l.i l.blocks) ≡ all_are_judged (code_of l.code) 0 l.blocks) × (l.number ≤ 2 ^ 32 * l.i) × (l.number ≡ bodies_before l.i l.blocks) × All (IsStart l.blocks) l.starts × (l.many ≤ 256)
