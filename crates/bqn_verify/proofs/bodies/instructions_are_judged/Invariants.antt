use Rattle.std.proofs.Common.{◌≡◌, drop}
use Rattle.std.specs.List.{list_all}
use Rattle.bqn_code.specs.Plain.{code_of}
use Rattle.bqn_verify.specs.Judged.{is_judged}
use Rattle.bqn_verify.proofs.bodies.instructions_are_judged.Given as goal

abbrev pub invariant-loop-i : goal.invariant-loop-i
invariant-loop-i l = list_all (is_judged (code_of l.code) l.number l.class) (drop l.i-index l.all) ≡ list_all (is_judged (code_of l.code) l.number l.class) l.all
