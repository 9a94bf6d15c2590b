use Rattle.std.proofs.Common.{◌≡◌, ◌+◌, drop}
use Rattle.bqn_code.specs.Plain.{code_of}
use Rattle.bqn_verify.specs.Judged.{bodies_are_judged}
use Rattle.bqn_verify.proofs.bodies.bodies_are_judged.Given as goal

abbrev pub invariant-loop-body : goal.invariant-loop-body
invariant-loop-body l = (bodies_are_judged (code_of l.code) l.next l.class (drop l.body-index l.bodies) ≡ bodies_are_judged (code_of l.code) l.initial.next l.class l.bodies) × (l.next ≡ l.initial.next + l.body-index)
