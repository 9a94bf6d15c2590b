use Rattle.std.proofs.Common.{◌≡◌, ◌++◌, drop, true}
use Rattle.bqn_rows.specs.Plain.{values}
use Rattle.bqn_rows.specs.Limits.{all_proper}
use Rattle.bqn_value.specs.Meaning.{plains}
use Rattle.bqn_value.proofs.builder.Builder.extend.Given as goal

abbrev pub invariant-loop-v : goal.invariant-loop-v
invariant-loop-v l = (l.self ++ plains (drop l.v-index l.part) ≡ l.initial.self ++ plains l.part) × (all_proper (values (plains (drop l.v-index l.part))) ≡ true)
