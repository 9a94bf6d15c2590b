use Rattle.std.proofs.Common.{drop}
use Rattle.bqn_rows.specs.Plain.{values}
use Rattle.bqn_value.specs.Meaning.{plains}
use Rattle.bqn_value.proofs.making.loads.Given as goal
use Rattle.bqn_value.proofs.Within.{LoadsSoFar}

abbrev pub invariant-loop-v : goal.invariant-loop-v
invariant-loop-v l = LoadsSoFar l.weight l.height (values (plains (drop l.v-index l.vs))) (values (plains l.vs))
