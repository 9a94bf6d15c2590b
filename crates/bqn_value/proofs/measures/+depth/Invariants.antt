use Rattle.std.proofs.Common.{◌≡◌, ◌+◌, ◌*◌, max, drop, true}
use Rattle.bqn_rows.specs.Plain.{values}
use Rattle.bqn_rows.specs.Limits.{all_proper}
use Rattle.bqn_rows.specs.Relations.{depths}
use Rattle.bqn_value.specs.Meaning.{plain, plains, bulk, all_bulk, array_bulk}
use Rattle.bqn_value.proofs.measures.+depth.Given as goal

abbrev pub decreases-depth : goal.decreases-depth
decreases-depth l = 3 * bulk (plain l.v.now)

abbrev pub decreases-array_depth : goal.decreases-array_depth
decreases-array_depth l = 3 * array_bulk l.a.now + 2

abbrev pub decreases-deepest : goal.decreases-deepest
decreases-deepest l = 3 * all_bulk (plains l.vs.now) + 1

abbrev pub invariant-deepest-loop-v : goal.invariant-deepest-loop-v
invariant-deepest-loop-v l = record {
  deep : max l.deepest (depths (values (plains (drop l.v-index l.vs)))) ≡ depths (values (plains l.vs));
  parts : all_proper (values (plains (drop l.v-index l.vs))) ≡ true;
}
