use Rattle.std.proofs.Common.{◌≡◌, ◌+◌, ◌*◌, nat_le, drop}
use Rattle.bqn_rows.specs.Plain.{values}
use Rattle.bqn_rows.specs.Relations.{extents}
use Rattle.bqn_value.specs.Meaning.{plain, plains, bulk, all_bulk, array_bulk}
use Rattle.bqn_value.proofs.making.+nests.Given as goal

abbrev pub decreases-nests_within : goal.decreases-nests_within
decreases-nests_within l = 3 * bulk (plain l.v.now)

abbrev pub decreases-array_nests_within : goal.decreases-array_nests_within
decreases-array_nests_within l = 3 * array_bulk l.a.now + 2

abbrev pub decreases-all_nest_within : goal.decreases-all_nest_within
decreases-all_nest_within l = 3 * all_bulk (plains l.vs.now) + 1

abbrev pub invariant-all_nest_within-loop-v : goal.invariant-all_nest_within-loop-v
invariant-all_nest_within-loop-v l = nat_le (extents (values (plains (drop l.v-index l.vs)))) l.room ≡ nat_le (extents (values (plains l.vs))) l.room
