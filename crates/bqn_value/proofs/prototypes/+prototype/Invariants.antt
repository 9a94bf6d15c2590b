use Rattle.std.proofs.Common.{◌+◌, ◌*◌, drop}
use Rattle.bqn_value.specs.Meaning.{plain, plains, bulk, all_bulk, array_bulk}
use Rattle.bqn_value.proofs.Protos.{ProtosSoFar}
use Rattle.bqn_value.proofs.prototypes.+prototype.Given as goal

abbrev pub decreases-prototype : goal.decreases-prototype
decreases-prototype l = 3 * bulk (plain l.v.now)

abbrev pub decreases-prototype_of_array : goal.decreases-prototype_of_array
decreases-prototype_of_array l = 3 * array_bulk l.a.now + 2

abbrev pub decreases-prototypes : goal.decreases-prototypes
decreases-prototypes l = 3 * all_bulk (plains l.vs.now) + 1

abbrev pub invariant-prototypes-loop-v : goal.invariant-prototypes-loop-v
invariant-prototypes-loop-v l = ProtosSoFar (plains l.all.items) (plains (drop l.v-index l.vs)) (plains l.vs)
