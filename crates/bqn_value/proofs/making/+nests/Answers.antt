use Rattle.std.proofs.Common.{arith, ap}
use Rattle.bqn_value.specs.Meaning.{plain, bulk}
use Rattle.bqn_value.proofs.Within.{bulk-at}
use Rattle.bqn_value.proofs.making.+nests.Goals as goal

pub all_nest_within-nests_within-requires : goal.all_nest_within-nests_within-requires
all_nest_within-nests_within-requires t c = (omega (arith, c.decreases, bulk-at c.args.vs.now c.loop-v.v-index c.v-item.result c.loop-v-test.true, ap (λ v. bulk (plain v)) c.v-item.is), tt)
