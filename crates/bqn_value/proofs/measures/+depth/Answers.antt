use Rattle.std.proofs.Common.{◌+◌, drop, ap, refl, arith}
use Rattle.bqn_rows.specs.Plain.{values}
use Rattle.bqn_rows.specs.Relations.{depths}
use Rattle.bqn_value.specs.Meaning.{plain, plains, array, bulk}
use Rattle.bqn_value.proofs.Build.{next-at}
use Rattle.bqn_value.proofs.Within.{bulk-at}
use Rattle.bqn_value.proofs.Depths.{proper-depth, depths-step}
use Rattle.bqn_value.proofs.measures.+depth.Goals as goal

pub array_depth-overflow_add-result : goal.array_depth-overflow_add-result
array_depth-overflow_add-result t c =
    omega (arith, proper-depth (array c.args.a.now) c.count-count.ensures.whole, c.deepest.ensures, ap (λ xs. depths (values xs)) c.elements.ensures)

pub deepest-depth-requires : goal.deepest-depth-requires
deepest-depth-requires t c = (
  omega (arith, c.decreases, bulk-at c.args.vs.now c.loop-v.v-index c.v-item.result c.loop-v-test.true, ap (λ v. bulk (plain v)) c.v-item.is),
  (next-at c.args.vs.now c.loop-v.v-index c.v-item.result c.v-item.result c.loop-v-test.true c.v-item.is refl c.loop-v.invariant.parts).one,
)

pub deepest-loop-v-preserved : goal.deepest-loop-v-preserved
deepest-loop-v-preserved t c =
    let n = next-at c.args.vs.now c.loop-v.v-index c.v-item.result c.v-item.result c.loop-v-test.true c.v-item.is refl c.loop-v.invariant.parts in
    record {
      deep = depths-step c.loop-v.deepest c.depth.result c.greater-deepest.result (plain c.v-item.result) (plains (drop c.loop-v.v-index c.args.vs.now))
          (plains (drop (c.loop-v.v-index + 1) c.args.vs.now)) (plains c.args.vs.now) n.here c.depth.ensures c.greater-deepest.ensures c.loop-v.invariant.deep;
      parts = n.others;
    }
