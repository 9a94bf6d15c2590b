use Rattle.std.proofs.Common.{◌++◌, ◌+◌, drop, ap, sym, ◌∙◌}
use Rattle.bqn_value.specs.Meaning.{plain, plains}
use Rattle.bqn_value.proofs.Build.{next-at, extend-step}
use Rattle.bqn_value.proofs.builder.Builder.extend.Goals as goal

pub push-requires : goal.push-requires
push-requires c = (next-at c.args.part.now c.loop-v.v-index c.v-item.result c.in_ok-copy.field-0 c.loop-v-test.true c.v-item.is c.in_ok-copy.ensures c.loop-v.invariant.1).one

pub loop-v-preserved : goal.loop-v-preserved
loop-v-preserved c =
    let n = next-at c.args.part.now c.loop-v.v-index c.v-item.result c.in_ok-copy.field-0 c.loop-v-test.true c.v-item.is c.in_ok-copy.ensures c.loop-v.invariant.1 in (
      extend-step c.args.self.now c.loop-v.self c.push.new.self (plains (drop (c.loop-v.v-index + 1) c.args.part.now)) (plains c.args.part.now) (plain c.in_ok-copy.field-0)
          (ap (λ ys. c.loop-v.self ++ ys) (sym n.here) ∙ c.loop-v.invariant.0) c.in_ok-push.ensures,
      n.others,
    )
