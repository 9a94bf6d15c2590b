use Rattle.std.proofs.Common.{◌+◌, ◌*◌, drop, ap, ◌∙◌}
use Rattle.bqn_rows.specs.Limits.{size}
use Rattle.bqn_value.proofs.Within.{size-at, size-positive, not-shape}
use Rattle.bqn_value.proofs.making.is_within.Goals as goal

pub returns-then-product-gt-LIMIT : goal.returns-then-product-gt-LIMIT
returns-then-product-gt-LIMIT c =
    not-shape _ (size (drop (c.loop-axis.axis-index + 1) c.args.shape.now)) c.args.shape.now c.if-product-gt-LIMIT.true (size-positive (drop (c.loop-axis.axis-index + 1) c.args.shape.now))
    (ap (λ n. (c.loop-axis.product * n) * size (drop (c.loop-axis.axis-index + 1) c.args.shape.now)) c.factor-product.ensures
    ∙ size-at c.loop-axis.product c.loop-axis.axis-index c.args.shape.now c.loop-axis-test.true c.loop-axis.invariant.1)

pub loop-axis-preserved : goal.loop-axis-preserved
loop-axis-preserved c = (
  c.if-product-gt-LIMIT.false,
  ap (λ n. (c.loop-axis.product * n) * size (drop (c.loop-axis.axis-index + 1) c.args.shape.now)) c.factor-product.ensures
      ∙ size-at c.loop-axis.product c.loop-axis.axis-index c.args.shape.now c.loop-axis-test.true c.loop-axis.invariant.1,
)
