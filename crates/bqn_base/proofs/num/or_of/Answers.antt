use Rattle.std.proofs.Common.{◌∙◌, ap, arith, ℤ}
use Rattle.std.proofs.lemmas.Int.{ints}
use Rattle.bqn_base.specs.Arithmetic.{in_range}
use Rattle.bqn_base.proofs.Disjunctions.{wide, wide-or}
use Rattle.bqn_base.proofs.num.or_of.Goals as goal

pub returns : goal.returns
returns c =
    c.narrow.ensures
    ∙ ap (λ (z : ℤ). in_range z) (wide-or c.args.w c.args.x (wide c.from-w.result) (wide c.from-x.result) c.ranges.w c.ranges.x (omega (arith, ints)) (omega (arith, ints)))
