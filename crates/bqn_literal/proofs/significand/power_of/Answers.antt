use Rattle.std.proofs.Common.{sym, ◌∙◌, arith}
use Rattle.bqn_literal.proofs.Reading.{power-step}
use Rattle.bqn_literal.proofs.significand.power_of.Goals as goal

pub scan-preserved : goal.scan-preserved
scan-preserved c = record {
  same = power-step c.args.digits.now c.scan.c-index c.scan.power c.min-power.result c.c-item.result c.scan-test.true c.c-item.is (sym c.is_a_digit.ensures ∙ c.if-not-is_a_digit.false) c.min-power.ensures ∙ c.scan.invariant.same;
  bounded = omega arith;
}
