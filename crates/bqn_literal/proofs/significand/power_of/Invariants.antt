use Rattle.std.proofs.Common.{◌≡◌, ◌≤◌, drop}
use Rattle.std.specs.Prelude.{min}
use Rattle.bqn_base.specs.Literal.{value_from}
use Rattle.bqn_literal.specs.Shown.{figures}
use Rattle.bqn_literal.specs.Values.{limit}
use Rattle.bqn_literal.proofs.significand.power_of.Given as goal

abbrev pub invariant-scan : goal.invariant-scan
invariant-scan l = record {
  same : min (value_from l.power (figures (drop l.c-index l.digits))) limit ≡ min (value_from 0 (figures l.digits)) limit;
  bounded : l.power ≤ limit;
}
