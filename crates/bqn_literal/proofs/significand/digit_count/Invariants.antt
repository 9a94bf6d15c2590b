use Rattle.std.proofs.Common.{◌≡◌, ◌≤◌, ◌+◌, length, drop}
use Rattle.bqn_literal.specs.Shown.{figures}
use Rattle.bqn_literal.proofs.significand.digit_count.Given as goal

abbrev pub invariant-scan : goal.invariant-scan
invariant-scan l = record {
  same : l.count + length (figures (drop l.c-index l.digits)) ≡ length (figures l.digits);
  few : l.count ≤ l.c-index;
}
