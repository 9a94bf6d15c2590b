use Rattle.std.proofs.Common.{◌≡◌, ◌≤◌, ◌+◌, drop}
use Rattle.bqn_literal.specs.Shown.{figures}
use Rattle.bqn_literal.specs.Values.{with_digits}
use Rattle.bqn_literal.proofs.significand.Significand.with_digits.Given as goal

abbrev pub invariant-scan : goal.invariant-scan
invariant-scan l = record {
  same : with_digits (figures (drop l.c-index l.digits)) l.read ≡ with_digits (figures l.digits) l.fn.self;
  few : l.read.zeros ≤ l.fn.self.zeros + l.c-index;
}
