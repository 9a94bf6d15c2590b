use Rattle.std.proofs.Common.{◌≡◌, drop}
use Rattle.bqn_literal.specs.Shown.{has_figure}
use Rattle.bqn_literal.proofs.front.has_digit.Given as goal

abbrev pub invariant-scan : goal.invariant-scan
invariant-scan l = has_figure l.digits ≡ has_figure (drop l.c-index l.digits)
