use Rattle.std.proofs.Common.{◌≡◌, drop}
use Rattle.bqn_base.specs.Literal.{are_digits, without_underscores}
use Rattle.bqn_literal.proofs.Fronts.{digits_behind}
use Rattle.bqn_literal.proofs.front.is_all_digits.Given as goal

abbrev pub invariant-scan : goal.invariant-scan
invariant-scan l = are_digits (without_underscores l.word) ≡ digits_behind l.some (without_underscores (drop l.c-index l.word))
