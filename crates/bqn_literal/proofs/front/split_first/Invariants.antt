use Rattle.std.proofs.Common.{◌≡◌, drop}
use Rattle.bqn_base.specs.Literal.{without_underscores}
use Rattle.bqn_literal.proofs.front.split_first.Given as goal

abbrev pub invariant-scan : goal.invariant-scan
invariant-scan l = without_underscores l.word ≡ without_underscores (drop l.i l.word)
