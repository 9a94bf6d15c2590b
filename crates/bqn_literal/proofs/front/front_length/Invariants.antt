use Rattle.std.proofs.Common.{◌≡◌, take, drop}
use Rattle.bqn_base.specs.Literal.{digits_in, without_underscores}
use Rattle.bqn_literal.specs.Shown.{figures}
use Rattle.bqn_literal.proofs.Fronts.{onto_front}
use Rattle.bqn_literal.proofs.front.front_length.Given as goal

abbrev pub invariant-scan : goal.invariant-scan
invariant-scan l = digits_in (without_underscores l.word) ≡ onto_front (figures (take l.i l.word)) (digits_in (without_underscores (drop l.i l.word)))
