use Rattle.std.proofs.Common.{◌≡◌, drop}
use Rattle.std.specs.List.{list_any}
use Rattle.bqn_base.specs.Literal.{is_past_numbers}
use Rattle.bqn_literal.proofs.word.has_past.Given as goal

abbrev pub invariant-scan : goal.invariant-scan
invariant-scan l = list_any is_past_numbers l.word ≡ list_any is_past_numbers (drop l.c-index l.word)
