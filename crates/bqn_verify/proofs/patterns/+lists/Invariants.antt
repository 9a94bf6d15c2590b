use Rattle.std.proofs.Common.{◌≡◌, map, drop}
use Rattle.bqn_code.specs.Conditions.{all_lists_are_few}
use Rattle.bqn_code.specs.Plain.{pattern_of, patterns}
use Rattle.bqn_verify.proofs.patterns.+lists.Given as goal

abbrev pub invariant-all_are_few-loop-p : goal.invariant-all_are_few-loop-p
invariant-all_are_few-loop-p l = all_lists_are_few (patterns (map pattern_of (drop l.p-index l.all))) ≡ all_lists_are_few (patterns (map pattern_of l.all))
