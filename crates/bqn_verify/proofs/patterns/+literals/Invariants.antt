use Rattle.std.proofs.Common.{◌≡◌, map, drop}
use Rattle.bqn_code.specs.Conditions.{all_leaves, is_no_literal}
use Rattle.bqn_code.specs.Plain.{pattern_of, patterns}
use Rattle.bqn_verify.proofs.patterns.+literals.Given as goal

abbrev pub invariant-have_no_literal-loop-p : goal.invariant-have_no_literal-loop-p
invariant-have_no_literal-loop-p l = all_leaves is_no_literal (patterns (map pattern_of (drop l.p-index l.all))) ≡ all_leaves is_no_literal (patterns (map pattern_of l.all))
