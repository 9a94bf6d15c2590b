use Rattle.std.proofs.Common.{◌≡◌, map, drop}
use Rattle.bqn_code.specs.Conditions.{all_leaves}
use Rattle.bqn_code.specs.Plain.{code_of, pattern_of, patterns}
use Rattle.bqn_verify.specs.Judged.{leaf_is_there}
use Rattle.bqn_verify.proofs.patterns.+there.Given as goal

abbrev pub invariant-all_leaves_are_there-loop-p : goal.invariant-all_leaves_are_there-loop-p
invariant-all_leaves_are_there-loop-p l = all_leaves (leaf_is_there (code_of l.code)) (patterns (map pattern_of (drop l.p-index l.all))) ≡ all_leaves (leaf_is_there (code_of l.code)) (patterns (map pattern_of l.all))
