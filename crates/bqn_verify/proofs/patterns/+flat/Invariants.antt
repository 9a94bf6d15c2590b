use Rattle.std.proofs.Common.{◌≡◌, map, drop, nat_le}
use Rattle.bqn_code.specs.Conditions.{all_nesting}
use Rattle.bqn_code.specs.Plain.{pattern_of, patterns}
use Rattle.bqn_verify.proofs.patterns.+flat.Given as goal

abbrev pub invariant-are_flat-loop-p : goal.invariant-are_flat-loop-p
invariant-are_flat-loop-p l = nat_le (all_nesting (patterns (map pattern_of (drop l.p-index l.all)))) l.room ≡ nat_le (all_nesting (patterns (map pattern_of l.all))) l.room
