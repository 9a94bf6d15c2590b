use Rattle.std.proofs.Common.{◌≡◌, map, drop}
use Rattle.bqn_code.specs.Conditions.{all_leaves}
use Rattle.bqn_code.specs.Plain.{code_of, pattern_of, patterns}
use Rattle.bqn_verify.specs.Judged.{leaf_has_slot_up}
use Rattle.bqn_verify.proofs.patterns.+slots.Given as goal

abbrev pub invariant-all_leaves_have_slots-loop-p : goal.invariant-all_leaves_have_slots-loop-p
invariant-all_leaves_have_slots-loop-p l = all_leaves (leaf_has_slot_up (code_of l.code) l.number) (patterns (map pattern_of (drop l.p-index l.all))) ≡ all_leaves (leaf_has_slot_up (code_of l.code) l.number) (patterns (map pattern_of l.all))
