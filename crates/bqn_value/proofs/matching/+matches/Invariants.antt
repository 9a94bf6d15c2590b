use Rattle.std.proofs.Common.{◌≡◌, ◌+◌, ◌*◌, ◌≤◌, length, drop}
use Rattle.bqn_rows.specs.Plain.{values}
use Rattle.bqn_rows.specs.Relations.{all_matching}
use Rattle.bqn_value.specs.Meaning.{plain, plains, bulk, all_bulk, array_bulk}
use Rattle.bqn_value.proofs.matching.+matches.Given as goal

abbrev pub decreases-matches : goal.decreases-matches
decreases-matches l = 3 * bulk (plain l.w.now)

abbrev pub decreases-arrays_match : goal.decreases-arrays_match
decreases-arrays_match l = 3 * array_bulk l.w.now + 2

abbrev pub decreases-all_match : goal.decreases-all_match
decreases-all_match l = 3 * all_bulk (plains l.ws.now) + 1

abbrev pub invariant-all_match-loop-i : goal.invariant-all_match-loop-i
invariant-all_match-loop-i l = record {
  within : l.i ≤ length l.xs;
  same : all_matching (values (plains (drop l.i l.ws))) (values (plains (drop l.i l.xs))) ≡ all_matching (values (plains l.ws)) (values (plains l.xs));
}
