use Rattle.std.proofs.Common.{◌≡◌, drop}
use Rattle.bqn_code.specs.Conditions.{are_distinct}
use Rattle.bqn_verify.proofs.exports.are_few_distinct.Given as goal

abbrev pub invariant-loop-i : goal.invariant-loop-i
invariant-loop-i l = are_distinct l.names (drop l.i l.exports) ≡ are_distinct l.names l.exports
