use Rattle.std.proofs.Common.{◌≡◌, ◌<◌, ◌≤◌, ◌^◌, ◌-◌, ◌+◌}
use Rattle.bqn_base.proofs.num.floor_root.Given as goal

abbrev pub invariant-halve : goal.invariant-halve
invariant-halve l = record {
  below : l.low ^ l.degree ≤ l.x;
  above : l.x < l.high ^ l.degree;
  apart : l.low < l.high;
  few : l.high ≤ l.x + 1;
}

abbrev pub decreases-halve : goal.decreases-halve
decreases-halve l = l.high - l.low
