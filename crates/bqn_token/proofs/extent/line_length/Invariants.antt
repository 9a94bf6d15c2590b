use Rattle.std.proofs.Common.{◌≡◌, ◌+◌, drop}
use Rattle.bqn_token.specs.Runs.{line_extent}
use Rattle.bqn_token.proofs.extent.line_length.Given as goal

abbrev pub invariant-line : goal.invariant-line
invariant-line l = l.i + line_extent (drop l.i l.text) ≡ line_extent l.text
