use Rattle.std.proofs.Common.{◌≡◌, drop}
use Rattle.bqn_token.specs.Runs.{word_extent}
use Rattle.bqn_token.proofs.Runs.{counted_on}
use Rattle.bqn_token.proofs.extent.word_length.Given as goal

abbrev pub invariant-word : goal.invariant-word
invariant-word l = counted_on l.i (word_extent (drop l.i l.text)) ≡ word_extent l.text
