use Rattle.std.proofs.Common.{◌≡◌, ◌≤◌, ◌+◌, length}
use Rattle.std.specs.Vec.{vec_capacity, vec_len}
use Rattle.bqn_syntax.specs.text.Tokens.{tokens_behind, tokens_of_text}
use Rattle.bqn_token.proofs.Pieces.{onto}
use Rattle.bqn_token.proofs.cut.tokens_in.Given as goal

abbrev pub decreases-pieces : goal.decreases-pieces
decreases-pieces l = length l.rest

abbrev pub invariant-pieces : goal.invariant-pieces
invariant-pieces l = record {
  same : onto l.tokens.items (tokens_behind 0 l.place l.rest) ≡ tokens_of_text l.text;
  line : l.place.line + length l.rest ≤ length l.text + 1;
  column : l.place.column + length l.rest ≤ length l.text + 1;
  room : vec_len l.tokens + length l.rest ≤ vec_capacity l.tokens;
}
