use Rattle.std.proofs.Common.{◌≡◌, ◌≤◌, ◌+◌, drop}
use Rattle.bqn_syntax.specs.text.Tokens.{behind}
use Rattle.bqn_token.proofs.place.place_behind.Given as goal

abbrev pub invariant-piece : goal.invariant-piece
invariant-piece l = record {
  same : behind (drop l.c-index l.piece) l.place ≡ behind l.piece l.fn.place;
  line : l.place.line ≤ l.fn.place.line + l.c-index;
  column : l.place.column ≤ l.fn.place.column + l.c-index;
}
