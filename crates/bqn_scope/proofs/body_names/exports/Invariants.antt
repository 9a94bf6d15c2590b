use Rattle.std.proofs.Common.{◌≡◌, [], ◌++◌, drop}
use Rattle.bqn_syntax.specs.scope.Bodies.{exports_of}
use Rattle.bqn_scope.specs.Numbering.{exported_names}
use Rattle.bqn_scope.specs.Scopes.{known_in}
use Rattle.bqn_scope.specs.Shown.{mentions_shown}
use Rattle.bqn_scope.specs.Tokens.{names_of_tokens, tokens_shown}
use Rattle.bqn_scope.proofs.body_names.exports.Given as goal

abbrev pub invariant-mentions : goal.invariant-mentions
invariant-mentions l = record {
  names : l.exported ≡ exported_names l.exports.items;
  rest : exports_of (known_in l.outer l.in_block ++ names_of_tokens (tokens_shown l.defined.places.tokens.items)) (mentions_shown (drop l.mention-index l.mentions)) l.exports.items ≡ exports_of (known_in l.outer l.in_block ++ names_of_tokens (tokens_shown l.defined.places.tokens.items)) (mentions_shown l.mentions) [];
}
