use Rattle.std.proofs.Common.{◌≡◌, ◌++◌, drop}
use Rattle.bqn_syntax.specs.scope.Scope.{definitions}
use Rattle.bqn_scope.specs.Defining.{behind}
use Rattle.bqn_scope.specs.Shown.{mentions_shown}
use Rattle.bqn_scope.specs.Tokens.{known_names, names_of_tokens, tokens_shown}
use Rattle.bqn_scope.proofs.defined.definitions.Given as goal

abbrev pub invariant-mentions : goal.invariant-mentions
invariant-mentions l = record {
  named : l.names ≡ names_of_tokens (tokens_shown l.tokens.items);
  whole : tokens_shown l.tokens.items ++ definitions (behind (tokens_shown l.tokens.items) (known_names l.known)) (mentions_shown (drop l.mention-index l.mentions)) ≡ definitions (known_names l.known) (mentions_shown l.mentions);
}
