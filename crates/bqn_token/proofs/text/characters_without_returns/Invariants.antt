use Rattle.std.proofs.Common.{◌≡◌, take}
use Rattle.bqn_syntax.specs.text.Text.{without_returns}
use Rattle.bqn_token.proofs.text.characters_without_returns.Given as goal

abbrev pub invariant-characters : goal.invariant-characters
invariant-characters l = l.kept.items ≡ without_returns (take l.c-index l.text)
