use Rattle.bqn_parse.specs.Walking.{walk_shown}
use Rattle.bqn_parse.proofs.Parsed.{Going}
use Rattle.bqn_parse.proofs.parsing.walk.Given as goal

abbrev pub invariant-tokens : goal.invariant-tokens
invariant-tokens l = Going l.index l.left.items (walk_shown l.tokens l.walk) l.tokens
