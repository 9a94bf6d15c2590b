use Rattle.bqn_roles.specs.Nesting.{nesting_of}
use Rattle.bqn_roles.proofs.Scanning.{Going}
use Rattle.bqn_roles.proofs.brackets.nest.Given as goal

abbrev pub invariant-tokens : goal.invariant-tokens
invariant-tokens l = Going l.index (nesting_of l.scan) l.tokens
