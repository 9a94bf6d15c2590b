use Rattle.bqn_parse.proofs.Looking.{Passed}
use Rattle.bqn_parse.proofs.looks.aheads.Given as goal

abbrev pub invariant-tokens : goal.invariant-tokens
invariant-tokens l = Passed l.next l.looks l.found.items l.tokens

abbrev pub decreases-tokens : goal.decreases-tokens
decreases-tokens l = l.next
