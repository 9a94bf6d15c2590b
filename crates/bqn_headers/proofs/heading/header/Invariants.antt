use Rattle.bqn_headers.specs.OpenLists.{lists_shown}
use Rattle.bqn_headers.proofs.Walking.{Walked}
use Rattle.bqn_headers.proofs.heading.header.Given as goal

abbrev pub invariant-tokens : goal.invariant-tokens
invariant-tokens l = Walked l.token-index (lists_shown l.lists) l.piece
