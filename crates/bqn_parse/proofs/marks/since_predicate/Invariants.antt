use Rattle.bqn_parse.proofs.Marking.{Counted}
use Rattle.bqn_parse.proofs.marks.since_predicate.Given as goal

abbrev pub invariant-loop-s : goal.invariant-loop-s
invariant-loop-s l = Counted l.so l.s-index l.ss
