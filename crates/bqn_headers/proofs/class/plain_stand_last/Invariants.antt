use Rattle.bqn_headers.proofs.Bodies.{SoFar}
use Rattle.bqn_headers.proofs.class.plain_stand_last.Given as goal

abbrev pub invariant-bodies : goal.invariant-bodies
invariant-bodies l = SoFar l.most l.index l.bodies
