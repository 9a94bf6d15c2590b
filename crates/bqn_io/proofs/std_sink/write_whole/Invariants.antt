use Rattle.std.proofs.Common.{length}
use Rattle.bqn_io.proofs.Streams.{Writes}
use Rattle.bqn_io.proofs.std_sink.write_whole.Given as goal

abbrev pub invariant-loop-rest : goal.invariant-loop-rest
invariant-loop-rest g l = Writes (g.W.Write.contents l.fn.writer) l.piece (g.W.Write.contents l.writer) l.rest

abbrev pub decreases-loop-rest : goal.decreases-loop-rest
decreases-loop-rest g l = length l.rest
