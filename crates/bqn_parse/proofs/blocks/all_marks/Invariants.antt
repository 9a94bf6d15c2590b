use Rattle.bqn_parse.proofs.Briefs.{Marked}
use Rattle.bqn_parse.proofs.blocks.all_marks.Given as goal

abbrev pub invariant-loop-body : goal.invariant-loop-body
invariant-loop-body l = Marked l.body-index l.so.items l.all
