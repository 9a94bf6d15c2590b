use Rattle.std.proofs.Common.{◌≡◌, ◌<◌, drop}
use Rattle.bqn_verify.specs.Marks.{mark_from}
use Rattle.bqn_verify.proofs.marks.mark_of.Given as goal

abbrev pub invariant-loop-c : goal.invariant-loop-c
invariant-loop-c l = (mark_from l.mark (drop l.c-index l.name) ≡ mark_from 0 l.name) × (l.mark < 32768)
