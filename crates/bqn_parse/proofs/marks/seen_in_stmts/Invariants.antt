use Rattle.std.proofs.Common.{◌≡◌, map, drop}
use Rattle.bqn_syntax.specs.grammar.Classes as classes
use Rattle.bqn_syntax.specs.grammar.Trees.{stmt_of, stmts}
use Rattle.bqn_parse.specs.Marking.{seen_shown}
use Rattle.bqn_parse.proofs.marks.seen_in_stmts.Given as goal

abbrev pub invariant-loop-s : goal.invariant-loop-s
invariant-loop-s l = classes.and (seen_shown l.so) (classes.seen_in_stmts (stmts (map stmt_of (drop l.s-index l.ss)))) ≡ classes.seen_in_stmts (stmts (map stmt_of l.ss))
