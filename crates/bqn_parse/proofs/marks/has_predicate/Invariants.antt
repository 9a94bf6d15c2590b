use Rattle.std.proofs.Common.{◌≡◌, map, drop}
use Rattle.std.specs.Prelude.{◌||◌}
use Rattle.bqn_syntax.specs.grammar.Classes as classes
use Rattle.bqn_syntax.specs.grammar.Trees.{stmt_of, stmts}
use Rattle.bqn_parse.proofs.marks.has_predicate.Given as goal

abbrev pub invariant-loop-s : goal.invariant-loop-s
invariant-loop-s l = (l.so || classes.has_predicate (stmts (map stmt_of (drop l.s-index l.ss)))) ≡ classes.has_predicate (stmts (map stmt_of l.ss))
