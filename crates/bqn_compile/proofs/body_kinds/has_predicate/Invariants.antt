use Rattle.std.proofs.Common.{◌≡◌, map, drop}
use Rattle.bqn_syntax.specs.grammar.Classes.{has_predicate}
use Rattle.bqn_syntax.specs.grammar.Trees.{stmt_of, stmts}
use Rattle.bqn_compile.proofs.body_kinds.has_predicate.Given as goal

abbrev pub invariant-loop-s : goal.invariant-loop-s
invariant-loop-s l = has_predicate (stmts (map stmt_of (drop l.s-index l.all))) ≡ has_predicate (stmts (map stmt_of l.all))
