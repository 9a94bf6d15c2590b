use Rattle.std.proofs.Common.{◌≡◌, map, drop}
use Rattle.bqn_syntax.specs.blocks.Exporting.{stmts_export}
use Rattle.bqn_syntax.specs.grammar.Trees.{stmt_of, stmts}
use Rattle.bqn_compile.proofs.exporting.statements.Given as goal

abbrev pub invariant-loop-s : goal.invariant-loop-s
invariant-loop-s l = stmts_export (stmts (map stmt_of (drop l.s-index l.all))) ≡ stmts_export (stmts (map stmt_of l.all))
