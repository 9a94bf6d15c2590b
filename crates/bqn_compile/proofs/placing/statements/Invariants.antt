use Rattle.std.proofs.Common.{◌≡◌, ◌++◌, false, map, drop}
use Rattle.bqn_syntax.specs.blocks.Leads.{at_start}
use Rattle.bqn_syntax.specs.grammar.Trees.{stmt_of, stmts}
use Rattle.bqn_compile.specs.Placing.{rest_places}
use Rattle.bqn_compile.proofs.placing.statements.Given as goal

abbrev pub invariant-loop-s : goal.invariant-loop-s
invariant-loop-s l = l.out.items ++ rest_places l.exports l.left l.lead (stmts (map stmt_of (drop l.s-index l.all))) ≡ l.initial.out.items ++ rest_places l.exports false at_start (stmts (map stmt_of l.all))
