use Rattle.std.proofs.Common.{◌≡◌, [], map, drop}
use Rattle.bqn_syntax.specs.grammar.Trees.{stmt_of, stmts}
use Rattle.bqn_forms.specs.Emission.{stmts_emitted}
use Rattle.bqn_forms.specs.Reading.{spelled}
use Rattle.bqn_forms.proofs.emitter.code_of.Given as goal

abbrev pub invariant-loop-stmt : goal.invariant-loop-stmt
invariant-loop-stmt l = stmts_emitted (spelled l.names.keys) l.code.items (stmts (map stmt_of (drop l.stmt-index l.stmts))) ≡ stmts_emitted [] [] (stmts (map stmt_of l.stmts))
