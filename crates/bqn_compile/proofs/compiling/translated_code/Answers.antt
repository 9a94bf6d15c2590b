use Rattle.std.proofs.Common.{map}
use Rattle.bqn_syntax.specs.grammar.Trees.{stmt_of, stmts}
use Rattle.bqn_scope.specs.Numbering.{body_shown}
use Rattle.bqn_compile.specs.Shown.{setting_shown}
use Rattle.bqn_compile.proofs.verified.places.PlacesKept.{places_kept}
use Rattle.bqn_compile.proofs.compiling.translated_code.Goals as goal

pub invariant_of-result : goal.invariant_of-result
invariant_of-result c = record {
  places_fit = places_kept (setting_shown c.list-uses.result.now c.stmts.new.pools) (map body_shown c.list.result.now) (stmts (map stmt_of c.list-statements.result.now)) c.in_ok-blocks.blocks c.in_ok-blocks.ensures;
}
