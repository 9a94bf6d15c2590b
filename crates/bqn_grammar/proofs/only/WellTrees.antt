-- Only well trees are found, and the tokens spell them.
use Rattle.bqn_syntax.specs.grammar.Grammar.{OnlyWellTreesAreFound}
use Rattle.bqn_grammar.proofs.only.Pieces.{expression_only, statement_only, predicate_only, pattern_only, expr_depths, pattern_depths, stmt_depths}
use Rattle.bqn_grammar.proofs.sound.OpenBrackets.{Pieces}
use Rattle.bqn_grammar.proofs.sound.Walk.{parsed_only}

pieces : Pieces
pieces = record {
  expression_only = λ items e g h. let r = expression_only items e g h in (r.written, r.well);
  statement_only = λ items s g h. let r = statement_only items s g h in (r.0.written, r.2, r.1);
  predicate_only = λ items s g h. let r = predicate_only items s g h in (r.0.written, r.0.well, r.1);
  pattern_only = λ literals items q g h. let r = pattern_only literals items q g h in (r.written, r.well);
  expr_depths = expr_depths;
  stmt_depths = stmt_depths;
  pattern_depths = pattern_depths;
}

pub only_well_trees_are_found : OnlyWellTreesAreFound
only_well_trees_are_found = parsed_only pieces

pub ruleset only_laws = (only_well_trees_are_found)
