use Rattle.std.proofs.Common.{◌∙◌, ap, sym}
use Rattle.std.specs.Option.{option_map}
use Rattle.bqn_syntax.specs.grammar.Expressions as expressions
use Rattle.bqn_syntax.specs.grammar.Parsing as parsing
use Rattle.bqn_syntax.specs.grammar.Trees.{stmt_of}
use Rattle.bqn_parse.specs.Views.{items_of}
use Rattle.bqn_parse.specs.Walking.{bracket_shown}
use Rattle.bqn_parse.proofs.Walking.{well-made}
use Rattle.bqn_parse.proofs.judge.judge_predicate.Goals as goal

pub returns-in-Some : goal.returns-in-Some
returns-in-Some c =
    let inner = c.args.inner.now in
    let tokens = c.args.tokens.now in
    let e = ap (option_map stmt_of) (sym c.in-Some.is) ∙ c.in_ok-piece_predicate.ensures in
    well-made c.args.place parsing.and_statement (expressions.piece_predicate (items_of inner.items.items)) (stmt_of c.in-Some.s) (bracket_shown tokens inner) (bracket_shown tokens c.and_statement.new.self) c.and_statement.result e (c.and_statement.ensures tokens)
