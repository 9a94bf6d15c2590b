use Rattle.std.proofs.Common.{◌∙◌, ap, sym}
use Rattle.std.specs.Option.{option_map}
use Rattle.bqn_syntax.specs.grammar.Items as items
use Rattle.bqn_syntax.specs.grammar.Parsing as parsing
use Rattle.bqn_syntax.specs.grammar.Trees.{pattern_of}
use Rattle.bqn_parse.specs.Views.{items_of}
use Rattle.bqn_parse.specs.Walking.{bracket_shown}
use Rattle.bqn_parse.proofs.Walking.{well-made}
use Rattle.bqn_parse.proofs.judge.judge_target.Goals as goal

pub returns-in-Some : goal.returns-in-Some
returns-in-Some c =
    let inner = c.args.inner.now in
    let tokens = c.args.tokens.now in
    let e = ap (option_map pattern_of) (sym c.in-Some.is) ∙ c.in_ok-pattern.ensures in
    well-made c.args.place parsing.and_target (items.piece_pattern c.args.literals (items_of inner.items.items)) (pattern_of c.in-Some.q) (bracket_shown tokens inner) (bracket_shown tokens c.and_target.new.self) c.and_target.result e (c.and_target.ensures tokens)
