use Rattle.std.proofs.Common.{◌≡◌, ◌<◌, true, drop, length, map, sym, subst, Result}
use Rattle.std.specs.Option.{option_map}
use Rattle.std.proofs.lemmas.Grind.{common_steps}
use Rattle.std.proofs.Common.{arith}
use Rattle.bqn_base.specs.declared.refusal.Refusal.{Refusal}
use Rattle.bqn_syntax.specs.grammar.Parsing as parsing
use Rattle.bqn_syntax.specs.grammar.Trees.{header_of, stmt_of}
use Rattle.bqn_parse.specs.Views.{items_of}
use Rattle.bqn_parse.specs.Walking.{bracket_shown, Moves}
use Rattle.bqn_parse.proofs.Stepping.{headed-first}
use Rattle.bqn_parse.proofs.one_token.end_head.Goals as goal

pub returns : goal.returns
returns c =
    let tokens = c.args.tokens.now in
    let l = bracket_shown tokens c.args.inner.now in
    let some : 0 < length (items_of c.args.inner.now.items.items) = grind (arith, common_steps) in
    let first : parsing.is_first_piece (option_map header_of c.args.inner.now.header) (map stmt_of c.args.inner.now.statements.items) ≡ true = cc (c.if-not-is_first_piece.ensures) in
    subst (λ (a : Result parsing.OpenBracket Refusal). Moves a (bracket_shown tokens c.head.new.inner) c.head.result) (sym (headed-first l.items (drop c.args.index tokens) c.args.place l some first)) c.head.ensures
