use Rattle.std.proofs.Common.{◌∙◌, ap, sym, Ok}
use Rattle.bqn_syntax.specs.grammar.Parsing as parsing
use Rattle.bqn_parse.proofs.one_token.end_body.Goals as goal

pub returns : goal.returns
returns c = ap parsing.body_ended c.in_ok-end.ensures ∙ ap Ok (sym (c.in_ok-end_body.ensures c.args.tokens.now))
