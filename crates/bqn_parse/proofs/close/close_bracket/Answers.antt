use Rattle.std.proofs.Common.{sym, subst, Result}
use Rattle.bqn_base.specs.declared.refusal.Refusal.{Refusal}
use Rattle.bqn_syntax.specs.grammar.Parsing as parsing
use Rattle.bqn_parse.specs.Views.{element_of}
use Rattle.bqn_parse.specs.Walking.{Made}
use Rattle.bqn_parse.proofs.close.close_bracket.Goals as goal

pub returns : goal.returns
returns c = subst (λ (a : Result parsing.OpenBracket Refusal). Made (parsing.whole_of c.args.place a) element_of c.whole.result) (sym c.in_ok-end.ensures) (c.whole.ensures c.args.tokens.now)
