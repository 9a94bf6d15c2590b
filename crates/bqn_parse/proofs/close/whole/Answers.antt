use Rattle.std.proofs.Common.{sym, subst}
use Rattle.bqn_syntax.specs.declared.sort.Inside.{Inside}
use Rattle.bqn_syntax.specs.grammar.Parsing as parsing
use Rattle.bqn_parse.specs.Views.{element_of}
use Rattle.bqn_parse.specs.Walking.{bracket_shown, Made}
use Rattle.bqn_parse.proofs.close.whole.Goals as goal

pub returns-in-Block : goal.returns-in-Block
returns-in-Block c = λ tokens. subst (λ (i : Inside). Made (parsing.whole i c.args.place (bracket_shown tokens c.args.inner.now)) element_of c.whole_block.result) (sym c.in-Block.is) (c.whole_block.ensures tokens c.args.place)
