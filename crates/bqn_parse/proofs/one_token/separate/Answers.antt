use Rattle.std.proofs.Common.{◌≡◌, ◌∙◌, drop, sym, ap, subst, Result}
use Rattle.bqn_base.specs.declared.refusal.Refusal.{Refusal}
use Rattle.bqn_syntax.specs.declared.sort.Inside.{Inside}
use Rattle.bqn_syntax.specs.grammar.Parsing as parsing
use Rattle.bqn_parse.specs.declared.open_bracket.OpenBracket.{OpenBracket}
use Rattle.bqn_parse.specs.Walking.{bracket_shown, walk_shown, Moves}
use Rattle.bqn_parse.proofs.Stepping.{goes-on-at, separated-elsewhere}
use Rattle.bqn_parse.proofs.one_token.separate.Goals as goal

pub returns-in_default : goal.returns-in_default
returns-in_default c =
    let tokens = c.args.tokens.now in
    let so = walk_shown tokens c.args.walk.now in
    let inner = c.args.walk.now.inner.value in
    let read : c.deref.result.now ≡ inner = cc in
    let written : c.deref_mut.result.now ≡ inner = cc in
    subst (λ (a : Result parsing.OpenBrackets Refusal). Moves a (parsing.open_brackets (bracket_shown tokens c.end.new.inner) so.outer) c.end.result) (sym (separated-elsewhere inner.inside (drop c.args.index tokens) c.args.place so (λ e. c.in_default.not-Parens (ap (λ (l : OpenBracket). l.inside) read ∙ e))))
    (goes-on-at tokens so.outer (parsing.ended c.args.place) c.deref_mut.result.now inner (bracket_shown tokens c.end.new.inner) c.end.result written c.end.ensures)

pub returns-in-Parens : goal.returns-in-Parens
returns-in-Parens c =
    let tokens = c.args.tokens.now in
    let so = walk_shown tokens c.args.walk.now in
    let read : c.deref.result.now ≡ c.args.walk.now.inner.value = cc in
    subst (λ (i : Inside). Moves (parsing.separated i (drop c.args.index tokens) c.args.place so) (walk_shown tokens c.take.new.walk) c.take.result) (sym (ap (λ (l : OpenBracket). l.inside) (sym read) ∙ c.in-Parens.is))
    (c.take.ensures tokens)
