use Rattle.std.proofs.Common.{◌≡◌, ◌∙◌, drop, sym, ap, subst, Result}
use Rattle.bqn_base.specs.declared.refusal.Refusal.{Refusal}
use Rattle.bqn_syntax.specs.declared.sort.Inside.{Inside}
use Rattle.bqn_syntax.specs.grammar.Parsing as parsing
use Rattle.bqn_parse.specs.declared.open_bracket.OpenBracket.{OpenBracket}
use Rattle.bqn_parse.specs.Walking.{bracket_shown, walk_shown, Moves}
use Rattle.bqn_parse.proofs.Stepping.{goes-on-at, semicolon-elsewhere}
use Rattle.bqn_parse.proofs.one_token.semicolon.Goals as goal

pub returns-in-Block : goal.returns-in-Block
returns-in-Block c =
    let tokens = c.args.tokens.now in
    let so = walk_shown tokens c.args.walk.now in
    let inner = c.args.walk.now.inner.value in
    let read : c.deref.result.now ≡ inner = cc in
    let written : c.deref_mut.result.now ≡ inner = cc in
    subst (λ (i : Inside). Moves (parsing.semicolon i (drop c.args.index tokens) c.args.place so) (parsing.open_brackets (bracket_shown tokens c.end_body.new.inner) so.outer) c.end_body.result) (sym (ap (λ (l : OpenBracket). l.inside) (sym read) ∙ c.in-Block.is))
    (goes-on-at tokens so.outer (λ l. parsing.body_ended (parsing.ended c.args.place l)) c.deref_mut.result.now inner (bracket_shown tokens c.end_body.new.inner) c.end_body.result written c.end_body.ensures)

pub returns-in_default : goal.returns-in_default
returns-in_default c =
    let tokens = c.args.tokens.now in
    let so = walk_shown tokens c.args.walk.now in
    let read : c.deref.result.now ≡ c.args.walk.now.inner.value = cc in
    subst (λ (a : Result parsing.OpenBrackets Refusal). Moves a (walk_shown tokens c.take.new.walk) c.take.result) (sym (semicolon-elsewhere c.args.walk.now.inner.value.inside (drop c.args.index tokens) c.args.place so (λ e. c.in_default.not-Block (ap (λ (l : OpenBracket). l.inside) read ∙ e))))
    (c.take.ensures tokens)
