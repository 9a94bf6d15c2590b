use Rattle.std.proofs.Common.{◌≡◌, ◌∙◌, Bool, true, sym, ap, subst, Result}
use Rattle.bqn_base.specs.declared.refusal.Refusal.{Refusal}
use Rattle.bqn_syntax.specs.grammar.Items.{Element}
use Rattle.bqn_syntax.specs.grammar.Parsing as parsing
use Rattle.bqn_parse.specs.declared.open_bracket.OpenBracket.{OpenBracket}
use Rattle.bqn_parse.specs.Walking.{bracket_shown, walk_shown, Moves}
use Rattle.bqn_parse.proofs.close.close.Goals as goal

pub returns : goal.returns
returns c =
    let tokens = c.args.tokens.now in
    let so = walk_shown tokens c.args.walk.now in
    let new = walk_shown tokens c.hand.new.walk in
    let inner = c.args.walk.now.inner.value in
    let written : c.deref_mut.result.now ≡ inner = cc in
    let e : true ≡ parsing.closes c.args.bracket inner.inside = cc (c.if-not-closes.ensures) in
    subst (λ (b : Bool). Moves (parsing.closed b c.args.place so) new c.hand.result) e
    (subst (λ (x : Result Element Refusal). Moves (parsing.handed c.args.place x so.outer) new c.hand.result)
    (sym (ap (λ (l : OpenBracket). parsing.whole_of c.args.place (parsing.ended c.args.place (bracket_shown tokens l))) (sym written) ∙ c.in_ok-element.ensures))
    (c.hand.ensures tokens))
