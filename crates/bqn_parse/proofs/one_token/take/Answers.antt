use Rattle.std.proofs.Common.{◌≡◌, ◌∙◌, ap, sym, drop, Ok}
use Rattle.bqn_syntax.specs.grammar.Parsing as parsing
use Rattle.bqn_parse.specs.declared.open_bracket.OpenBracket.{OpenBracket}
use Rattle.bqn_parse.specs.Views.{item_of}
use Rattle.bqn_parse.specs.Walking.{around_shown, bracket_shown}
use Rattle.bqn_parse.proofs.one_token.take.Goals as goal

pub returns : goal.returns
returns c = λ tokens.
    let before : c.deref_mut.result.now ≡ c.args.walk.now.inner.value = cc in
    let begun : c.deref_mut-2.result.now ≡ c.begin.new.self = cc in
    ap (λ (l : parsing.OpenBracket). Ok (parsing.open_brackets l (around_shown tokens c.args.walk.now.outer.items)))
    (ap (parsing.and_item (item_of c.args.item)) (sym (ap (bracket_shown tokens) begun ∙ c.begin.ensures tokens ∙ ap (λ (l : OpenBracket). parsing.begun (drop c.args.index tokens) (bracket_shown tokens l)) before)) ∙ sym (c.in_ok-and_item.ensures tokens))
