use Rattle.std.proofs.Common.{◌≡◌, ◌++◌, ◌∷◌, [], ◌∙◌, ap, sym, rules, Ok}
use Rattle.bqn_syntax.specs.grammar.Parsing as parsing
use Rattle.bqn_syntax.specs.grammar.Items.{Standing}
use Rattle.bqn_parse.specs.declared.open_bracket.OpenBracket.{OpenBracket}
use Rattle.bqn_parse.specs.Views.{element_of}
use Rattle.bqn_parse.specs.Walking.{around_shown, bracket_shown}
use Rattle.bqn_parse.proofs.Closing.{around-popped}
use Rattle.bqn_parse.proofs.close.hand.Goals as goal

pub returns : goal.returns
returns c = λ tokens.
    let outer = c.args.walk.now.outer.items in
    let rest = c.pop.new.self.items in
    let around = c.in-Some.around in
    let e : outer ≡ rest ++ around ∷ [] = search rules in
    let inner : c.deref_mut.result.now ≡ around.value = cc in
    ap (parsing.handed c.args.place (Ok (element_of c.args.element))) (around-popped tokens outer rest around e)
    ∙ ap (λ (l : parsing.OpenBracket). Ok (parsing.open_brackets l (around_shown tokens rest))) (ap (λ (l : OpenBracket). parsing.and_item (Standing (element_of c.args.element)) (bracket_shown tokens l)) (sym inner) ∙ sym (c.in_ok-and_item.ensures tokens))
