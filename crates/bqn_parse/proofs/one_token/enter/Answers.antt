use Rattle.std.proofs.Common.{◌≡◌, ◌<◌, ◌++◌, ◌∷◌, [], length, ap, ◌∙◌, arith, drop, Box}
use Rattle.std.specs.Global.{Global}
use Rattle.bqn_syntax.specs.grammar.Parsing as parsing
use Rattle.bqn_parse.specs.declared.open_bracket.OpenBracket.{OpenBracket}
use Rattle.bqn_parse.specs.Walking.{around_shown, bracket_shown, walk_shown}
use Rattle.bqn_parse.proofs.Stepping.{length-outer, opened-shown, pushed-shown}
use Rattle.bqn_parse.proofs.one_token.enter.Goals as goal

pub returns : goal.returns
returns c = λ tokens.
    let outer = c.args.walk.now.outer.items in
    let around = c.replace-around.result in
    let few : length outer < 128 = omega arith in
    let inner : c.replace-around.new.dest ≡ c.in_ok-inner.inner = c.replace-around.ensures.after in
    let before : c.deref_mut.result.now ≡ c.args.walk.now.inner.value = cc in
    let begun : around.value ≡ c.begin.new.self = cc in
    let pushed : c.push.new.self.items ≡ outer ++ around ∷ [] = c.in_ok-push.ensures.items in
    opened-shown c.args.inside (drop c.args.index tokens) c.args.place (walk_shown tokens c.args.walk.now) (bracket_shown tokens c.replace-around.new.dest.value) (around_shown tokens c.push.new.self.items)
    (omega (arith, length-outer tokens outer))
    (ap (λ (l : Box OpenBracket Global). bracket_shown tokens l.value) inner ∙ c.in_ok-inner.ensures tokens)
    (ap (around_shown tokens) pushed ∙ pushed-shown tokens outer around ∙ ap (λ (l : parsing.OpenBracket). l ∷ around_shown tokens outer) (ap (bracket_shown tokens) begun ∙ c.begin.ensures tokens ∙ ap (λ (l : OpenBracket). parsing.begun (drop c.args.index tokens) (bracket_shown tokens l)) before))
