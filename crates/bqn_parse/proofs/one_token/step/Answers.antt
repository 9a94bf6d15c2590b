use Rattle.std.proofs.Common.{◌≡◌, ◌∙◌, ap, drop, subst}
use Rattle.bqn_syntax.specs.declared.sort.Inside.{Inside}
use Rattle.bqn_syntax.specs.declared.sort.Sort.{Sort}
use Rattle.bqn_syntax.specs.grammar.Parsing as parsing
use Rattle.bqn_parse.specs.declared.open_bracket.OpenBracket.{OpenBracket}
use Rattle.bqn_parse.specs.Looking.{ahead_shown}
use Rattle.bqn_parse.specs.Walking.{bracket_shown, walk_shown, Moves}
use Rattle.bqn_parse.proofs.one_token.step.Goals as goal

pub returns-in-Opens : goal.returns-in-Opens
returns-in-Opens c =
    let tokens = c.args.tokens.now in
    let so = walk_shown tokens c.args.walk.now in
    let new = walk_shown tokens c.enter.new.walk in
    let read : c.deref.result.now ≡ c.args.walk.now.inner.value = cc in
    subst (λ (s : Sort). Moves (parsing.step s (ahead_shown c.args.ahead) c.args.token.now (drop c.args.index tokens) so) new c.enter.result) c.in-Opens.ensures
    (subst (λ (i : Inside). Moves (parsing.opened i (drop c.args.index tokens) c.args.token.now.place so) new c.enter.result) (c.inside_of-inside.ensures tokens ∙ ap (λ (l : OpenBracket). parsing.inside_of c.in-Opens.bracket (ahead_shown c.args.ahead) (bracket_shown tokens l)) read) (c.enter.ensures tokens))

pub returns-in-Draws : goal.returns-in-Draws
returns-in-Draws c =
    let tokens = c.args.tokens.now in
    let so = walk_shown tokens c.args.walk.now in
    let new = walk_shown tokens c.take.new.walk in
    subst (λ (s : Sort). Moves (parsing.step s (ahead_shown c.args.ahead) c.args.token.now (drop c.args.index tokens) so) new c.take.result) c.in-Draws.ensures
    (c.take.ensures tokens)

pub returns-in-Joins : goal.returns-in-Joins
returns-in-Joins c =
    let tokens = c.args.tokens.now in
    let so = walk_shown tokens c.args.walk.now in
    let new = walk_shown tokens c.take-in-Joins.new.walk in
    subst (λ (s : Sort). Moves (parsing.step s (ahead_shown c.args.ahead) c.args.token.now (drop c.args.index tokens) so) new c.take-in-Joins.result) c.in-Joins.ensures
    (c.take-in-Joins.ensures tokens)

pub returns-in-Selects : goal.returns-in-Selects
returns-in-Selects c =
    let tokens = c.args.tokens.now in
    let so = walk_shown tokens c.args.walk.now in
    let new = walk_shown tokens c.take-in-Selects.new.walk in
    subst (λ (s : Sort). Moves (parsing.step s (ahead_shown c.args.ahead) c.args.token.now (drop c.args.index tokens) so) new c.take-in-Selects.result) c.in-Selects.ensures
    (c.take-in-Selects.ensures tokens)

pub returns-in-Skips : goal.returns-in-Skips
returns-in-Skips c =
    let tokens = c.args.tokens.now in
    let so = walk_shown tokens c.args.walk.now in
    let new = walk_shown tokens c.take-in-Skips.new.walk in
    subst (λ (s : Sort). Moves (parsing.step s (ahead_shown c.args.ahead) c.args.token.now (drop c.args.index tokens) so) new c.take-in-Skips.result) c.in-Skips.ensures
    (c.take-in-Skips.ensures tokens)

pub returns-in-Stands : goal.returns-in-Stands
returns-in-Stands c =
    let tokens = c.args.tokens.now in
    let so = walk_shown tokens c.args.walk.now in
    let new = walk_shown tokens c.take-in-Stands.new.walk in
    subst (λ (s : Sort). Moves (parsing.step s (ahead_shown c.args.ahead) c.args.token.now (drop c.args.index tokens) so) new c.take-in-Stands.result) c.in-Stands.ensures
    (c.take-in-Stands.ensures tokens)
