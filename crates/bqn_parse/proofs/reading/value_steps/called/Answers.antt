use Rattle.std.proofs.Common.{◌∷◌, [], List, map, sym, ap, ◌∙◌}
use Rattle.bqn_syntax.specs.grammar.Expressions.{steps_of}
use Rattle.bqn_syntax.specs.grammar.Trees.{Apply, none, step_of}
use Rattle.bqn_syntax.specs.grammar.Units.{Unit', Function}
use Rattle.bqn_parse.specs.Drafts.{function_of}
use Rattle.bqn_parse.specs.Leftward.{joined}
use Rattle.bqn_parse.proofs.Leftward.{joined-more}
use Rattle.bqn_parse.proofs.reading.value_steps.called.Goals as goal

pub returns-in_ok-push_monad-in-None-clause-means : goal.returns-in_ok-push_monad-in-None-clause-means
returns-in_ok-push_monad-in-None-clause-means c =
    let f = function_of c.args.function in
    let old = map step_of c.args.steps.now.items in
    let now = map step_of c.push_monad-in-None.new.steps.items in
    ap (λ (us : List Unit'). joined old (steps_of (Function f ∷ us))) c.in-None.ensures.next
    ∙ joined-more old now (Apply f none) (steps_of []) c.in_ok-push_monad-in-None.ensures
    ∙ ap (λ (us : List Unit'). joined now (steps_of us)) (sym c.in-None.ensures.rest)
