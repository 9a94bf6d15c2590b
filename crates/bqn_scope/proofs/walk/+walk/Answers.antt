use Rattle.std.proofs.Common.{◌∙◌, ap, sym, drop}
use Rattle.bqn_scope.specs.Bindings.{bindings_shown, hidden_shown, innermost, unbound}
use Rattle.bqn_scope.proofs.walk.+walk.Goals as goal

pub body-returns-in-Ok-leave-clause-bound : goal.body-returns-in-Ok-leave-clause-bound
body-returns-in-Ok-leave-clause-bound t c =
    c.in-Ok-leave.ensures.bindings
    ∙ ap (λ hs. unbound (hidden_shown hs) (bindings_shown c.walk.new.around.bindings)) c.as_slice.ensures.value
    ∙ ap (unbound (hidden_shown c.in-Ok.hidden.items)) (c.in-Ok-walk.ensures.bound ∙ ap innermost c.in-Ok-walk.ensures.same)
    ∙ c.in-Ok.ensures.hidden
    ∙ sym (ap innermost (c.in-Ok-leave.ensures.bodies ∙ ap (drop 1) (c.in-Ok-walk.ensures.same ∙ c.in-Ok.ensures.bodies)))
