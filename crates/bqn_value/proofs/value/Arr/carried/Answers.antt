use Rattle.std.proofs.Common.{◌∙◌, ap}
use Rattle.bqn_value.specs.declared.value.Held.{Held}
use Rattle.bqn_value.specs.Meaning.{plains, plain_fill}
use Rattle.bqn_value.proofs.Fills.{carries-fill}
use Rattle.bqn_value.proofs.value.Arr.carried.Goals as goal

pub returns-in-Ok-clause-own : goal.returns-in-Ok-clause-own
returns-in-Ok-clause-own c =
    let h = c.self.inside.held.value in
    carries-fill (record { shape = h.shape.items; elements = plains h.elements.items; fill = plain_fill h.fill }) (plain_fill c.in-Ok.f) c.self.invariant.whole
    (c.in-Ok.ensures ∙ ap (λ (k : Held). plain_fill k.fill) c.deref.ensures)
