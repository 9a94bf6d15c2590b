use Rattle.std.proofs.Common.{ℕ, List, sym, subst, ap, ◌∙◌}
use Rattle.bqn_value.specs.declared.value.Held.{Held}
use Rattle.bqn_value.specs.Meaning.{plains, plain_fill, Kept, Passes, carries}
use Rattle.bqn_value.specs.declared.value.Value.{Value}
use Rattle.bqn_rows.specs.Limits.{places}
use Rattle.bqn_value.proofs.Within.{kept-made}
use Rattle.bqn_value.proofs.value.Arr.new.Goals as goal

pub invariant_of-result : goal.invariant_of-result
invariant_of-result c =
    subst (λ (h : Held). Kept (record { shape = h.shape.items; elements = plains h.elements.items; fill = plain_fill h.fill }) h.load) (sym c.in-Ok-new.ensures.ok)
    (kept-made c.in-Ok-from_slice.shape.items c.args.elements.items (plain_fill c.args.fill) c.carried-fill.result c.in-Ok.l
    (subst (λ (s : List ℕ). Passes c.in-Ok.l s (plains c.args.elements.items)) (sym c.in-Ok-from_slice.ensures.items)
    (subst (λ (es : List Value). Passes c.in-Ok.l c.args.shape.now (plains es)) c.deref.ensures.value c.in-Ok.ensures))
    (ap places c.in-Ok-from_slice.ensures.items ∙ c.requires.counted) c.requires.parts c.requires.fill
    (c.carried-fill.ensures ∙ ap (λ es. carries (plains es) (plain_fill c.args.fill)) c.deref-2.ensures.value))
