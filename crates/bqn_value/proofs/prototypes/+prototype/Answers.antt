use Rattle.std.proofs.Common.{◌+◌, List, drop, Some, refl, ap, sym, subst, ◌∙◌, arith}
use Rattle.std.proofs.lemmas.List.{length-map}
use Rattle.bqn_rows.specs.Plain.{Value, values, Array, unfilled}
use Rattle.bqn_rows.specs.Relations.{prototypes}
use Rattle.bqn_rows.specs.Limits.{places}
use Rattle.bqn_value.specs.Meaning.{plain, plains, plain_fill, all_plains, array, bulk}
use Rattle.bqn_value.proofs.Build.{next-at, plains-push}
use Rattle.bqn_value.proofs.Within.{bulk-at}
use Rattle.bqn_value.proofs.Protos.{ProtosSoFar, protos-step, protos-none, protos-end, proto-array, made-bare, rest-end}
use Rattle.bqn_value.proofs.prototypes.+prototype.Goals as goal

pub prototypes-prototype-requires : goal.prototypes-prototype-requires
prototypes-prototype-requires t c = (
  omega (arith, c.decreases, bulk-at c.args.vs.now c.loop-v.v-index c.v-item.result c.loop-v-test.true, ap (λ v. bulk (plain v)) c.v-item.is),
  (next-at c.args.vs.now c.loop-v.v-index c.v-item.result c.v-item.result c.loop-v-test.true c.v-item.is refl c.loop-v.invariant.parts).one,
)

pub prototypes-returns-in-None : goal.prototypes-returns-in-None
prototypes-returns-in-None t c =
    let n = next-at c.args.vs.now c.loop-v.v-index c.v-item.result c.v-item.result c.loop-v-test.true c.v-item.is refl c.loop-v.invariant.parts in
    protos-none (plains c.loop-v.all.items) (plains (drop (c.loop-v.v-index + 1) c.args.vs.now)) (plains c.args.vs.now) (plain c.v-item.result)
    (subst (λ (r : List Value). ProtosSoFar (plains c.loop-v.all.items) r (plains c.args.vs.now)) n.here c.loop-v.invariant)
    (ap plain_fill (sym c.in-None.is) ∙ c.in-Ok-prototype.ensures)

pub prototypes-loop-v-preserved : goal.prototypes-loop-v-preserved
prototypes-loop-v-preserved t c =
    let n = next-at c.args.vs.now c.loop-v.v-index c.v-item.result c.v-item.result c.loop-v-test.true c.v-item.is refl c.loop-v.invariant.parts in
    protos-step (plains c.loop-v.all.items) (plains c.push.new.self.items) (plains (drop (c.loop-v.v-index + 1) c.args.vs.now)) (plains c.args.vs.now) (plain c.v-item.result) (plain c.in-Some.p)
    (subst (λ (r : List Value). ProtosSoFar (plains c.loop-v.all.items) r (plains c.args.vs.now)) n.here c.loop-v.invariant)
    (ap plain_fill (sym c.in-Some.is) ∙ c.in-Ok-prototype.ensures)
    (ap plains c.in-Ok-push.ensures.items ∙ plains-push c.loop-v.all.items c.in-Some.p)

pub prototypes-returns : goal.prototypes-returns
prototypes-returns t c =
    protos-end (plains c.loop-v.all.items) (plains c.args.vs.now)
    (subst (λ (r : List Value). ProtosSoFar (plains c.loop-v.all.items) r (plains c.args.vs.now)) (rest-end c.args.vs.now c.loop-v.v-index c.loop-v-test.false) c.loop-v.invariant)

pub prototype_of_array-new-requires-clause-counted : goal.prototype_of_array-new-requires-clause-counted
prototype_of_array-new-requires-clause-counted t c =
    let k = proto-array c.args.a.now (plains c.in-Some.items.items) c.count.ensures.whole (omega (arith, c.count.ensures.counted)) (ap all_plains (sym c.in-Some.is) ∙ c.in-Ok.ensures ∙ ap (λ ys. prototypes (values ys)) c.elements.ensures) in
    ap places c.shape.ensures ∙ k.counted ∙ length-map c.in-Some.items.items plain

pub prototype_of_array-new-requires-clause-parts : goal.prototype_of_array-new-requires-clause-parts
prototype_of_array-new-requires-clause-parts t c =
    (proto-array c.args.a.now (plains c.in-Some.items.items) c.count.ensures.whole (omega (arith, c.count.ensures.counted)) (ap all_plains (sym c.in-Some.is) ∙ c.in-Ok.ensures ∙ ap (λ ys. prototypes (values ys)) c.elements.ensures)).parts

pub prototype_of_array-returns-in-Ok-new : goal.prototype_of_array-returns-in-Ok-new
prototype_of_array-returns-in-Ok-new t c =
    let k = proto-array c.args.a.now (plains c.in-Some.items.items) c.count.ensures.whole (omega (arith, c.count.ensures.counted)) (ap all_plains (sym c.in-Some.is) ∙ c.in-Ok.ensures ∙ ap (λ ys. prototypes (values ys)) c.elements.ensures) in
    ap Some (made-bare c.shape.result.now (plains c.in-Some.items.items) (array c.in-Ok-new.p) c.in-Ok-new.ensures ∙ ap (λ s. Array s (values (plains c.in-Some.items.items)) unfilled) c.shape.ensures) ∙ sym k.made
