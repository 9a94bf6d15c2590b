use Rattle.std.proofs.Common.{ℕ, ◌+◌, drop, sym, subst, ap, ◌∙◌, arith}
use Rattle.bqn_rows.specs.Plain.{Values, more, values}
use Rattle.bqn_value.specs.Meaning.{plain, plains}
use Rattle.bqn_value.proofs.Within.{LoadsSoFar, loads-step, row-at}
use Rattle.bqn_value.proofs.making.loads.Goals as goal

pub loop-v-preserved : goal.loop-v-preserved
loop-v-preserved c =
    let rest = values (plains (drop (c.loop-v.v-index + 1) c.args.vs.now)) in
    let all = values (plains c.args.vs.now) in
    let e = row-at c.args.vs.now c.loop-v.v-index c.v-item.result c.loop-v-test.true ∙ ap (λ v. more (plain v) rest) (sym c.v-item.is) in
    let s = subst (λ (r : Values). LoadsSoFar c.loop-v.weight c.loop-v.height r all) e c.loop-v.invariant in
    subst (λ (h : ℕ). LoadsSoFar (c.loop-v.weight + c.load-l.result.weight) h rest all) (sym c.higher-height.ensures)
    (loads-step c.loop-v.weight c.loop-v.height (plain c.v-item.result) rest all c.load-l.result s c.load-l.ensures (omega arith))
