use Rattle.std.proofs.Common.{◌∙◌, sym, subst, ℕ, ◌+◌, arith}
use Rattle.bqn_parse.proofs.Marking.{Counted, counted-predicate, counted-other}
use Rattle.bqn_parse.proofs.marks.since_predicate.Goals as goal
use Rattle.bqn_parse.proofs.marks.since_predicate.Goals.{then-is_predicate, else-is_predicate}

pub loop-s-preserved : goal.loop-s-preserved
loop-s-preserved c =
    let now = c.loop-s in
    let item = c.s-item in
    elim c.if-is_predicate.branch [
      | then-is_predicate w ↦ subst (λ (n : ℕ). Counted n (now.s-index + 1) c.args.ss.now) (sym w.so-is) (counted-predicate now.so now.s-index item.result c.args.ss.now now.invariant (omega arith) item.is (sym c.is_predicate.ensures ∙ w.if-is_predicate.true))
      | else-is_predicate w ↦ subst (λ (n : ℕ). Counted n (now.s-index + 1) c.args.ss.now) (sym w.so-is) (counted-other now.so now.s-index item.result c.args.ss.now now.invariant (omega arith) item.is (sym c.is_predicate.ensures ∙ w.if-is_predicate.false))
    ]
