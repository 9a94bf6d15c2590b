use Rattle.std.proofs.Common.{◌≡◌, ◌<◌, ◌-◌, ℕ, true, false, length, drop, get_or, refl, sym, ◌∙◌, ap, arith}
use Rattle.std.proofs.lemmas.List.{drop_all, length-replicate, length-set}
use Rattle.bqn_code.specs.Conditions.{are_distinct}
use Rattle.bqn_verify.specs.Marks.{is_again}
use Rattle.bqn_verify.proofs.Marking.{no_heads, no_nexts, next_heads, next_nexts, still_distinct, again_found}
use Rattle.bqn_verify.proofs.marks.are_many_distinct.Goals as goal

pub loop-from-init : goal.loop-from-init
loop-from-init c = (
  ap (are_distinct c.args.names.now) (drop_all (length c.args.exports.now) c.args.exports.now (omega arith)),
  no_heads c.args.names.now c.args.exports.now 32768 65535 c.requires.few,
  no_nexts c.args.names.now c.args.exports.now 65535 c.requires.few,
  omega arith,
  length-replicate {A = ℕ} 32768 65535,
  length-replicate {A = ℕ} 65535 0,
)

pub returns-then-is_again_from : goal.returns-then-is_again_from
returns-then-is_again_from c =
    let inside : c.mark_at-mark.result < length c.loop-from.heads = omega (arith, c.mark_at-mark.ensures.within, c.loop-from.invariant.4) in
    let again : is_again c.args.names.now (get_or c.args.exports.now (c.loop-from.from - 1) (0, 0)).0 (drop (get_or c.loop-from.heads c.mark_at-mark.result 0) c.args.exports.now) ≡ true =
    ap (λ (k : ℕ). is_again c.args.names.now (get_or c.args.exports.now (c.loop-from.from - 1) (0, 0)).0 (drop k c.args.exports.now)) (sym c.from.ensures) ∙ (sym c.is_again_from.ensures ∙ c.if-is_again_from.true) in
    sym (again_found c.args.names.now c.args.exports.now c.loop-from.heads c.loop-from.from (get_or c.args.exports.now (c.loop-from.from - 1) (0, 0)).0 c.mark_at-mark.result (0, 0)
    (c.loop-from.invariant.1) c.loop-from-test.true (c.loop-from.invariant.3) refl inside c.mark_at-mark.ensures.mark again)

pub loop-from-preserved : goal.loop-from-preserved
loop-from-preserved c =
    let inside : c.mark_at-mark.result < length c.loop-from.heads = omega (arith, c.mark_at-mark.ensures.within, c.loop-from.invariant.4) in
    let new : is_again c.args.names.now (get_or c.args.exports.now (c.loop-from.from - 1) (0, 0)).0 (drop (get_or c.loop-from.heads c.mark_at-mark.result 0) c.args.exports.now) ≡ false =
    ap (λ (k : ℕ). is_again c.args.names.now (get_or c.args.exports.now (c.loop-from.from - 1) (0, 0)).0 (drop k c.args.exports.now)) (sym c.from.ensures) ∙ (sym c.is_again_from.ensures ∙ c.if-is_again_from.false) in (
      still_distinct c.args.names.now c.args.exports.now c.loop-from.heads c.loop-from.from (get_or c.args.exports.now (c.loop-from.from - 1) (0, 0)).0 c.mark_at-mark.result (0, 0)
          (c.loop-from.invariant.1) c.loop-from-test.true (c.loop-from.invariant.3) refl inside c.mark_at-mark.ensures.mark new (c.loop-from.invariant.0),
      next_heads c.args.names.now c.args.exports.now c.loop-from.heads c.loop-from.from c.mark_at-mark.result (0, 0) (c.loop-from.invariant.1) c.loop-from-test.true (c.loop-from.invariant.3) c.mark_at-mark.ensures.mark,
      next_nexts c.args.names.now c.args.exports.now c.loop-from.heads c.loop-from.next c.loop-from.from c.mark_at-mark.result (0, 0) (c.loop-from.invariant.1) (c.loop-from.invariant.2) c.loop-from-test.true (c.loop-from.invariant.3)
          (omega (arith, c.requires.few, c.loop-from.invariant.5)) inside c.mark_at-mark.ensures.mark,
      omega (arith, c.loop-from.invariant.3),
      length-set c.loop-from.heads c.mark_at-mark.result (c.loop-from.from - 1) ∙ c.loop-from.invariant.4,
      length-set c.loop-from.next (c.loop-from.from - 1) (get_or c.loop-from.heads c.mark_at-mark.result 0) ∙ c.loop-from.invariant.5,
    )
