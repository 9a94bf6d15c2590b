use Rattle.std.proofs.Common.{◌≡◌, ◌<◌, ℕ, drop, get_or, slice_get, sym, ◌∙◌, ap, arith}
use Rattle.bqn_verify.specs.Marks.{is_again, mark_in}
use Rattle.bqn_verify.proofs.Marking.{skipped}
use Rattle.bqn_verify.proofs.marks.following.Goals as goal

pub returns-clause-same : goal.returns-clause-same
returns-clause-same c =
    let at : c.from-further.result ≡ get_or c.args.next.now c.args.at 0 = c.from-further.ensures in
    let same : mark_in (slice_get c.args.names.now c.args.name) ≡ mark_in (slice_get c.args.names.now (get_or c.args.exports.now c.args.at (0, 0)).0) =
    sym c.mark_at.ensures.mark ∙ (c.if-mark_at.false ∙ c.mark_at-else-further-at.ensures.mark) in
    let behind : c.args.at < get_or c.args.next.now c.args.at 0 = omega (arith, c.if-further-at.false, at) in
    ap (λ (k : ℕ). is_again c.args.names.now c.args.name (drop k c.args.exports.now)) at
    ∙ skipped c.args.names.now c.args.exports.now c.args.next.now c.args.name c.args.at (0, 0) c.requires.nexts c.requires.within behind same
