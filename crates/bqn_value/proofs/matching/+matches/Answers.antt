use Rattle.std.proofs.Common.{sym, ap, ◌∙◌, arith}
use Rattle.bqn_value.specs.Meaning.{plain, bulk}
use Rattle.bqn_value.proofs.Within.{bulk-at}
use Rattle.bqn_value.proofs.Rows.{matched-end}
use Rattle.bqn_value.proofs.matching.+matches.Goals as goal

pub all_match-matches-requires : goal.all_match-matches-requires
all_match-matches-requires t c = (
  omega (arith, c.decreases, bulk-at c.args.ws.now c.loop-i.i c.index-ws-i.result c.loop-i-test.true, ap (λ v. bulk (plain v)) c.index-ws-i.is),
  tt,
)

pub all_match-returns : goal.all_match-returns
all_match-returns t c =
    sym (matched-end c.args.ws.now c.args.xs.now c.loop-i.i c.loop-i-test.false (omega arith) c.loop-i.invariant.within) ∙ c.loop-i.invariant.same
