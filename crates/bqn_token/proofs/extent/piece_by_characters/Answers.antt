use Rattle.std.proofs.Common.{rules, sym, ◌∙◌, true, false}
use Rattle.bqn_token.proofs.Scan.{scan-step}
use Rattle.bqn_token.proofs.extent.piece_by_characters.Goals.{then-may_end, else-may_end}
use Rattle.bqn_token.proofs.extent.piece_by_characters.Goals as goal

pub scan-preserved : goal.scan-preserved
scan-preserved c = elim c.if-may_end.branch [
  | then-may_end w ↦ rw w.best-is (sym (scan-step c.args.text.now c.scan.progress c.in-Some.after c.scan.best c.scan.i c.index-text-i.result true (search rules) (search rules) c.index-text-i.is (search rules)) ∙ c.scan.invariant)
  | else-may_end w ↦ rw w.best-is (sym (scan-step c.args.text.now c.scan.progress c.in-Some.after c.scan.best c.scan.i c.index-text-i.result false (search rules) (search rules) c.index-text-i.is (search rules)) ∙ c.scan.invariant)
]
