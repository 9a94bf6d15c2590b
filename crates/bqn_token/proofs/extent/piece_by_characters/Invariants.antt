use Rattle.std.proofs.Common.{◌≡◌, drop}
use Rattle.bqn_syntax.specs.declared.progress.Progress.TheVariants.{Start}
use Rattle.bqn_syntax.specs.text.Cut.{longest}
use Rattle.bqn_token.proofs.Scan.{or_best}
use Rattle.bqn_token.proofs.extent.piece_by_characters.Given as goal

abbrev pub invariant-scan : goal.invariant-scan
invariant-scan l = or_best l.best l.i (longest l.progress (drop l.i l.text)) ≡ longest Start l.text
