use Rattle.std.proofs.Common.{◌≡◌, ◌++◌, drop}
use Rattle.bqn_compile.specs.Bodies.{exports_code}
use Rattle.bqn_compile.specs.Walking.{setting_of}
use Rattle.bqn_compile.proofs.body_names.exports.Given as goal

abbrev pub invariant-loop-e : goal.invariant-loop-e
invariant-loop-e l = l.made.items ++ exports_code (setting_of l.known).names (drop l.e-index l.all) ≡ exports_code (setting_of l.known).names l.all
