use Rattle.std.proofs.Common.{◌≡◌, ◌++◌, drop}
use Rattle.bqn_compile.specs.Placing.{fields_places}
use Rattle.bqn_compile.proofs.placing.fields.Given as goal

abbrev pub invariant-loop-t : goal.invariant-loop-t
invariant-loop-t l = l.out.items ++ fields_places (drop l.t-index l.all) ≡ l.initial.out.items ++ fields_places l.all
