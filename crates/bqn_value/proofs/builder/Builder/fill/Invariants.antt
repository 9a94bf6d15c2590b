use Rattle.std.proofs.Common.{◌≡◌, ◌++◌, replicate}
use Rattle.bqn_value.specs.Meaning.{plain}
use Rattle.bqn_value.proofs.builder.Builder.fill.Given as goal

abbrev pub invariant-loop-i : goal.invariant-loop-i
invariant-loop-i l = l.self ≡ l.initial.self ++ replicate l.i (plain l.v)
