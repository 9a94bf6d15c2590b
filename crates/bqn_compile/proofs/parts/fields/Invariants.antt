use Rattle.std.proofs.Common.{◌≡◌, map, reverse}
use Rattle.bqn_compile.specs.Expressions.{fields_code}
use Rattle.bqn_compile.specs.Walking.{pushes, setting_of, walked}
use Rattle.bqn_compile.proofs.parts.fields.Given as goal

abbrev pub invariant-loop-name : goal.invariant-loop-name
invariant-loop-name l = walked l.out ≡ pushes (fields_code (setting_of l.known).names (map (λ x. x.now) (reverse l.yielded))) (walked l.initial.out)
