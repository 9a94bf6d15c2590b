use Rattle.std.proofs.Common.{◌≡◌, map, reverse}
use Rattle.bqn_syntax.specs.scope.Mentions.{target_mentions}
use Rattle.bqn_scope.specs.Shown.{mentions_backward}
use Rattle.bqn_scope.proofs.mentions.targets.Given as goal

abbrev pub invariant-loop-target : goal.invariant-loop-target
invariant-loop-target l = mentions_backward l.mentions.items ≡ target_mentions (map (λ x. x.now) (reverse l.yielded)) (mentions_backward l.initial.mentions.items)
