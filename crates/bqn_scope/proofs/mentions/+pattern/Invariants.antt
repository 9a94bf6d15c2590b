use Rattle.std.proofs.Common.{◌≡◌, map, reverse}
use Rattle.bqn_syntax.specs.scope.Mentions.{patterns_mentions}
use Rattle.bqn_syntax.specs.grammar.Trees.{pattern_of, patterns}
use Rattle.bqn_scope.specs.Shown.{how_shown, mentions_backward}
use Rattle.bqn_scope.proofs.mentions.+pattern.Given as goal

abbrev pub invariant-patterns-loop-q : goal.invariant-patterns-loop-q
invariant-patterns-loop-q l = mentions_backward l.mentions.items ≡ patterns_mentions (how_shown l.how) (patterns (map (λ x. pattern_of x.now) (reverse l.yielded))) (mentions_backward l.initial.mentions.items)
