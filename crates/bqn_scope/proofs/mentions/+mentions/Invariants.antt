use Rattle.std.proofs.Common.{◌≡◌, map, reverse, drop}
use Rattle.bqn_syntax.specs.scope.Mentions.{exprs_mentions, parts_mentions, steps_mentions, uses_mentions, deriveds_mentions, stmts_mentions, scopes_of}
use Rattle.bqn_syntax.specs.grammar.Trees.{expr_of, part_of, step_of, derived_of, use_of, stmt_of, exprs, parts, steps, deriveds, uses, stmts, bodies, body_of}
use Rattle.bqn_scope.specs.Shown.{mentions_backward, scopes_backward}
use Rattle.bqn_scope.proofs.mentions.+mentions.Given as goal

abbrev pub invariant-exprs-loop-e : goal.invariant-exprs-loop-e
invariant-exprs-loop-e l = mentions_backward l.mentions.items ≡ exprs_mentions (exprs (map (λ x. expr_of x.now) (reverse l.yielded))) (mentions_backward l.initial.mentions.items)

abbrev pub invariant-parts-loop-x : goal.invariant-parts-loop-x
invariant-parts-loop-x l = mentions_backward l.mentions.items ≡ parts_mentions (parts (map (λ x. part_of x.now) (reverse l.yielded))) (mentions_backward l.initial.mentions.items)

abbrev pub invariant-uses-loop-u : goal.invariant-uses-loop-u
invariant-uses-loop-u l = mentions_backward l.mentions.items ≡ uses_mentions (uses (map (λ x. use_of x.now) (reverse l.yielded))) (mentions_backward l.initial.mentions.items)

abbrev pub invariant-deriveds-loop-d : goal.invariant-deriveds-loop-d
invariant-deriveds-loop-d l = mentions_backward l.mentions.items ≡ deriveds_mentions (deriveds (map (λ x. derived_of x.now) (reverse l.yielded))) (mentions_backward l.initial.mentions.items)

abbrev pub invariant-statements-loop-s : goal.invariant-statements-loop-s
invariant-statements-loop-s l = mentions_backward l.mentions.items ≡ stmts_mentions (stmts (map (λ x. stmt_of x.now) (reverse l.yielded))) (mentions_backward l.initial.mentions.items)

abbrev pub invariant-steps_of-loop-s : goal.invariant-steps_of-loop-s
invariant-steps_of-loop-s l = steps_mentions (steps (map step_of (drop l.s-index l.all))) (mentions_backward l.mentions.items) ≡ steps_mentions (steps (map step_of l.all)) (mentions_backward l.initial.mentions.items)

abbrev pub invariant-bodies-loop-b : goal.invariant-bodies-loop-b
invariant-bodies-loop-b l = scopes_backward l.owns.items ≡ scopes_of (bodies (map (λ x. body_of x.now) (reverse l.yielded)))
