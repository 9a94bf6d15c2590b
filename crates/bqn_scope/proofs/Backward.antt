-- One more before a list that is filled from its end.
use Rattle.std.proofs.Common.{◌≡◌, List, [], ◌∷◌, ◌++◌, refl, ap, ◌∙◌}
use Rattle.std.proofs.lemmas.List.{reverse-append}
use Rattle.bqn_syntax.specs.grammar.Trees.{BodyTree, body}
use Rattle.bqn_syntax.specs.scope.Mentions.{and_mentions, Scopes, and_scopes, body_scope}
use Rattle.bqn_scope.specs.declared.mention.Event.{Event}
use Rattle.bqn_scope.specs.declared.mention.Mention.{Mention}
use Rattle.bqn_scope.specs.declared.mention.Own.{Own}
use Rattle.bqn_scope.specs.Shown.{Own as ShownOwn, own_shown, event_shown, events_shown, events_backward, mention_of, mentions_shown, mentions_backward, own_of, scopes_shown, scopes_backward}

pub events-more : (all : List Event) (e : Event) → events_backward (all ++ e ∷ []) ≡ event_shown e ∷ events_backward all
events-more all e = ap events_shown (reverse-append all (e ∷ []))

pub mentions-more : (all : List Mention) (m : Mention) → mentions_backward (all ++ m ∷ []) ≡ and_mentions (mention_of m) (mentions_backward all)
mentions-more all m = ap mentions_shown (reverse-append all (m ∷ []))

pub scopes-more : (all : List Own) (b : Own) → scopes_backward (all ++ b ∷ []) ≡ and_scopes (own_of b).mentions (own_of b).order (scopes_backward all)
scopes-more all b = ap scopes_shown (reverse-append all (b ∷ []))

pub own-scope : (b : BodyTree) (k : Scopes) → and_scopes (own_shown b).mentions (own_shown b).order k ≡ body_scope b k
own-scope (body h ss) k = refl

pub scope-more : (all : List Own) (o : Own) (b : BodyTree) → own_of o ≡ own_shown b → scopes_backward (all ++ o ∷ []) ≡ body_scope b (scopes_backward all)
scope-more all o b e = scopes-more all o ∙ ap (λ (s : ShownOwn). and_scopes s.mentions s.order (scopes_backward all)) e ∙ own-scope b (scopes_backward all)

pub ruleset backward_laws = (events-more, mentions-more, scope-more)
