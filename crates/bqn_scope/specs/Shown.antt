-- What mentions and events stand for.
use Rattle.std.specs.Prelude.{List, [], ◌∷◌, map, reverse}
use Rattle.bqn_syntax.specs.declared.token.Token.{Token}
use Rattle.bqn_syntax.specs.grammar.Trees as plain_tree
use Rattle.bqn_syntax.specs.scope.Order as order
use Rattle.bqn_syntax.specs.scope.Mentions as plain
use Rattle.bqn_syntax.specs.scope.Mentions.{Mentions, no_mentions, and_mentions, Scopes, no_scopes, and_scopes, header_mentions, stmts_mentions}
use Rattle.bqn_scope.specs.declared.mention.How.{How}
use Rattle.bqn_scope.specs.declared.mention.How.TheVariants as how
use Rattle.bqn_scope.specs.declared.mention.Event.{Event}
use Rattle.bqn_scope.specs.declared.mention.Mention.{Mention as CodeMention, Mention-F, fold-Mention}
use Rattle.bqn_scope.specs.declared.mention.Own.{Own as CodeOwn, Own-F, fold-Own}

abbrev pub how_shown : How → order.How
how_shown how.Reads = order.Reads
how_shown how.Defines = order.Defines
how_shown how.Exports = order.Exports
how_shown how.Changes = order.Changes
how_shown how.Shows = order.Shows

abbrev pub event_shown : Event → order.How × Token
event_shown e = (how_shown e.how, e.token.now)

abbrev pub events_shown : List Event → List (order.How × Token)
events_shown all = map event_shown all

-- a body's own mentions and its order
pub record Own : Type 0 where
  pub mentions : Mentions
  pub order : List (order.How × Token)

abbrev pub mentions : List plain.Mention → Mentions
mentions [] = no_mentions
mentions (m ∷ ms) = and_mentions m (mentions ms)

abbrev pub scopes : List Own → Scopes
scopes [] = no_scopes
scopes (b ∷ bs) = and_scopes b.mentions b.order (scopes bs)

abbrev at_mention : Mention-F plain.Mention Own → plain.Mention
at_mention (Mention-F.Named h t) = plain.Named (how_shown h) t.now
at_mention (Mention-F.Special t) = plain.Special t.now
at_mention (Mention-F.System t) = plain.System t.now
at_mention (Mention-F.Inner bs) = plain.Inner (scopes bs)

abbrev at_own : Own-F plain.Mention Own → Own
at_own b = record { mentions = mentions b.mentions; order = events_shown b.order }

abbrev pub mention_of : CodeMention → plain.Mention
mention_of = fold-Mention plain.Mention Own at_mention at_own

abbrev pub own_of : CodeOwn → Own
own_of = fold-Own plain.Mention Own at_mention at_own

abbrev pub mentions_shown : List CodeMention → Mentions
mentions_shown all = mentions (map mention_of all)

abbrev pub scopes_shown : List CodeOwn → Scopes
scopes_shown all = scopes (map own_of all)

-- the same of a list that was filled from its end
abbrev pub events_backward : List Event → List (order.How × Token)
events_backward all = events_shown (reverse all)

abbrev pub mentions_backward : List CodeMention → Mentions
mentions_backward all = mentions_shown (reverse all)

abbrev pub scopes_backward : List CodeOwn → Scopes
scopes_backward all = scopes_shown (reverse all)

-- what a body of a tree shows
abbrev pub own_shown : plain_tree.BodyTree → Own
own_shown (plain_tree.body h ss) = record { mentions = header_mentions h (stmts_mentions ss no_mentions); order = order.order_of h ss }
