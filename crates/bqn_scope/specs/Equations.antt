-- What each mention and body stands for, level by level.
use Rattle.std.proofs.Common.{◌≡◌, List, rules}
use denote.Ref.{Bor}
use Rattle.bqn_syntax.specs.declared.token.Token.{Token}
use Rattle.bqn_syntax.specs.scope.Mentions as plain
use Rattle.bqn_scope.specs.declared.mention.How.{How}
use Rattle.bqn_scope.specs.declared.mention.Mention.{the_lemmas}
use Rattle.bqn_scope.specs.declared.mention.Mention.TheVariants as mention
use Rattle.bqn_scope.specs.declared.mention.Own.{Own as CodeOwn, out-Own}
use Rattle.bqn_scope.specs.Shown.{how_shown, mention_of, own_of, mentions_shown, events_shown, scopes_shown}

pub mention-Named : (h : How) (t : Bor Token) → mention_of (mention.Named h t) ≡ plain.Named (how_shown h) t.now
mention-Named h t = search (rules, the_lemmas)

pub mention-Special : (t : Bor Token) → mention_of (mention.Special t) ≡ plain.Special t.now
mention-Special t = search (rules, the_lemmas)

pub mention-System : (t : Bor Token) → mention_of (mention.System t) ≡ plain.System t.now
mention-System t = search (rules, the_lemmas)

pub mention-Inner : (bs : List CodeOwn) → mention_of (mention.Inner bs) ≡ plain.Inner (scopes_shown bs)
mention-Inner bs = search (rules, the_lemmas)

pub own-out : (b : CodeOwn) → own_of b ≡ record { mentions = mentions_shown (out-Own b).mentions; order = events_shown (out-Own b).order }
own-out b = search (rules, the_lemmas)

pub ruleset of_mentions = (mention-Named, mention-Special, mention-System, mention-Inner, own-out)
