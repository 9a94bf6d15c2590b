-- A source that is accepted, with a pattern, an export and a field.
use Rattle.std.proofs.Common.{◌≡◌, ℕ, List, [], Result, Ok, Err, refl}
use Rattle.std.specs.Str.{chars, is_utf8}
use lib.Chars.{codes}
use lib.Utf8.{encode, encodes}
use Rattle.bqn_base.specs.declared.refusal.Refusal.{Refusal}
use Rattle.bqn_syntax.specs.declared.token.Token.{Token}
use Rattle.bqn_syntax.specs.grammar.Trees.{Stmts, no_stmts}
use Rattle.bqn_syntax.specs.grammar.Parsing.{parsed}
use Rattle.bqn_syntax.specs.scope.Bodies.{Resolution, resolution}
use Rattle.bqn_syntax.specs.text.Tokens.{tokens_of_source}
use Rattle.bqn_compile.specs.Sources.{FromSource}
use Rattle.bqn_compile.proofs.Accepted.{accepted_trees}

bytes : List ℕ
bytes = encodes (codes "⟨a,b⟩←1‿2⋄n←{c⇐a}⋄n.c+b")

abbrev or_else : {A : Type 0} → A → Result A Refusal → A
or_else other (Ok value) = value
or_else other (Err r) = other

tokens : List Token
tokens = or_else [] (tokens_of_source bytes)

tree : Stmts
tree = or_else no_stmts (parsed tokens)

names : Resolution
names = or_else (record { bodies = []; uses = [] }) (resolution [] tree)

reads : tokens_of_source bytes ≡ Ok tokens
unfolding bytes tokens chars is_utf8 encode
reads = refl

finds : parsed tokens ≡ Ok tree
unfolding bytes tokens tree chars is_utf8 encode
finds = refl

resolves : resolution [] tree ≡ Ok names
unfolding bytes tokens tree names chars is_utf8 encode
resolves = refl

from_source : FromSource [] tree tokens names
from_source = accepted_trees [] bytes tokens tree names reads finds resolves
