-- Tokens behind references, and their places as keys.
use Rattle.std.specs.Prelude.{ℕ, Bool, nat_eq, ◌&&◌, List, [], map, Option, Some, None}
use denote.Ref.{Bor}
use Rattle.bqn_syntax.specs.declared.token.Token.{Token}
use Rattle.bqn_syntax.specs.scope.Scope.{name_of}

abbrev pub tokens_shown : List (Bor Token) → List Token
tokens_shown tokens = map (λ t. t.now) tokens

-- the place as a pair
abbrev pub spot : Token → ℕ × ℕ
spot t = (t.place.line, t.place.column)

abbrev pub same_spot : ℕ × ℕ → ℕ × ℕ → Bool
same_spot p q = nat_eq p.0 q.0 && nat_eq p.1 q.1

abbrev pub spots_of : List Token → List (ℕ × ℕ)
spots_of tokens = map spot tokens

abbrev pub names_of_tokens : List Token → List (List ℕ)
names_of_tokens tokens = map name_of tokens

-- the names that are known before a body, if there are any
abbrev pub known_names : Option (Bor (List (List ℕ))) → List (List ℕ)
known_names None = []
known_names (Some names) = names.now
