-- The definitions of a body, one mention after another.
use Rattle.std.specs.Prelude.{not, ◌&&◌, ◌||◌, if◌then◌else◌, List, [], ◌∷◌, ◌++◌, ℕ}
use Rattle.bqn_syntax.specs.declared.token.Token.{Token}
use Rattle.bqn_syntax.specs.scope.Mentions.{Mention, Named}
use Rattle.bqn_syntax.specs.scope.Scope.{name_of, has, defines}
use Rattle.bqn_scope.specs.Tokens.{names_of_tokens}

-- the definitions once one more mention has been seen
abbrev pub defining : List (List ℕ) → List Token → Mention → List Token
defining known tokens (Named how t) =
    if defines how && not (has (names_of_tokens tokens) (name_of t) || has known (name_of t)) then tokens ++ t ∷ []
    else tokens
defining known tokens m = tokens

-- the names of definitions, the last one first, before those that are known before
abbrev pub behind : List Token → List (List ℕ) → List (List ℕ)
behind [] known = known
behind (t ∷ ts) known = behind ts (name_of t ∷ known)
