-- Tokens by their places.
use Rattle.std.proofs.Common.{◌≡◌, List, [], ◌∷◌, refl}
use Rattle.std.specs.Prelude.{◌||◌}
use Rattle.std.specs.List.{list_any}
use Rattle.bqn_syntax.specs.declared.token.Token.{Token}
use Rattle.bqn_syntax.specs.scope.Scope.{same_place}
use Rattle.bqn_scope.specs.Tokens.{spot, spots_of, same_spot}

pub any-spot : (t : Token) (tokens : List Token) → list_any (same_spot (spot t)) (spots_of tokens) ≡ list_any (same_place t) tokens
any-spot t [] = refl
any-spot t (u ∷ us) = λ i. same_place t u || any-spot t us i

pub ruleset spot_laws = (any-spot)
