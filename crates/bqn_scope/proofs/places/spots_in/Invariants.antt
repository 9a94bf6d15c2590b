use Rattle.std.proofs.Common.{◌≡◌, take}
use Rattle.std.specs.List.{IsDistinct}
use Rattle.bqn_scope.specs.Tokens.{tokens_shown, spots_of, same_spot}
use Rattle.bqn_scope.proofs.places.spots_in.Given as goal

abbrev pub invariant-tokens : goal.invariant-tokens
invariant-tokens l = record {
  placed : l.spots.keys ≡ spots_of (tokens_shown (take l.token-index l.tokens));
  distinct : IsDistinct same_spot l.spots.keys;
}
