-- What holds of the definitions themselves.
use Rattle.std.specs.Prelude.{◌≡◌, ℕ, List, Some}
use Rattle.bqn_syntax.specs.text.Cut.{Cuts, pieces_of}

-- a text has at most one cut, and `pieces_of` is it, or none where there is none
pub record CutIsUnique : Type 0 where
  pub found : (text : List ℕ) (pieces : List (List ℕ)) → pieces_of text ≡ Some pieces → Cuts text pieces
  pub only : (text : List ℕ) (pieces : List (List ℕ)) → Cuts text pieces → pieces_of text ≡ Some pieces
