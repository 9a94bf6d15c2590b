-- What holds of the rows on numbers themselves.
use Rattle.std.specs.Prelude.{◌≡◌, ◌≤◌, ◌^◌, ℕ, Some}
use Rattle.bqn_base.specs.Numbers.{whole_root}

-- a whole root of degree 1 or more is found where there is one, and it is the only one
pub record RootsAreFound : Type 0 where
  pub root : (w x y : ℕ) → whole_root w x ≡ Some y → y ^ w ≡ x
  pub found : (w x y : ℕ) → 1 ≤ w → y ^ w ≡ x → whole_root w x ≡ Some y
