-- Arrays nest at most as deep as a value is high.
use Rattle.std.proofs.Common.{◌≡◌, ◌≤◌, ℕ, true, max, List, ◌∷◌, ap, arith}
use Rattle.bqn_rows.specs.Plain.{Value, Number, Character, Array, Given, Derived, Function, Modifier1, Modifier2, Namespace, Values, none, more, values}
use Rattle.bqn_rows.specs.Relations.{depth, depths, height, heights}
use Rattle.bqn_rows.specs.Limits.{proper}
use Rattle.bqn_value.proofs.Within.{within}

mutual
  pub depth-height : (v : Value) → depth v ≤ height v
  depth-height (Array shape xs f) = omega (arith, depths-heights xs)
  depth-height (Number n) = omega arith
  depth-height (Character c) = omega arith
  depth-height (Given c) = omega arith
  depth-height (Derived m xs) = omega arith
  depth-height (Function b e xs) = omega arith
  depth-height (Modifier1 b e) = omega arith
  depth-height (Modifier2 b e) = omega arith
  depth-height (Namespace e) = omega arith

  pub depths-heights : (xs : Values) → depths xs ≤ heights xs
  depths-heights none = omega arith
  depths-heights (more x xs) = omega (arith, depth-height x, depths-heights xs)

pub proper-depth : (v : Value) → proper v ≡ true → depth v ≤ 128
proper-depth v h = omega (arith, depth-height v, (within v h).stands)

-- the greatest depth so far, one value further
pub depths-step : (so_far one next : ℕ) (x : Value) (before rest all : List Value) → before ≡ x ∷ rest → one ≡ depth x → next ≡ max so_far one
    → max so_far (depths (values before)) ≡ depths (values all) → max next (depths (values rest)) ≡ depths (values all)
depths-step so_far one next x before rest all a b c d = omega (arith, b, c, d, ap (λ xs. depths (values xs)) a)

pub ruleset depth_laws = (proper-depth)
