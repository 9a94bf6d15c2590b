-- Exports that differ, one after another.
use Rattle.std.proofs.Common.{◌≡◌, ◌<◌, ◌+◌, ℕ, suc, Bool, not, ◌&&◌, List, length, drop, get_or, slice_get, ◌∙◌, ap, arith, drop-cons}
use Rattle.std.specs.List.{list_any}
use Rattle.bqn_code.specs.Conditions.{are_distinct}
use Rattle.bqn_code.specs.Numbering.{same_name}

abbrev again : List (List ℕ) → (ℕ × ℕ) → List (ℕ × ℕ) → Bool
again names e es = list_any (λ other. same_name (slice_get names e.0) (slice_get names other.0)) es

at-front : (names : List (List ℕ)) (es : List (ℕ × ℕ)) (i : ℕ) (d : ℕ × ℕ) → i < length es → are_distinct names (drop i es) ≡ (not (again names (get_or es i d) (drop (i + 1) es)) && are_distinct names (drop (i + 1) es))
at-front names es i d h = ap (are_distinct names) (drop-cons es i d h) ∙ (let e : suc i ≡ i + 1 = omega arith in ap (λ (k : ℕ). not (again names (get_or es i d) (drop k es)) && are_distinct names (drop k es)) e)

pub distinct_step : (names : List (List ℕ)) (es : List (ℕ × ℕ)) (i : ℕ) (d : ℕ × ℕ) → i < length es → are_distinct names (drop i es) ≡ (not (list_any (λ other. same_name (slice_get names (get_or es i d).0) (slice_get names other.0)) (drop (i + 1) es)) && are_distinct names (drop (i + 1) es))
distinct_step names es i d h = at-front names es i d h

pub ruleset distinct_laws = (distinct_step)
