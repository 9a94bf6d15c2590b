-- The levels of a value are those of its elements, raised.
use Rattle.std.proofs.Common.{◌≡◌, ℕ, suc, max, Bool, true, false, ◌&&◌, nat_le, nat_eq, refl, ap, ◌∙◌, arith}
use Rattle.std.proofs.lemmas.Bool.Decides.{nat_tests}
use Rattle.bqn_rows.specs.Plain.{Values, none, more}
use Rattle.bqn_rows.specs.Relations.{Levels, no_level, only, from, raised, if_level, common, levels, all_levels, is_level}
use Rattle.bqn_rows.specs.Laws.{all_of_level, LevelsAreOfElements}

is_level-if : (k : ℕ) (b : Bool) (l : Levels) → is_level k (if_level b l) ≡ b && is_level k l
is_level-if k true l = refl
is_level-if k false l = refl

only-only : (k i j : ℕ) → nat_eq i j && nat_eq i k ≡ nat_eq i k && nat_eq j k
only-only k i j = grind (arith, nat_tests)

only-from : (k i j : ℕ) → nat_le j i && nat_eq i k ≡ nat_eq i k && nat_le j k
only-from k i j = grind (arith, nat_tests)

from-only : (k i j : ℕ) → nat_le i j && nat_eq j k ≡ nat_le i k && nat_eq j k
from-only k i j = grind (arith, nat_tests)

from-from : (k i j : ℕ) → nat_le (max i j) k ≡ nat_le i k && nat_le j k
from-from k i j = grind (arith, nat_tests)

and-false : (b : Bool) → false ≡ b && false
and-false true = refl
and-false false = refl

is_level-common : (k : ℕ) (l m : Levels) → is_level k (common l m) ≡ is_level k l && is_level k m
is_level-common k (only i) (only j) = is_level-if k (nat_eq i j) (only i) ∙ only-only k i j
is_level-common k (only i) (from j) = is_level-if k (nat_le j i) (only i) ∙ only-from k i j
is_level-common k (from i) (only j) = is_level-if k (nat_le i j) (only j) ∙ from-only k i j
is_level-common k (from i) (from j) = from-from k i j
is_level-common k no_level m = refl
is_level-common k (only i) no_level = and-false (nat_eq i k)
is_level-common k (from i) no_level = and-false (nat_le i k)

all-levels : (k : ℕ) (xs : Values) → is_level k (all_levels xs) ≡ all_of_level k xs
all-levels k none = grind (arith, nat_tests)
all-levels k (more x xs) = is_level-common k (levels x) (all_levels xs) ∙ ap (λ b. is_level k (levels x) && b) (all-levels k xs)

suc-raised : (k : ℕ) (l : Levels) → is_level (suc k) (raised l) ≡ is_level k l
suc-raised k no_level = refl
suc-raised k (only j) = grind (arith, nat_tests)
suc-raised k (from j) = grind (arith, nat_tests)

zero-raised : (l : Levels) → is_level 0 (raised l) ≡ false
zero-raised no_level = refl
zero-raised (only j) = grind (arith, nat_tests)
zero-raised (from j) = grind (arith, nat_tests)

turned : (k : ℕ) → nat_eq 0 k ≡ nat_eq k 0
turned k = grind (arith, nat_tests)

pub levels_are_of_elements : LevelsAreOfElements
levels_are_of_elements = record {
  number = λ k n. turned k;
  character = λ k c. turned k;
  list = λ k n xs f. suc-raised k (all_levels xs) ∙ all-levels k xs;
  no_list = λ n xs f. zero-raised (all_levels xs);
}

pub ruleset level_laws = (levels_are_of_elements)
