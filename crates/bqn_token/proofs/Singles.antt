-- A character is searched among those of its part.
use Rattle.std.proofs.Common.{◌≡◌, ◌≤◌, ◌<◌, ◌+◌, ℕ, suc, List, [], ◌∷◌, Bool, true, false, Option, Some, None, length, refl, sym, ap, ◌∙◌, arith}
use Rattle.std.specs.Prelude.{nat_le, nat_lt, cond, not, ◌==◌, ◌||◌, ◌&&◌, position}
use Rattle.std.specs.Option.{is_some}
use Rattle.std.specs.List.{position_or_len}
use Rattle.std.proofs.lemmas.Bool.{eqb-true}
use Rattle.std.proofs.lemmas.Bool.Decides.{nat_tests}
use Rattle.std.proofs.lemmas.List.Folds.{list_any-append}
use Rattle.bqn_syntax.specs.text.Table.{is_one_of, singles}
use Rattle.bqn_token.specs.Singles.{primitives, marks, is_mark, place_between}

-- the place of a character, counted on from a number
abbrev place_from : ℕ → List ℕ → ℕ → Option ℕ
place_from count [] c = None
place_from count (d ∷ ds) c = cond (d == c) (Some count) (place_from (count + 1) ds c)

abbrev counted : ℕ → ℕ → ℕ → Option ℕ
counted count n most = cond (nat_lt n most) (Some (count + n)) None

counted-more : (count n most : ℕ) → counted count (1 + n) (suc most) ≡ counted (count + 1) n most
counted-more count n most =
    let test : nat_lt (1 + n) (suc most) ≡ nat_lt n most = grind (arith, nat_tests) in
    let place : count + (1 + n) ≡ count + 1 + n = omega arith in
    ap (λ (b : Bool). cond b (Some (count + (1 + n))) None) test ∙ ap (λ (k : ℕ). cond (nat_lt n most) (Some k) None) place

counted-first : (count most : ℕ) → counted count 0 (suc most) ≡ Some count
counted-first count most =
    let test : nat_lt 0 (suc most) ≡ true = grind (arith, nat_tests) in
    let place : count + 0 ≡ count = omega arith in
    ap (λ (b : Bool). cond b (Some (count + 0)) None) test ∙ ap (λ (k : ℕ). Some k) place

place_from-counted : (ds : List ℕ) (count c : ℕ) → counted count (position_or_len (λ d. d == c) ds) (length ds) ≡ place_from count ds c
place_from-counted [] count c = refl
place_from-counted (d ∷ ds) count c = at (d == c) (place_from-counted ds (count + 1) c)
  where
    at : (same : Bool) → counted (count + 1) (position_or_len (λ x. x == c) ds) (length ds) ≡ place_from (count + 1) ds c
        → counted count (cond (not same) (1 + position_or_len (λ x. x == c) ds) 0) (suc (length ds)) ≡ cond same (Some count) (place_from (count + 1) ds c)
    at true e = counted-first count (length ds)
    at false e = counted-more count (position_or_len (λ x. x == c) ds) (length ds) ∙ e

position-place_from : (ds : List ℕ) (c : ℕ) → position (λ d. d == c) ds ≡ place_from 0 ds c
position-place_from ds c =
    let n = position_or_len (λ d. d == c) ds in
    let none : 0 + n ≡ n = omega arith in
    ap (λ (k : ℕ). cond (nat_lt n (length ds)) (Some k) None) (sym none) ∙ place_from-counted ds 0 c

-- what a test leaves out is none of the characters that pass it
left_out : (test : ℕ → Bool) (c d : ℕ) (same : Bool) → (d == c) ≡ same → test c ≡ true → test d ≡ false → same ≡ false
left_out test c d true e passes fails = let is : d ≡ c = eqb-true d c e in let both : true ≡ false = sym passes ∙ ap test (sym is) ∙ fails in cc
left_out test c d false e passes fails = refl

abbrev within : ℕ → ℕ → ℕ → Bool
within first last d = nat_le first d && nat_lt d last

place_from-between : (first last c : ℕ) → within first last c ≡ true → (count : ℕ) (ds : List ℕ) → place_from count ds c ≡ place_between first last count ds c
place_from-between first last c inside count [] = refl
place_from-between first last c inside count (d ∷ ds) = at (within first last d) refl (place_from-between first last c inside (count + 1) ds)
  where
    at : (in_it : Bool) → within first last d ≡ in_it → place_from (count + 1) ds c ≡ place_between first last (count + 1) ds c
        → cond (d == c) (Some count) (place_from (count + 1) ds c) ≡ cond in_it (cond (d == c) (Some count) (place_between first last (count + 1) ds c)) (place_between first last (count + 1) ds c)
    at true is e = ap (λ (o : Option ℕ). cond (d == c) (Some count) o) e
    at false is e = ap (λ (b : Bool). cond b (Some count) (place_from (count + 1) ds c)) (left_out (within first last) c d (d == c) refl inside is) ∙ e

pub position-between : (first last c : ℕ) → first ≤ c → c < last → (ds : List ℕ) → position (λ d. d == c) ds ≡ place_between first last 0 ds c
position-between first last c le lt ds =
    let above : nat_le first c ≡ true = grind (arith, nat_tests) in
    let below : nat_lt c last ≡ true = grind (arith, nat_tests) in
    position-place_from ds c ∙ place_from-between first last c (ap (λ (b : Bool). b && nat_lt c last) above ∙ below) 0 ds

is_some-place_from : (ds : List ℕ) (count c : ℕ) → is_some (place_from count ds c) ≡ is_one_of ds c
is_some-place_from [] count c = refl
is_some-place_from (d ∷ ds) count c = at (d == c) (is_some-place_from ds (count + 1) c)
  where
    at : (same : Bool) → is_some (place_from (count + 1) ds c) ≡ is_one_of ds c → is_some (cond same (Some count) (place_from (count + 1) ds c)) ≡ (same || is_one_of ds c)
    at true e = refl
    at false e = e

pub is_some-position : (ds : List ℕ) (c : ℕ) → is_some (position (λ d. d == c) ds) ≡ is_one_of ds c
is_some-position ds c = ap (λ (o : Option ℕ). is_some o) (position-place_from ds c) ∙ is_some-place_from ds 0 c

singles-or : (c : ℕ) → (is_mark c || is_some (position (λ d. d == c) primitives)) ≡ is_one_of singles c
singles-or c = ap (λ (b : Bool). is_mark c || b) (is_some-position primitives c) ∙ sym (list_any-append (λ (d : ℕ). d == c) marks primitives)

pub singles-other : (c : ℕ) → is_mark c ≡ false → is_some (position (λ d. d == c) primitives) ≡ is_one_of singles c
singles-other c other = ap (λ (b : Bool). b || is_some (position (λ d. d == c) primitives)) (sym other) ∙ singles-or c
