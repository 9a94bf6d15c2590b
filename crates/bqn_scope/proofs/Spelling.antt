-- The place of a name, among keys and among the names that they spell.
use Rattle.std.proofs.Common.{◌≡◌, ℕ, ◌+◌, ◌<◌, ◌≤◌, zero, suc, Bool, true, false, not, cond, if◌then◌else◌, List, [], ◌∷◌, ◌++◌, Option, Some, None, get_or, length, position, Vec, refl, sym, ap, ◌∙◌, arith}
use Rattle.std.specs.Prelude.{nat_eq, nat_lt, ◌||◌}
use Rattle.std.specs.List.{AllByRecursion, IsDistinct, position_or_len, list_any}
use Rattle.std.specs.Cmp.Lexicographic.{pointwise, nat_list_eq_equiv}
use Rattle.std.proofs.lemmas.List.{length-map}
use Rattle.std.proofs.lemmas.Bool.{le-ltb, lt-ltb}
use Rattle.std.proofs.lemmas.Bool.Decides.{nat_tests}
use Rattle.bqn_syntax.specs.scope.Scope.{has}
use Rattle.bqn_scope.specs.Names.{AreDistinct, spelled, place_of, with_place, added_unless_held, added}

one-more : (b a : Bool) (m n : ℕ) → a ≡ nat_lt m n → (b || a) ≡ nat_lt (cond (not b) (1 + m) 0) (suc n)
one-more true a m n e = sym (lt-ltb 0 (suc n) (omega arith))
one-more false a m n e = e ∙ behind m n
  where
    behind : (m n : ℕ) → nat_lt m n ≡ nat_lt (1 + m) (suc n)
    behind m n = grind (arith, nat_tests)

-- an element passes where one stands before the end
pub any-before : {X : Type 0} (p : X → Bool) (xs : List X) → list_any p xs ≡ nat_lt (position_or_len p xs) (length xs)
any-before p [] = refl
any-before p (x ∷ xs) = one-more (p x) (list_any p xs) (position_or_len p xs) (length xs) (any-before p xs)

is-none : (b : Bool) (i : ℕ) → cond b (Some i) None ≡ None → b ≡ false
is-none true i e = cc
is-none false i e = refl

pub none-passes : {X : Type 0} (p : X → Bool) (xs : List X) → position p xs ≡ None → list_any p xs ≡ false
none-passes p xs e = any-before p xs ∙ is-none (nat_lt (position_or_len p xs) (length xs)) (position_or_len p xs) e

pub absent : (names : List (List ℕ)) (name : List ℕ) → place_of names name ≡ None → has names name ≡ false
absent names name e = none-passes (λ other. pointwise nat_eq other name) names e

pub added-full : (name : List ℕ) (names : List (List ℕ)) → place_of names name ≡ None → 65535 ≤ length names → added names name ≡ with_place names None
added-full name names e full =
    ap (λ (p : Option ℕ). added_unless_held names name p) e
    ∙ ap (λ (room : Bool). if room then with_place (names ++ name ∷ []) (Some (length names)) else with_place names None) (le-ltb (length names) 65535 full)

pub added-new : (name : List ℕ) (names : List (List ℕ)) → place_of names name ≡ None → length names < 65535 → added names name ≡ with_place (names ++ name ∷ []) (Some (length names))
added-new name names e room =
    ap (λ (p : Option ℕ). added_unless_held names name p) e
    ∙ ap (λ (r : Bool). if r then with_place (names ++ name ∷ []) (Some (length names)) else with_place names None) (lt-ltb (length names) 65535 room)

module _ {A : Type 0} where
  abbrev pub same : List ℕ → Vec ℕ A → Bool
  same name key = pointwise nat_eq name key.items

  first-spelled : (name : List ℕ) (keys : List (Vec ℕ A)) → position_or_len (λ other. pointwise nat_eq other name) (spelled keys) ≡ position_or_len (same name) keys
  first-spelled name [] = refl
  first-spelled name (key ∷ keys) = λ i. cond (not (nat_list_eq_equiv.symm key.items name i)) (1 + first-spelled name keys i) 0

  pub length-spelled : (keys : List (Vec ℕ A)) → length (spelled keys) ≡ length keys
  length-spelled keys = length-map keys (λ (key : Vec ℕ A). key.items)

  unlike-spelled : (name : List ℕ) (keys : List (Vec ℕ A)) → AllByRecursion (λ (key : Vec ℕ A). pointwise nat_eq name key.items ≡ false) keys → AllByRecursion (λ other. pointwise nat_eq name other ≡ false) (spelled keys)
  unlike-spelled name [] h = tt
  unlike-spelled name (key ∷ keys) h = (h.0, unlike-spelled name keys h.1)

  pub distinct-spelled : (keys : List (Vec ℕ A)) → AreDistinct keys → IsDistinct (pointwise nat_eq) (spelled keys)
  unfolding IsDistinct
  distinct-spelled [] h = tt
  distinct-spelled (key ∷ keys) h = (unlike-spelled key.items keys h.0, distinct-spelled keys h.1)

  pub place-spelled : (name : List ℕ) (keys : List (Vec ℕ A)) → place_of (spelled keys) name ≡ position (same name) keys
  place-spelled name keys = λ i. cond (nat_lt (first-spelled name keys i) (length-spelled keys i)) (Some (first-spelled name keys i)) None

  pub has-spelled : (name : List ℕ) (keys : List (Vec ℕ A)) → has (spelled keys) name ≡ list_any (same name) keys
  has-spelled name [] = refl
  has-spelled name (key ∷ keys) = λ i. nat_list_eq_equiv.symm key.items name i || has-spelled name keys i

  spelled-pushed : (keys : List (Vec ℕ A)) (key : Vec ℕ A) → spelled (keys ++ key ∷ []) ≡ spelled keys ++ key.items ∷ []
  spelled-pushed [] key = refl
  spelled-pushed (k ∷ keys) key = ap (λ (names : List (List ℕ)). k.items ∷ names) (spelled-pushed keys key)

  abbrev pub inserted : List (Vec ℕ A) → Vec ℕ A → Bool → List (Vec ℕ A)
  inserted keys key there = if there then keys else keys ++ key ∷ []

  not-there : (name : List ℕ) (keys : List (Vec ℕ A)) (key : Vec ℕ A) → key.items ≡ name → has (spelled keys) name ≡ false → inserted keys key (list_any (same key.items) keys) ≡ keys ++ key ∷ []
  not-there name keys key e none = ap (inserted keys key) (ap (λ (spelling : List ℕ). list_any (same spelling) keys) e ∙ sym (has-spelled name keys) ∙ none)

  pub spelled-inserted : (name : List ℕ) (keys : List (Vec ℕ A)) (key : Vec ℕ A) → key.items ≡ name → has (spelled keys) name ≡ false → spelled (inserted keys key (list_any (same key.items) keys)) ≡ spelled keys ++ name ∷ []
  spelled-inserted name keys key e none =
      ap (λ (ks : List (Vec ℕ A)). spelled ks) (not-there name keys key e none)
      ∙ spelled-pushed keys key
      ∙ ap (λ (spelling : List ℕ). spelled keys ++ spelling ∷ []) e

  pub spelled-at : (keys : List (Vec ℕ A)) (i : ℕ) (key : Vec ℕ A) → key ≡ get_or keys i key → key.items ≡ get_or (spelled keys) i key.items
  spelled-at [] i key e = refl
  spelled-at (k ∷ keys) zero key e = ap (λ (x : Vec ℕ A). x.items) e
  spelled-at (k ∷ keys) (suc i) key e = spelled-at keys i key e

pub ruleset name_laws = (place-spelled, has-spelled, length-spelled, distinct-spelled, spelled-at)

pub ruleset added_laws = (added-full, added-new, absent)
