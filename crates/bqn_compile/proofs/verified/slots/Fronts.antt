-- Lists that begin as others do, places in lists, and names by their spelling.
use Rattle.std.proofs.Common.{◌≡◌, ℕ, zero, suc, ◌+◌, ◌<◌, ◌||◌, not, cond, Bool, true, false, List, [], ◌∷◌, ◌++◌, length, slice_get, get_or, Some, None, arith, refl, sym, subst, ap, ◌∙◌, nat_eq, eq-eqb, append_assoc, append-nil}
use Rattle.std.specs.List.{list_any, position_or_len}
use Rattle.std.proofs.lemmas.Bool.{false≢true, eqb-true, lt-ltb}
use Rattle.std.proofs.lemmas.List.Quantifiers.{position-Some}
use Rattle.std.proofs.lemmas.Option.{slice_get-get_or, none-some}
pub use Rattle.bqn_base.proofs.Lists.{at_front, at_back, some_same}
use Rattle.bqn_syntax.specs.scope.Scope.{same_name, has, place_of}
use Rattle.bqn_compile.proofs.verified.Tests.{or_left, or_right, both_true, left_true, right_true}

-- the second list begins with the first
pub record Front {A : Type 0} (xs ys : List A) : Type 0 where
  pub rest : List A
  pub whole : xs ++ rest ≡ ys

pub front_same : {A : Type 0} (xs : List A) → Front xs xs
front_same xs = record { rest = []; whole = append-nil xs }

pub front_more : {A : Type 0} (xs ys : List A) → Front xs (xs ++ ys)
front_more xs ys = record { rest = ys; whole = refl }

pub front_trans : {A : Type 0} {xs ys zs : List A} → Front xs ys → Front ys zs → Front xs zs
front_trans {xs = xs} h k = record { rest = h.rest ++ k.rest; whole = sym (append_assoc xs h.rest k.rest) ∙ ap (λ l. l ++ k.rest) h.whole ∙ k.whole }

pub front_equal : {A : Type 0} {xs ys : List A} → xs ≡ ys → Front xs ys
front_equal {xs = xs} e = record { rest = []; whole = append-nil xs ∙ e }

pub front_at : {A : Type 0} {xs ys : List A} (k : ℕ) (x : A) → Front xs ys → slice_get xs k ≡ Some x → slice_get ys k ≡ Some x
front_at {xs = xs} k x h e = subst (λ l. slice_get l k ≡ Some x) h.whole (at_front xs h.rest k x e)

pub at_end : {A : Type 0} (xs : List A) (x : A) (ys : List A) → slice_get (xs ++ x ∷ ys) (length xs) ≡ Some x
at_end [] x ys = refl
at_end (y ∷ xs) x ys = at_end xs x ys

pub at_below : {A : Type 0} (xs : List A) (k : ℕ) (x : A) → slice_get xs k ≡ Some x → k < length xs
at_below [] k x h = absurd (none-some x h)
at_below (y ∷ xs) zero x h = omega arith
at_below (y ∷ xs) (suc k) x h = omega (arith, at_below xs k x h)

pub at_some : {A : Type 0} (xs : List A) (k : ℕ) → k < length xs → (x : A) × (slice_get xs k ≡ Some x)
at_some [] k h = absurd (omega arith)
at_some (x ∷ xs) zero h = (x, refl)
at_some (x ∷ xs) (suc k) h = at_some xs k (omega arith)

-- ---- truth values

pub by_either : (P : Type 0) (a b : Bool) → (a ≡ true → P) → (b ≡ true → P) → (a || b) ≡ true → P
by_either P true b l r h = l refl
by_either P false b l r h = r h

-- ---- names

pub same_equal : (a b : List ℕ) → same_name a b ≡ true → a ≡ b
same_equal [] [] h = refl
same_equal [] (y ∷ b) h = absurd (false≢true h)
same_equal (x ∷ a) [] h = absurd (false≢true h)
same_equal (x ∷ a) (y ∷ b) h = ap (λ (z : ℕ). z ∷ a) (eqb-true x y (left_true (nat_eq x y) _ h)) ∙ ap (λ l. y ∷ l) (same_equal a b (right_true (nat_eq x y) _ h))

pub same_itself : (a : List ℕ) → same_name a a ≡ true
same_itself [] = refl
same_itself (x ∷ a) = both_true (nat_eq x x) _ (eq-eqb x x refl) (same_itself a)

pub has_front : (xs ys : List (List ℕ)) (name : List ℕ) → has xs name ≡ true → has (xs ++ ys) name ≡ true
has_front [] ys name h = absurd (false≢true h)
has_front (x ∷ xs) ys name h = by_either ((same_name x name || has (xs ++ ys) name) ≡ true) (same_name x name) (has xs name) (λ e. or_left (same_name x name) _ e) (λ e. or_right (same_name x name) _ (has_front xs ys name e)) h

pub has_back : (xs ys : List (List ℕ)) (name : List ℕ) → has ys name ≡ true → has (xs ++ ys) name ≡ true
has_back [] ys name h = h
has_back (x ∷ xs) ys name h = or_right (same_name x name) _ (has_back xs ys name h)

pub has_more : {xs ys : List (List ℕ)} (name : List ℕ) → Front xs ys → has xs name ≡ true → has ys name ≡ true
has_more {xs = xs} name f h = subst (λ l. has l name ≡ true) f.whole (has_front xs f.rest name h)

any_there : {A : Type 0} (p : A → Bool) (xs : List A) → list_any p xs ≡ true → position_or_len p xs < length xs
any_there p [] h = absurd (false≢true h)
any_there p (x ∷ xs) h = step (p x) (λ e. any_there p xs e) h
  where
    step : (b : Bool) → (list_any p xs ≡ true → position_or_len p xs < length xs) → (b || list_any p xs) ≡ true → cond (not b) (1 + position_or_len p xs) 0 < length (x ∷ xs)
    step true rest h = omega arith
    step false rest h = omega (arith, rest h)

-- a name that is among names stands there in some place
pub placed : (names : List (List ℕ)) (name : List ℕ) → has names name ≡ true → (k : ℕ) × (place_of names name ≡ Some k)
placed names name h =
    let p : List ℕ → Bool = λ other. same_name other name in
    (position_or_len p names, ap (λ (b : Bool). cond b (Some (position_or_len p names)) None) (lt-ltb (position_or_len p names) (length names) (any_there p names h)))

-- the place of a name has it
pub place_spells : (names : List (List ℕ)) (name : List ℕ) (k : ℕ) → place_of names name ≡ Some k → slice_get names k ≡ Some name
place_spells names name k e =
    let found : (k < length names) × (same_name (get_or names k []) name ≡ true) × ((j : ℕ) → j < k → same_name (get_or names j []) name ≡ false) = position-Some (λ other. same_name other name) names k [] e in
    slice_get-get_or names k [] found.0 ∙ ap (λ n. Some n) (same_equal _ _ found.1)

pub place_below : (names : List (List ℕ)) (name : List ℕ) (k : ℕ) → place_of names name ≡ Some k → k < length names
place_below names name k e = (position-Some (λ other. same_name other name) names k [] e).0
