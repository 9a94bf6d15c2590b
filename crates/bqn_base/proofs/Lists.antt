-- Lists: places in lists that are joined, and what a loop from the end of a list has gone through.
use Rattle.std.proofs.Common.{◌≡◌, ℕ, zero, suc, ◌+◌, List, [], ◌∷◌, ◌++◌, length, map, reverse, slice_get, Option, Some, None, refl, ap, sym, subst, ◌∙◌, arith, Bor}
use Rattle.std.proofs.lemmas.List.{reverse-append, reverse-reverse, map-append}
use Rattle.std.proofs.lemmas.Option.{none-some}

pub some_same : {A : Type 0} {x y : A} → Some x ≡ Some y → x ≡ y
some_same {x = x} q = ap (λ o. elim o [ None ↦ x | Some z ↦ z ]) q

-- ---- places

pub at_front : {A : Type 0} (xs ys : List A) (k : ℕ) (x : A) → slice_get xs k ≡ Some x → slice_get (xs ++ ys) k ≡ Some x
at_front [] ys k x h = absurd (none-some x h)
at_front (y ∷ xs) ys zero x h = h
at_front (y ∷ xs) ys (suc k) x h = at_front xs ys k x h

pub at_same : {A : Type 0} (xs : List A) (j k : ℕ) (x : A) → j ≡ k → slice_get xs j ≡ Some x → slice_get xs k ≡ Some x
at_same xs j k x q h = subst (λ (n : ℕ). slice_get xs n ≡ Some x) q h

pub at_back : {A : Type 0} (xs ys : List A) (k : ℕ) (x : A) → slice_get ys k ≡ Some x → slice_get (xs ++ ys) (length xs + k) ≡ Some x
at_back [] ys k x h = at_same ys k (0 + k) x (omega arith) h
at_back (y ∷ xs) ys k x h = at_same (y ∷ (xs ++ ys)) (suc (length xs + k)) (suc (length xs) + k) x (omega arith) (at_back xs ys k x h)

-- ---- loops from the end

module _ {A B : Type 0} (f : A → B) where
  through : (xs : List (Bor A)) → map (λ x. f x.now) xs ≡ map f (map (λ x. x.now) xs)
  through [] = refl
  through (x ∷ xs) = ap (λ (ys : List B). f x.now ∷ ys) (through xs)

map_backward : {A B : Type 0} (f : A → B) (xs : List A) → map f (reverse xs) ≡ reverse (map f xs)
map_backward f [] = refl
map_backward {B = B} f (x ∷ xs) =
    ap (map f) (reverse-append (x ∷ []) xs)
    ∙ map-append f (reverse xs) (x ∷ [])
    ∙ ap (λ (ys : List B). ys ++ f x ∷ []) (map_backward f xs)
    ∙ sym (reverse-append (f x ∷ []) (map f xs))

-- the items that a loop from the end has had, from the last one
pub all_yielded : {A B : Type 0} (f : A → B) (all : List A) (yielded : List (Bor A)) → map (λ y. y.now) yielded ≡ reverse all
    → map (λ y. f y.now) (reverse yielded) ≡ map f all
all_yielded f all yielded e =
    through f (reverse yielded) ∙ ap (map f) (map_backward (λ y. y.now) yielded ∙ ap reverse e ∙ reverse-reverse all)

-- one more that is yielded from the end
pub yielded_more : {A B : Type 0} (f : A → B) (yielded : List (Bor A)) (x : Bor A)
    → map (λ y. f y.now) (reverse (yielded ++ x ∷ [])) ≡ f x.now ∷ map (λ y. f y.now) (reverse yielded)
yielded_more f yielded x = ap (map (λ y. f y.now)) (reverse-append yielded (x ∷ []))
