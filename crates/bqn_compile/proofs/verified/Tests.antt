-- Two tests together, and tests of all elements of lists.
use Rattle.std.proofs.Common.{◌≡◌, ◌&&◌, ◌||◌, Bool, true, false, List, [], ◌∷◌, ◌++◌, refl}
use Rattle.std.specs.List.{list_all}
use Rattle.std.proofs.lemmas.Bool.{false≢true}

pub both_true : (a b : Bool) → a ≡ true → b ≡ true → (a && b) ≡ true
both_true true b h k = k
both_true false b h k = h

pub left_true : (a b : Bool) → (a && b) ≡ true → a ≡ true
left_true true b h = refl
left_true false b h = h

pub right_true : (a b : Bool) → (a && b) ≡ true → b ≡ true
right_true true b h = h
right_true false b h = absurd (false≢true h)

pub or_left : (a b : Bool) → a ≡ true → (a || b) ≡ true
or_left true b h = refl
or_left false b h = absurd (false≢true h)

pub or_right : (a b : Bool) → b ≡ true → (a || b) ≡ true
or_right true b h = refl
or_right false b h = h

pub all_append : {A : Type 0} (test : A → Bool) (xs ys : List A) → list_all test xs ≡ true → list_all test ys ≡ true → list_all test (xs ++ ys) ≡ true
all_append test [] ys h k = k
all_append test (x ∷ xs) ys h k = both_true (test x) (list_all test (xs ++ ys)) (left_true (test x) (list_all test xs) h) (all_append test xs ys (right_true (test x) (list_all test xs) h) k)

pub all_front : {A : Type 0} (test : A → Bool) (xs ys : List A) → list_all test (xs ++ ys) ≡ true → list_all test xs ≡ true
all_front test [] ys h = refl
all_front test (x ∷ xs) ys h = both_true (test x) (list_all test xs) (left_true (test x) (list_all test (xs ++ ys)) h) (all_front test xs ys (right_true (test x) (list_all test (xs ++ ys)) h))

pub all_back : {A : Type 0} (test : A → Bool) (xs ys : List A) → list_all test (xs ++ ys) ≡ true → list_all test ys ≡ true
all_back test [] ys h = h
all_back test (x ∷ xs) ys h = all_back test xs ys (right_true (test x) (list_all test (xs ++ ys)) h)
