-- Tests of all elements of a list.
use Rattle.std.proofs.Common.{◌≡◌, ◌⊎◌, inl, inr, Bool, true, false, ◌&&◌, List, [], ◌∷◌, refl, ◌∙◌, ap}
use Rattle.std.specs.List.{list_all}

pub both : (a b : Bool) → a ≡ true → b ≡ true → (a && b) ≡ true
both a b p q = ap (λ x. x && b) p ∙ q

pub left : (a b : Bool) → (a && b) ≡ true → a ≡ true
left true b h = refl
left false b h = h

pub right : (a b : Bool) → (a && b) ≡ true → b ≡ true
right true b h = h
right false b h = cc

abbrev pub Within : {A : Type 0} → List A → A → Type 0
Within [] x = ⊥
Within (y ∷ ys) x = (x ≡ y) ⊎ Within ys x

-- what holds of all elements holds of each
pub of_each : {A : Type 0} (f : A → Bool) (xs : List A) → list_all f xs ≡ true → (x : A) → Within xs x → f x ≡ true
of_each f [] h x w = absurd w
of_each f (y ∷ ys) h x (inl e) = ap f e ∙ left (f y) (list_all f ys) h
of_each f (y ∷ ys) h x (inr w) = of_each f ys (right (f y) (list_all f ys) h) x w

pub of_all : {A : Type 0} (f : A → Bool) (xs : List A) → ((x : A) → Within xs x → f x ≡ true) → list_all f xs ≡ true
of_all f [] each = refl
of_all f (y ∷ ys) each = both (f y) (list_all f ys) (each y (inl refl)) (of_all f ys (λ x w. each x (inr w)))
