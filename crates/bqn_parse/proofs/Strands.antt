-- Elements one by one.
use Rattle.std.proofs.Common.{◌≡◌, List, [], ◌∷◌, ◌++◌, Option, Some, None, refl, sym, ap, ◌∙◌, append_assoc}
use Rattle.std.proofs.lemmas.List.{append-nil}
use Rattle.std.specs.Option.{option_map}
use Rattle.bqn_syntax.specs.grammar.Items.{both, each}

-- these results, and then those
abbrev pub behind : {B : Type 0} → List B → Option (List B) → Option (List B)
behind ys rest = option_map (λ xs. ys ++ xs) rest

behind-both : {B : Type 0} (ys : List B) (y : B) (rest : Option (List B)) → behind ys (both (Some y) rest) ≡ behind (ys ++ y ∷ []) rest
behind-both ys y None = refl
behind-both {B} ys y (Some xs) = ap (λ (l : List B). Some l) (sym (append_assoc ys (y ∷ []) xs))

pub each-more : {A B : Type 0} (f : A → Option B) (ys : List B) (x : A) (y : B) (xs : List A) → Some y ≡ f x → behind ys (each f (x ∷ xs)) ≡ behind (ys ++ y ∷ []) (each f xs)
each-more {A} {B} f ys x y xs e = ap (λ (r : Option B). behind ys (both r (each f xs))) (sym e) ∙ behind-both ys y (each f xs)

pub each-stuck : {A B : Type 0} (f : A → Option B) (ys : List B) (x : A) (xs : List A) → None ≡ f x → behind ys (each f (x ∷ xs)) ≡ None
each-stuck {A} {B} f ys x xs e = ap (λ (r : Option B). behind ys (both r (each f xs))) (sym e)

pub each-done : {B : Type 0} (ys : List B) → behind ys (Some []) ≡ Some ys
each-done {B} ys = ap (λ (l : List B). Some l) (append-nil ys)

pub ruleset each_laws = (each-more, each-stuck, each-done)
