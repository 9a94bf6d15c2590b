-- Names that are added, by computation.
use Rattle.std.specs.Prelude.{◌≡◌, ℕ, List, [], ◌∷◌, Some, None, refl}
use lib.Chars.{codes}
use Rattle.bqn_scope.specs.Names.{added, place_of, with_place}

abbrev x : List ℕ
x = codes "x"

abbrev x1 : List ℕ
x1 = codes "x1"

abbrev s : List ℕ
s = codes "s"

first : added [] x ≡ with_place (x ∷ []) (Some 0)
first = refl

second : added (x ∷ []) x1 ≡ with_place (x ∷ x1 ∷ []) (Some 1)
second = refl

held : added (x ∷ x1 ∷ []) x1 ≡ with_place (x ∷ x1 ∷ []) (Some 1)
held = refl

held-first : place_of (x ∷ x1 ∷ []) x ≡ Some 0
held-first = refl

not-held : place_of (x ∷ x1 ∷ []) s ≡ None
not-held = refl
