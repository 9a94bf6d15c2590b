-- Lists of names without repeats, in the order in which the names came.
use Rattle.std.specs.Prelude.{◌≡◌, ℕ, nat_eq, nat_lt, if◌then◌else◌, List, [], ◌∷◌, ◌++◌, length, map, position, Option, Some, None, Result, Ok, Err, Vec, IsTrue}
use Rattle.std.specs.List.{IsDistinct, AllByRecursion, list_all}
use Rattle.std.specs.Cmp.Lexicographic.{pointwise}
use Rattle.bqn_base.specs.Names.{is_name_character}
use Rattle.bqn_scope.specs.declared.names.NamesError.{NamesError}
use Rattle.bqn_scope.specs.declared.names.NamesError.TheVariants.{Full, Memory}

-- the names that these keys spell
abbrev pub spelled : {A : Type 0} → List (Vec ℕ A) → List (List ℕ)
spelled keys = map (λ key. key.items) keys

-- no two keys spell the same name
abbrev pub AreDistinct : {A : Type 0} → List (Vec ℕ A) → Type 0
AreDistinct keys = IsDistinct (λ key other. pointwise nat_eq key.items other.items) keys

-- all keys are of the characters of names
abbrev pub AreNames : {A : Type 0} → List (Vec ℕ A) → Type 0
AreNames keys = AllByRecursion (λ key. IsTrue (list_all is_name_character key.items)) keys

-- the place of a name, if the list holds it
abbrev pub place_of : List (List ℕ) → List ℕ → Option ℕ
place_of names name = position (λ other. pointwise nat_eq other name) names

-- the list after a name is added, and the place of the name, if there is room for it
pub record Added : Type 0 where
  pub names : List (List ℕ)
  pub place : Option ℕ

abbrev pub with_place : List (List ℕ) → Option ℕ → Added
with_place names place = record { names = names; place = place }

-- a name goes to the end
abbrev pub grown : List (List ℕ) → List ℕ → Added
grown names name = with_place (names ++ name ∷ []) (Some (length names))

-- a new name goes to the end, where there are fewer than 65,535 names
abbrev pub appended : List (List ℕ) → List ℕ → Added
appended names name = if nat_lt (length names) 65535 then grown names name else with_place names None

abbrev pub added_unless_held : List (List ℕ) → List ℕ → Option ℕ → Added
added_unless_held names name (Some place) = with_place names (Some place)
added_unless_held names name None = appended names name

-- a name that the list holds keeps its place, and the list stays
abbrev pub added : List (List ℕ) → List ℕ → Added
added names name = added_unless_held names name (place_of names name)

-- what a call that adds a name has done to the list
abbrev pub Adds : List (List ℕ) → List ℕ → List (List ℕ) → Result ℕ NamesError → Type 0
Adds old name new (Ok place) = added old name ≡ with_place new (Some place)
Adds old name new (Err Full) = added old name ≡ with_place new None
Adds old name new (Err Memory) = new ≡ old

-- memory runs out only for a name that goes to the end
abbrev pub TakesMemory : List (List ℕ) → List ℕ → Result ℕ NamesError → Type 0
TakesMemory old name (Ok place) = Unit {0}
TakesMemory old name (Err Full) = Unit {0}
TakesMemory old name (Err Memory) = added old name ≡ grown old name
