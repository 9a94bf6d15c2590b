-- What holds of the definitions of values themselves.
use Rattle.std.specs.Prelude.{◌≡◌, ◌≤◌, ◌^◌, ◌↔◌, ℕ, suc, nat_eq, ℤ, Bool, true, false, ◌&&◌, List, [], ◌∷◌, length, Option, Some, None, Ok}
use Rattle.std.specs.Cmp.{IsTotalOrder}
use Rattle.std.specs.declared.cmp.Ordering.TheVariants.{Equal}
use Rattle.bqn_base.specs.declared.fault.Fault.{Fault}
use Rattle.bqn_base.specs.declared.place.Place.{Place}
use Rattle.bqn_base.specs.Places.{nowhere}
use Rattle.bqn_rows.specs.Raised.{Raised, unplaced, stamped}
use Rattle.bqn_rows.specs.Plain.{Maker, Value, Number, Character, Array, Values, none, more, Fill, unfilled, filled, values, list, fill, count}
use Rattle.bqn_rows.specs.Relations.{weight, height, extent, identical, same, prototype, carried, fill_of, matching, ordered, levels, is_level}
use Rattle.bqn_rows.specs.Limits.{places, size, is_within, made, array, derived, block_function, is_made_of, is_identical_to, fits_elements, proper, all_proper, proper_fill}
use Rattle.bqn_rows.specs.Pervasion.{Row1, Row2, goes_in, fill_in, into_array, goes_into, fill_into, into_arrays, fill_depth}

-- ---- Match

abbrev mutual
  -- a value of numbers, characters and arrays alone, also in its fills
  pub is_data : Value → Bool
  is_data (Number n) = true
  is_data (Character c) = true
  is_data (Array shape xs f) = is_data_fill f && all_data xs
  is_data _ = false

  pub all_data : Values → Bool
  all_data none = true
  all_data (more x xs) = is_data x && all_data xs

  pub is_data_fill : Fill → Bool
  is_data_fill unfilled = true
  is_data_fill (filled v) = is_data v

abbrev mutual
  -- the value without its fills
  pub bare : Value → Value
  bare (Array shape xs f) = Array shape (all_bare xs) unfilled
  bare x = x

  pub all_bare : Values → Values
  all_bare none = none
  all_bare (more x xs) = more (bare x) (all_bare xs)

-- values are identical where they are equal, and the same where they are equal without their fills
pub record IdenticalIsEquality : Type 0 where
  pub equal : (w x : Value) → (identical w x ≡ true) ↔ (w ≡ x)
  pub equal_bare : (w x : Value) → (same w x ≡ true) ↔ (bare w ≡ bare x)

-- Match finds two values equal exactly where they are the same and, whatever their fills, data; it does not depend on which is left
pub record MatchIsSameData : Type 0 where
  pub exactly : (w x : Value) → (matching w x ≡ Ok true) ↔ ((is_data (bare w) ≡ true) × (same w x ≡ true))
  pub of_data : (w x : Value) → is_data w ≡ true → (matching w x ≡ Ok true) ↔ (same w x ≡ true)
  pub reflexive : (x : Value) → is_data (bare x) ≡ true → matching x x ≡ Ok true
  pub symmetric : (w x : Value) → matching w x ≡ matching x w
  pub transitive : (v w x : Value) → matching v w ≡ Ok true → matching w x ≡ Ok true → matching v x ≡ Ok true

-- ---- the order

-- the order is total, and what it does not tell apart matches, at any level; what matches it does not tell apart
pub record OrderIsTotal : Type 0 where
  pub total : IsTotalOrder ordered
  pub tied : (k : ℕ) (w x : Value) → proper w ≡ true → proper x ≡ true → is_level k (levels w) ≡ true → is_level k (levels x) ≡ true → ordered w x ≡ Equal
      → matching w x ≡ Ok true
  pub matched : (w x : Value) → matching w x ≡ Ok true → ordered w x ≡ Equal

abbrev pub all_of_level : ℕ → Values → Bool
all_of_level k none = true
all_of_level k (more x xs) = is_level k (levels x) && all_of_level k xs

-- numbers and characters have level 0 alone, and a list has level k + 1 where all its elements have level k
pub record LevelsAreOfElements : Type 0 where
  pub number : (k : ℕ) (n : ℤ) → is_level k (levels (Number n)) ≡ nat_eq k 0
  pub character : (k c : ℕ) → is_level k (levels (Character c)) ≡ nat_eq k 0
  pub list : (k n : ℕ) (xs : Values) (f : Fill) → is_level (suc k) (levels (Array (n ∷ []) xs f)) ≡ all_of_level k xs
  pub no_list : (n : ℕ) (xs : Values) (f : Fill) → is_level 0 (levels (Array (n ∷ []) xs f)) ≡ false

-- ---- limits

-- at most 16 axes, whose product without the zeros is at most 2^22
abbrev pub HasAxes : Value → Type 0
HasAxes (Array shape xs f) = (length shape ≤ 16) × (size shape ≤ 2 ^ 22)
HasAxes _ = Unit {0}

abbrev pub IsFill : Option Value → Type 0
IsFill None = Unit {0}
IsFill (Some v) = (is_identical_to v (prototype v) ≡ true) × (proper v ≡ true)

-- what is made is what was to be made, and keeps the limits; made of proper parts it is proper
pub record MadeIsWithinLimits : Type 0 where
  pub itself : (v made_value : Value) → made v ≡ Ok made_value → made_value ≡ v
  pub weighs : (v made_value : Value) → made v ≡ Ok made_value → weight made_value ≤ 2 ^ 22
  pub low : (v made_value : Value) → made v ≡ Ok made_value → height made_value ≤ 128
  pub axes : (v made_value : Value) → made v ≡ Ok made_value → HasAxes made_value
  pub proper_array : (shape : List ℕ) (xs : Values) (f : Option Value) (v : Value) → places shape ≡ count xs → all_proper xs ≡ true → IsFill f
      → array shape xs f ≡ Ok v → proper v ≡ true
  pub proper_derived : (maker : Maker) (parts : Values) (v : Value) → is_made_of maker parts ≡ true → all_proper parts ≡ true → derived maker parts ≡ Ok v
      → proper v ≡ true
  pub proper_function : (block environment : ℕ) (operands : Values) (v : Value) → count operands ≤ 2 → all_proper operands ≡ true
      → block_function block environment operands ≡ Ok v → proper v ≡ true

-- what an array is proper by
pub record ProperArray (shape : List ℕ) (xs : Values) (f : Fill) : Type 0 where
  pub within : is_within (Array shape xs f) ≡ true
  pub counted : places shape ≡ count xs
  pub parts : all_proper xs ≡ true
  pub fits : fits_elements xs f ≡ true
  pub fill : proper_fill f ≡ true

-- an array is proper where its parts are; what it carries may be carried
pub record ProperByParts : Type 0 where
  pub parts : (shape : List ℕ) (xs : Values) (f : Fill) → proper (Array shape xs f) ≡ true → ProperArray shape xs f
  pub whole : (shape : List ℕ) (xs : Values) (f : Fill) → ProperArray shape xs f → proper (Array shape xs f) ≡ true
  pub fill : (shape : List ℕ) (xs : Values) (f : Fill) → proper (Array shape xs f) ≡ true → IsFill (carried f)

-- proper values keep the limits; fills within fills nest at most 256 deep
pub record ProperIsWithinLimits : Type 0 where
  pub weighs : (v : Value) → proper v ≡ true → weight v ≤ 2 ^ 22
  pub low : (v : Value) → proper v ≡ true → height v ≤ 128
  pub axes : (v : Value) → proper v ≡ true → HasAxes v
  pub nests : (v : Value) → proper v ≡ true → extent v ≤ 256

-- a prototype is its own prototype, as large as the value, and proper where the value is; so the fill of a proper value may be carried
pub record PrototypesAreFills : Type 0 where
  pub own : (v p : Value) → prototype v ≡ Some p → prototype p ≡ Some p
  pub weight_kept : (v p : Value) → prototype v ≡ Some p → weight p ≡ weight v
  pub height_kept : (v p : Value) → prototype v ≡ Some p → height p ≡ height v
  pub proper_kept : (v p : Value) → proper v ≡ true → prototype v ≡ Some p → proper p ≡ true
  pub fill : (v p : Value) → proper v ≡ true → fill_of v ≡ Some p → IsFill (Some p)

-- ---- rows of values

-- rows are lists, and fills are options
pub record RowsAreLists : Type 0 where
  pub list_of_row : (xs : List Value) → list (values xs) ≡ xs
  pub row_of_list : (xs : Values) → values (list xs) ≡ xs
  pub counted : (xs : List Value) → count (values xs) ≡ length xs
  pub carried_fill : (f : Option Value) → carried (fill f) ≡ f
  pub fill_carried : (f : Fill) → fill (carried f) ≡ f

-- ---- arithmetic

-- of proper arguments a row's answer is the same, however much deeper the fills of fills are followed
pub record FillsAreFollowed : Type 0 where
  pub alone : (row : Row1) (n : ℕ) (x : Value) → fill_depth ≤ n → proper x ≡ true → goes_in row (fill_in row n) x ≡ into_array row x
  pub two : (row : Row2) (n : ℕ) (w x : Value) → fill_depth ≤ n → proper w ≡ true → proper x ≡ true → goes_into row (fill_into row n) w x ≡ into_arrays row w x

-- ---- places

-- a place that is there stays, one that has none gets this one, and none where this is none
pub record PlacesStay : Type 0 where
  pub kept : (p q : Place) (f : Fault) → stamped p (record { fault = f; place = Some q }) ≡ record { fault = f; place = Some q }
  pub given : (line column : ℕ) (f : Fault) → stamped (record { line = suc line; column = column }) (unplaced f)
      ≡ record { fault = f; place = Some (record { line = suc line; column = column }) }
  pub no_place : (r : Raised) → stamped nowhere r ≡ r
  pub once : (p q : Place) (r : Raised) → stamped p (stamped p r) ≡ stamped p r
