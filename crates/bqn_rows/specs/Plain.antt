-- Plain values: BQN's page on types, for whole numbers of 64 bits. Blocks and environments are told by their numbers, and which
-- code a given value has, and that a value carries such numbers, is this project's own.
use Rattle.std.specs.Prelude.{ℕ, suc, nat_lt, nat_le, Bool, true, false, ◌&&◌, ℤ, List, [], ◌∷◌, Option, Some, None}

-- what a derived function was made by: a given 1-modifier or 2-modifier, told by its code, or a train of two or of three parts
pub data Maker : Type 0 where
  One Two : ℕ → Maker
  Atop Fork : Maker

-- a value, a row of values, and the fill that an empty array may carry
mutual
  pub data Value : Type 0 where
    Number : ℤ → Value
    -- a character by its code point
    Character : ℕ → Value
    -- the lengths of the axes, the elements in index order, and for an empty array the fill that it carries
    Array : (shape : List ℕ) → Values → Fill → Value
    -- a primitive or a system value, by its code
    Given : (code : ℕ) → Value
    -- the operands, or the parts from left to right
    Derived : Maker → Values → Value
    -- a function that a block makes in an environment, with the operands where the block is a modifier
    Function : (block environment : ℕ) → Values → Value
    Modifier1 Modifier2 : (block environment : ℕ) → Value
    Namespace : (environment : ℕ) → Value

  pub data Values : Type 0 where
    none : Values
    more : Value → Values → Values

  pub data Fill : Type 0 where
    unfilled : Fill
    filled : Value → Fill

-- the row of a list of values, and the list of a row
abbrev pub values : List Value → Values
values [] = none
values (x ∷ xs) = more x (values xs)

abbrev pub list : Values → List Value
list none = []
list (more x xs) = x ∷ list xs

-- a fill, or none
abbrev pub fill : Option Value → Fill
fill None = unfilled
fill (Some v) = filled v

-- how many
abbrev pub count : Values → ℕ
count none = 0
count (more x xs) = suc (count xs)

-- ---- given values

-- codes 0 to 43 are the primitive functions, 44 to 52 the primitive 1-modifiers, 53 to 63 the 2-modifiers, 64 to 68 the system functions
abbrev pub is_given_modifier1 : ℕ → Bool
is_given_modifier1 code = nat_le 44 code && nat_lt code 53

abbrev pub is_given_modifier2 : ℕ → Bool
is_given_modifier2 code = nat_le 53 code && nat_lt code 64

-- a code that a value may have
abbrev pub is_given : ℕ → Bool
is_given code = nat_lt code 69

-- ---- types

-- the types that Match tells apart
pub data Kind : Type 0 where
  array number character function modifier1 modifier2 namespace : Kind

abbrev pub given_kind : ℕ → Kind
given_kind code = elim (is_given_modifier1 code) [ true ↦ modifier1 | false ↦ elim (is_given_modifier2 code) [ true ↦ modifier2 | false ↦ function ] ]

-- the type of a value
abbrev pub kind : Value → Kind
kind (Number n) = number
kind (Character c) = character
kind (Array shape xs f) = array
kind (Given code) = given_kind code
kind (Derived maker parts) = function
kind (Function block environment operands) = function
kind (Modifier1 block environment) = modifier1
kind (Modifier2 block environment) = modifier2
kind (Namespace environment) = namespace

-- the number of a type, as `•Type` gives it
abbrev pub kind_number : Kind → ℕ
kind_number array = 0
kind_number number = 1
kind_number character = 2
kind_number function = 3
kind_number modifier1 = 4
kind_number modifier2 = 5
kind_number namespace = 6
