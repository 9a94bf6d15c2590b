-- Which values can be made, and which are proper: all of it is this project's own.
use Rattle.std.specs.Prelude.{ℕ, zero, suc, ◌*◌, ◌^◌, nat_le, nat_eq, Bool, true, false, ◌&&◌, List, [], ◌∷◌, length, Option, Some, None, Result, Ok, Err}
use lib.Utf8.{scalar}
use Rattle.bqn_base.specs.declared.fault.Fault.{Fault}
use Rattle.bqn_base.specs.declared.fault.Fault.TheVariants.{TooLarge, TooDeep}
use Rattle.bqn_base.specs.Arithmetic.{fits}
use Rattle.bqn_rows.specs.Plain.{Maker, One, Two, Atop, Fork, Value, Number, Character, Array, Given, Derived, Function, Modifier1, Modifier2, Namespace, Values, none, more, Fill, unfilled, filled, count, is_given, is_given_modifier1, is_given_modifier2}
use Rattle.bqn_rows.specs.Relations.{weight, height, extent, identical, prototype}

-- the product of the axes
abbrev pub places : List ℕ → ℕ
places [] = 1
places (n ∷ shape) = n * places shape

-- the product of the axes that are not 0
abbrev pub size : List ℕ → ℕ
size [] = 1
size (zero ∷ shape) = size shape
size (suc n ∷ shape) = suc n * size shape

-- at most 16 axes, whose product without the zeros is at most 2^22
abbrev pub is_shape : List ℕ → Bool
is_shape shape = nat_le (length shape) 16 && nat_le (size shape) (2 ^ 22)

-- the limits of rank, axes and weight
abbrev pub is_small : Value → Bool
is_small (Array shape xs f) = is_shape shape && nat_le (weight (Array shape xs f)) (2 ^ 22)
is_small v = nat_le (weight v) (2 ^ 22)

-- the limit of height
abbrev pub is_low : Value → Bool
is_low v = nat_le (height v) 128

-- all limits
abbrev pub is_within : Value → Bool
is_within v = is_small v && is_low v

-- the value, or the fault of the first limit that it does not keep
abbrev pub if_low : Bool → Value → Result Value Fault
if_low true v = Ok v
if_low false v = Err TooDeep

abbrev pub if_within : (small low : Bool) → Value → Result Value Fault
if_within true low v = if_low low v
if_within false low v = Err TooLarge

-- the check of a value when it is made: TooLarge, or else TooDeep, or the value
abbrev pub made : Value → Result Value Fault
made v = if_within (is_small v) (is_low v) v

-- ---- making

abbrev pub kept : Bool → Value → Fill
kept true v = filled v
kept false v = unfilled

-- a fill of extent above 128 is not carried
abbrev pub carrying : Option Value → Fill
carrying None = unfilled
carrying (Some v) = kept (nat_le (extent v) 128) v

-- an array of a shape; it carries the fill where it is empty
abbrev pub array : List ℕ → Values → Option Value → Result Value Fault
array shape none f = made (Array shape none (carrying f))
array shape (more x xs) f = made (Array shape (more x xs) unfilled)

-- a derived function of these parts
abbrev pub derived : Maker → Values → Result Value Fault
derived maker parts = made (Derived maker parts)

-- a block's function with its operands; without any it is an atom, and always made
abbrev pub block_function : (block environment : ℕ) → Values → Result Value Fault
block_function block environment operands = made (Function block environment operands)

-- ---- proper values

-- a modifier has its operands, a train its parts
abbrev pub is_made_of : Maker → Values → Bool
is_made_of (One code) (more f none) = is_given_modifier1 code
is_made_of (Two code) (more f (more g none)) = is_given_modifier2 code
is_made_of Atop (more f (more g none)) = true
is_made_of Fork (more f (more g (more h none))) = true
is_made_of _ _ = false

abbrev pub is_identical_to : Value → Option Value → Bool
is_identical_to v None = false
is_identical_to v (Some w) = identical v w

-- what a fill may be: its own prototype, of extent at most 128
abbrev pub is_fill : Value → Bool
is_fill v = is_identical_to v (prototype v) && nat_le (extent v) 128

abbrev pub is_unfilled : Fill → Bool
is_unfilled unfilled = true
is_unfilled (filled v) = false

-- only an empty array carries a fill
abbrev pub fits_elements : Values → Fill → Bool
fits_elements none f = true
fits_elements (more x xs) f = is_unfilled f

abbrev mutual
  -- a value that a script can have
  pub proper : Value → Bool
  proper (Number n) = fits n
  proper (Character c) = scalar c
  proper (Array shape xs f) = (is_within (Array shape xs f) && nat_eq (places shape) (count xs)) && (all_proper xs && (fits_elements xs f && proper_fill f))
  proper (Given code) = is_given code
  proper (Derived maker parts) = (is_within (Derived maker parts) && is_made_of maker parts) && all_proper parts
  proper (Function block environment operands) = (is_within (Function block environment operands) && nat_le (count operands) 2) && all_proper operands
  proper (Modifier1 block environment) = true
  proper (Modifier2 block environment) = true
  proper (Namespace environment) = true

  pub all_proper : Values → Bool
  all_proper none = true
  all_proper (more x xs) = proper x && all_proper xs

  pub proper_fill : Fill → Bool
  proper_fill unfilled = true
  proper_fill (filled v) = is_fill v && proper v
