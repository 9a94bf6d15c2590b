-- How the rows of arithmetic go into arrays: BQN's page on arithmetic. The fill of an empty answer is this project's own.
use Rattle.std.specs.Prelude.{ℕ, zero, suc, ◌/◌, nat_eq, Bool, true, List, [], ◌∷◌, map, get_or, Option, Some, None, Result, Ok, Err}
use Rattle.std.specs.List.{range_with_len}
use Rattle.bqn_base.specs.declared.fault.Fault.{Fault}
use Rattle.bqn_base.specs.declared.fault.Fault.TheVariants.{Length, Domain}
use Rattle.bqn_rows.specs.Plain.{Value, Array, Values, none, more, values}
use Rattle.bqn_rows.specs.Relations.{fill_of, prototype}
use Rattle.bqn_rows.specs.Limits.{places, array}
use Rattle.bqn_rows.specs.Arrays.{and_then, all_ok, axes, elements, natural}

abbrev pub Row1 : Type 0
Row1 = Value → Result Value Fault

abbrev pub Row2 : Type 0
Row2 = Value → Value → Result Value Fault

-- the prototype of an answer, if it is no fault
abbrev pub prototype_of : Result Value Fault → Option Value
prototype_of (Ok v) = prototype v
prototype_of (Err fault) = None

-- ---- one argument: the shape is kept

abbrev mutual
  -- `fills` is the fill of an empty answer
  pub goes_in : Row1 → (fills : Value → Option Value) → Value → Result Value Fault
  goes_in row fills (Array s xs f) = and_then (all_ok (each_in row fills xs)) (λ ys. array s (values ys) (fills (Array s xs f)))
  goes_in row fills x = row x

  pub each_in : Row1 → (fills : Value → Option Value) → Values → List (Result Value Fault)
  each_in row fills none = []
  each_in row fills (more x xs) = goes_in row fills x ∷ each_in row fills xs

abbrev pub of_fill : Row1 → Option Value → Option Value
of_fill row None = None
of_fill row (Some f) = prototype_of (row f)

-- the fill of an empty answer: the prototype of the row's answer on the argument's fill, in which fills nest at most so deep
abbrev pub fill_in : Row1 → ℕ → Value → Option Value
fill_in row zero x = None
fill_in row (suc n) x = of_fill (goes_in row (fill_in row n)) (fill_of x)

-- how deep: an array is at most 128 high and the fills in it have an extent of at most 128, so that any greater depth gives the same
abbrev pub fill_depth : ℕ
fill_depth = 256

-- a row on atoms, which goes into arrays
abbrev pub into_array : Row1 → Value → Result Value Fault
into_array row = goes_in row (fill_in row fill_depth)

-- ---- two arguments: one shape is the front of the other, else Length; each element meets the part of the other argument at the front of
-- its index; parts are taken in index order, and the first fault is the row's

-- the longer of two shapes, where the other is its front, and how many of its elements meet one of the left and one of the right
pub record Agreed : Type 0 where
  pub shape : List ℕ
  pub left : ℕ
  pub right : ℕ

abbrev pub in_front : Bool → ℕ → Option Agreed → Option Agreed
in_front true n (Some a) = Some (record a { shape = n ∷ a.shape })
in_front _ n a = None

abbrev pub agreed : (left right : List ℕ) → Option Agreed
agreed [] t = Some (record { shape = t; left = places t; right = 1 })
agreed s [] = Some (record { shape = s; left = 1; right = places s })
agreed (n ∷ s) (m ∷ t) = in_front (nat_eq n m) n (agreed s t)

abbrev pub where_agreed : {A : Type 0} → Option Agreed → (Agreed → Result A Fault) → Result A Fault
where_agreed None next = Err Length
where_agreed (Some a) next = next a

-- the answer at each place: what the row of the left part there gives of the right part there
abbrev pub met : List Row1 → List Value → Agreed → List (Result Value Fault)
met rows xs a = map (λ k. (get_or rows (k / a.left) (λ x. Err Domain)) (get_or xs (k / a.right) (natural 0))) (range_with_len 0 (places a.shape))

abbrev mutual
  pub goes_into : Row2 → (fills : Value → Value → Option Value) → Value → Value → Result Value Fault
  goes_into row fills (Array s ws f) x = where_agreed (agreed s (axes x))
      (λ a. and_then (all_ok (met (rows_of row fills ws) (elements x) a)) (λ ys. array a.shape (values ys) (fills (Array s ws f) x)))
  goes_into row fills w x = goes_in (row w) (fills w) x

  -- each left part's row
  pub rows_of : Row2 → (fills : Value → Value → Option Value) → Values → List Row1
  rows_of row fills none = []
  rows_of row fills (more w ws) = goes_into row fills w ∷ rows_of row fills ws

abbrev pub of_fills : Row2 → Option Value → Option Value → Option Value
of_fills row (Some f) (Some g) = prototype_of (row f g)
of_fills row f g = None

abbrev pub fill_into : Row2 → ℕ → Value → Value → Option Value
fill_into row zero w x = None
fill_into row (suc n) w x = of_fills (goes_into row (fill_into row n)) (fill_of w) (fill_of x)

-- a row on two atoms, which goes into arrays
abbrev pub into_arrays : Row2 → Value → Value → Result Value Fault
into_arrays row = goes_into row (fill_into row fill_depth)
