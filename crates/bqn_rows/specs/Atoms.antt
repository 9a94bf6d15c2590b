-- Arithmetic and comparison on atoms: BQN's pages on arithmetic, on characters and on comparisons. Types are looked at before
-- values. NoCompare is this project's own.
use Rattle.std.specs.Prelude.{ℕ, Bool, true, false, not, ℤ, pos, negsuc, ◌+ℤ◌, ◌-ℤ◌, Result, Ok, Err}
use Rattle.std.specs.declared.cmp.Ordering.{Ordering}
use Rattle.bqn_base.specs.declared.fault.Fault.{Fault}
use Rattle.bqn_base.specs.declared.fault.Fault.TheVariants.{Domain}
use Rattle.bqn_base.specs.Arithmetic.{sum_of, difference_of}
use Rattle.bqn_base.specs.Numbers.{span_of}
use Rattle.bqn_base.specs.Shifts.{shift_of, distance_of}
use Rattle.bqn_rows.specs.Plain.{Value, Number, Character}
use Rattle.bqn_rows.specs.Relations.{matching, ordered}

abbrev pub as_number : Result ℤ Fault → Result Value Fault
as_number (Ok n) = Ok (Number n)
as_number (Err f) = Err f

abbrev pub truth : Bool → Value
truth true = Number (pos 1)
truth false = Number (pos 0)

abbrev pub as_truth : Result Bool Fault → Result Value Fault
as_truth (Ok b) = Ok (truth b)
as_truth (Err f) = Err f

-- a row that takes a number alone
abbrev pub of_number : (ℤ → Result ℤ Fault) → Value → Result Value Fault
of_number row (Number x) = as_number (row x)
of_number row x = Err Domain

-- a row that takes two numbers alone
abbrev pub of_numbers : (ℤ → ℤ → Result ℤ Fault) → Value → Value → Result Value Fault
of_numbers row (Number w) (Number x) = as_number (row w x)
of_numbers row w x = Err Domain

-- ---- characters

abbrev pub as_character : Result ℕ Fault → Result Value Fault
as_character (Ok c) = Ok (Character c)
as_character (Err f) = Err f

-- the character that far on
abbrev pub shifted : ℕ → ℤ → Result Value Fault
shifted c n = as_character (shift_of c n)

-- ---- rows that take characters

-- `w+x`: one of the two may be a character
abbrev pub atom_sum : Value → Value → Result Value Fault
atom_sum (Number w) (Number x) = as_number (sum_of w x)
atom_sum (Character w) (Number x) = shifted w x
atom_sum (Number w) (Character x) = shifted x w
atom_sum w x = Err Domain

-- `w-x`: a number from a character, or how far two characters are apart
abbrev pub atom_difference : Value → Value → Result Value Fault
atom_difference (Number w) (Number x) = as_number (difference_of w x)
atom_difference (Character w) (Number x) = shifted w (pos 0 -ℤ x)
atom_difference (Character w) (Character x) = Ok (Number (distance_of w x))
atom_difference w x = Err Domain

-- `w¬x`: the same and 1 more
abbrev pub atom_span : Value → Value → Result Value Fault
atom_span (Number w) (Number x) = as_number (span_of w x)
atom_span (Character w) (Number x) = shifted w (pos 1 -ℤ x)
atom_span (Character w) (Character x) = Ok (Number (distance_of w x +ℤ pos 1))
atom_span w x = Err Domain

-- ---- comparisons

-- `w=x` and `w≠x`: atoms of different types are unequal
abbrev pub atom_equal : Value → Value → Result Value Fault
atom_equal w x = as_truth (matching w x)

abbrev pub denied : Result Bool Fault → Result Bool Fault
denied (Ok b) = Ok (not b)
denied (Err f) = Err f

abbrev pub atom_unequal : Value → Value → Result Value Fault
atom_unequal w x = as_truth (denied (matching w x))

-- `w<x`, `w>x`, `w≤x` and `w≥x`: a number stands before a character
abbrev pub compared : (Ordering → Bool) → Value → Value → Result Value Fault
compared test (Number w) (Number x) = Ok (truth (test (ordered (Number w) (Number x))))
compared test (Number w) (Character x) = Ok (truth (test (ordered (Number w) (Character x))))
compared test (Character w) (Number x) = Ok (truth (test (ordered (Character w) (Number x))))
compared test (Character w) (Character x) = Ok (truth (test (ordered (Character w) (Character x))))
compared test w x = Err Domain
