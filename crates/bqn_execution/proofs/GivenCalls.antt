-- The given values that answer no part of their arguments but these themselves: rows on atoms, and the system functions.
use Rattle.std.proofs.Common.{ℕ, Bool, true, false, cond, List, ℤ, Option, Some, None, Result, Ok, Err}
use Rattle.bqn_base.specs.declared.fault.Fault.{Fault}
use Rattle.bqn_base.specs.declared.fault.Fault.TheVariants.{Domain}
use Rattle.bqn_rows.specs.Plain.{Value, Number, Character}
use Rattle.bqn_rows.specs.Arrays.{text_value}
use Rattle.bqn_rows.specs.Atoms.{as_number, as_character, as_truth, of_number, of_numbers, atom_sum, atom_difference, atom_span, atom_equal, atom_unequal, compared, denied, truth}
use Rattle.bqn_base.specs.Arithmetic.{sum_of, difference_of}
use Rattle.bqn_base.specs.Numbers.{span_of}
use Rattle.bqn_base.specs.Shifts.{shift_of}
use Rattle.bqn_rows.specs.Relations.{matching}
use Rattle.std.specs.declared.cmp.Ordering.{Ordering}
use Rattle.bqn_rows.specs.Calls.{System, out, show, repr, format, type, Write, answer, fault, known, system_call, called_system}
use Rattle.bqn_rows.specs.Shown.{shown, formatted, is_text}
use Rattle.bqn_base.specs.Printed.{line}
use Rattle.bqn_code.specs.Numbering.{Table}
use Rattle.bqn_execution.specs.States.{Environment}
use Rattle.bqn_execution.specs.Soundness.{Good, Fine}
use Rattle.bqn_execution.proofs.GoodValues.{GoodResult, good_later, raised_good, text_good}

module _ (t : Table) (es : List Environment) where
  -- ---- rows on atoms

  pub number_good : (r : Result ℤ Fault) → GoodResult t es (as_number r)
  number_good (Ok n) = tt
  number_good (Err f) = tt

  character_good : (r : Result ℕ Fault) → GoodResult t es (as_character r)
  character_good (Ok c) = tt
  character_good (Err f) = tt

  truth_good : (b : Bool) → Good t es (truth b)
  truth_good true = tt
  truth_good false = tt

  pub as_truth_good : (r : Result Bool Fault) → GoodResult t es (as_truth r)
  as_truth_good (Ok b) = truth_good b
  as_truth_good (Err f) = tt

  pub of_number_good : (row : ℤ → Result ℤ Fault) (x : Value) → GoodResult t es (of_number row x)
  of_number_good row (Number x) = number_good (row x)
  of_number_good row _ = tt

  pub of_numbers_good : (row : ℤ → ℤ → Result ℤ Fault) (w x : Value) → GoodResult t es (of_numbers row w x)
  of_numbers_good row (Number w) (Number x) = number_good (row w x)
  of_numbers_good row _ _ = tt

  pub sum_good : (w x : Value) → GoodResult t es (atom_sum w x)
  sum_good (Number w) (Number x) = number_good (sum_of w x)
  sum_good (Character w) (Number x) = character_good (shift_of w x)
  sum_good (Number w) (Character x) = character_good (shift_of x w)
  sum_good _ _ = tt

  pub difference_good : (w x : Value) → GoodResult t es (atom_difference w x)
  difference_good (Number w) (Number x) = number_good (difference_of w x)
  difference_good (Character w) (Number x) = character_good (shift_of w _)
  difference_good (Character w) (Character x) = tt
  difference_good _ _ = tt

  pub span_good : (w x : Value) → GoodResult t es (atom_span w x)
  span_good (Number w) (Number x) = number_good (span_of w x)
  span_good (Character w) (Number x) = character_good (shift_of w _)
  span_good (Character w) (Character x) = tt
  span_good _ _ = tt

  pub equal_good : (w x : Value) → GoodResult t es (atom_equal w x)
  equal_good w x = as_truth_good (matching w x)

  pub unequal_good : (w x : Value) → GoodResult t es (atom_unequal w x)
  unequal_good w x = as_truth_good (denied (matching w x))

  pub compared_good : (test : Ordering → Bool) (w x : Value) → GoodResult t es (compared test w x)
  compared_good test (Number w) (Number x) = truth_good _
  compared_good test (Number w) (Character x) = truth_good _
  compared_good test (Character w) (Number x) = truth_good _
  compared_good test (Character w) (Character x) = truth_good _
  compared_good test _ _ = tt

  -- ---- system functions

  written_good : (text : List ℕ) (x : Value) → Good t es x → Fine t es (Write text (λ u. answer x))
  written_good text x g = λ u l. good_later t es u l x g

  system_fine : (f : System) (x : Value) → Good t es x → Fine t es (system_call f x)
  system_fine out x g = by (is_text x)
    where
      by : (b : Bool) → Fine t es (cond b (Write (line (formatted x)) (λ u. answer x)) (fault Domain))
      by true = written_good (line (formatted x)) x g
      by false = tt
  system_fine show x g = written_good (line (shown x)) x g
  system_fine repr x g = raised_good t es (text_value (shown x)) (text_good t es (shown x))
  system_fine format x g = by (is_text x)
    where
      by : (b : Bool) → Fine t es (cond b (answer x) (known (text_value (formatted x))))
      by true = g
      by false = raised_good t es (text_value (formatted x)) (text_good t es (formatted x))
  system_fine type x g = tt

  pub called_system_fine : (f : Option System) (w : Option Value) (x : Value) → Good t es x → Fine t es (called_system f w x)
  called_system_fine None w x g = tt
  called_system_fine (Some f) None x g = system_fine f x g
  called_system_fine (Some f) (Some w) x g = tt
