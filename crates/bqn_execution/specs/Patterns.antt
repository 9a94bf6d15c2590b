-- How a value is taken apart by a pattern: BQN's pages on destructuring and on headers. A level that doesn't fit, or that asks for a
-- missing field, is found before any part of it is stored; what was stored before that stays.
use Rattle.std.specs.Prelude.{ℕ, nat_eq, Bool, true, ◌&&◌, [], ◌∷◌, List, slice_get, is_some, Option, Some, None, Result, Ok}
use Rattle.std.specs.Option.{option_and_then}
use Rattle.bqn_base.specs.declared.fault.Fault.{Fault}
use Rattle.bqn_rows.specs.Plain.{Value, Number, Character, Array, Namespace, Values, more, count}
use Rattle.bqn_meaning.specs.Actions.{◌>>=◌, pure, known, where_so}
use Rattle.bqn_rows.specs.Arrays.{text_value}
use Rattle.bqn_meaning.specs.Matching.{Fit, Fits, Mismatch, Missing, literal_fit, and_fit, must_fit}
use Rattle.bqn_code.specs.declared.constant.Const.{Const}
use Rattle.bqn_code.specs.declared.constant.Const.TheVariants as const
use Rattle.bqn_code.specs.Plain.{Pattern, Skip, Define, Change, ListPattern, Literal, Patterns, no_patterns, and_patterns, parts}
use Rattle.bqn_execution.specs.States.{State, Does}
use Rattle.bqn_code.specs.Numbering.{Table}
use Rattle.bqn_execution.specs.Variables.{Frame, define, change, field, field_place}

abbrev pub constant_value : Const → Result Value Fault
constant_value (const.Number n) = Ok (Number n)
constant_value (const.Char c) = Ok (Character c)
constant_value (const.Text cs) = text_value cs

-- whether a value matches the constant with this number; where there is none, it doesn't
abbrev pub constant_fit : Option Const → Value → Result Fit Fault
constant_fit None v = Ok Mismatch
constant_fit (Some c) v = literal_fit (constant_value c) v

-- ---- levels

-- the number of a leaf's name
abbrev pub name_number : Pattern → Option ℕ
name_number (Define slot name) = Some name
name_number (Change up slot name) = Some name
name_number _ = None

abbrev pub are_names : Patterns → Bool
are_names no_patterns = true
are_names (and_patterns p ps) = is_some (name_number p) && are_names ps

abbrev pub name_of : Frame → Pattern → Option (List ℕ)
name_of f p = option_and_then (slice_get f.here.code.names) (name_number p)

-- whether the namespace of an environment has a field for each leaf
abbrev pub has_fields : Table → Frame → State → (environment : ℕ) → Patterns → Bool
has_fields t f s n no_patterns = true
has_fields t f s n (and_patterns p ps) = is_some (field_place t s n (name_of f p)) && has_fields t f s n ps

module _ (t : Table) (f : Frame) where
  abbrev mutual
    -- a value is stored by a pattern
    pub fit : Pattern → Value → Does Fit
    fit Skip v = pure Fits
    fit (Define slot name) v = define t f slot v >>= (λ u. pure Fits)
    fit (Change up slot name) v = change t f up slot v >>= (λ u. pure Fits)
    fit (Literal k) v = known (constant_fit (slice_get f.here.code.constants k) v)
    fit (ListPattern ps) (Array (n ∷ []) xs fill) = where_so Mismatch (all_fit ps xs) (nat_eq (parts ps) (count xs))
    fit (ListPattern ps) (Namespace n) = where_so Mismatch (λ s. where_so Missing (fields_fit ps n) (has_fields t f s n ps) s) (are_names ps)
    fit (ListPattern ps) v = pure Mismatch

    pub all_fit : Patterns → Values → Does Fit
    all_fit (and_patterns p ps) (more x xs) = fit p x >>= and_fit (all_fit ps xs)
    all_fit ps xs = pure Fits

    -- each field is read when it is stored
    pub fields_fit : Patterns → (environment : ℕ) → Does Fit
    fields_fit no_patterns n = pure Fits
    fields_fit (and_patterns p ps) n = field t (name_of f p) (Namespace n) >>= (λ x. fit p x >>= and_fit (fields_fit ps n))

-- in an assignment what doesn't fit is a fault
abbrev pub bind : Table → Frame → Pattern → Value → Does (Unit {0})
bind t f p v = fit t f p v >>= must_fit
