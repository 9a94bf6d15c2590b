-- Which primitive has which code, and what a primitive answers: BQN's page on primitives. The codes are this project's own.
use Rattle.std.specs.Prelude.{List, [], ◌∷◌, Result, Ok, Err}
use Rattle.std.specs.Ordering.{is_lt, is_le, is_gt, is_ge}
use Rattle.bqn_base.specs.declared.fault.Fault.{Fault}
use Rattle.bqn_base.specs.declared.fault.Fault.TheVariants.{Domain}
use Rattle.bqn_base.specs.Arithmetic.{product_of, negative_of, sign_of}
use Rattle.bqn_base.specs.Numbers.{reciprocal_of, exponential_of, square_root_of, absolute_of, complement_of, quotient_of, power_of, root_of, lesser_of, greater_of, modulus_of, disjunction_of}
use Rattle.bqn_rows.specs.Plain.{Value}
use Rattle.bqn_rows.specs.Atoms.{of_number, of_numbers, atom_sum, atom_difference, atom_span, atom_equal, atom_unequal, compared}
use Rattle.bqn_rows.specs.Pervasion.{into_array, into_arrays}
use Rattle.bqn_rows.specs.Structure.{enclose_row, merge_row, length_row, rank_row, depth_row, shape_row, deshape_row, join_row, solo_row, enlist_row, prefixes_row, suffixes_row, range_row, nudge_back_row, nudge_row, reverse_row, transpose_row, assert_row, match_row, not_match_row, reshape_row, join_to_row, couple_row, pair_row, take_row, drop_row, windows_row, shift_after_row, shift_before_row, rotate_row, reorder_row, assert_with_row}
use Rattle.bqn_rows.specs.Selection.{indices_row, first_cell_row, first_row, replicate_row, select_row, pick_row}
use Rattle.bqn_rows.specs.Ordering.{sort_up_row, sort_down_row, grade_up_row, grade_down_row, bins_up_row, bins_down_row}
use Rattle.bqn_rows.specs.Searching.{classify_row, occurrence_row, mark_firsts_row, deduplicate_row, group_indices_row, index_of_row, progressive_row, member_row, find_row, group_row}

-- the primitive functions, in the order of their codes: + - × ÷ ⋆ √ ⌊ ⌈ | ¬ ∧ ∨ < > ≠ = ≤ ≥ ≡ ≢ ⊣ ⊢ ⥊ ∾ ≍ ⋈ ↑ ↓ ↕ « » ⌽ ⍉ / ⍋ ⍒ ⊏ ⊑ ⊐ ⊒ ∊ ⍷ ⊔ !
pub data Primitive : Type 0 where
  plus minus times divide power root floor ceiling bar not_sign : Primitive
  and_sign or_sign less greater unequal equal at_most at_least match not_match : Primitive
  left right reshape join couple pair take drop windows back : Primitive
  forth rotate transpose slash grade_up grade_down select pick index_of progressive : Primitive
  member find group assert : Primitive

abbrev pub primitives : List Primitive
primitives =
    plus ∷ minus ∷ times ∷ divide ∷ power ∷ root ∷ floor ∷ ceiling ∷ bar ∷ not_sign ∷ and_sign ∷ or_sign ∷ less ∷ greater ∷ unequal ∷ equal ∷
    at_most ∷ at_least ∷ match ∷ not_match ∷ left ∷ right ∷ reshape ∷ join ∷ couple ∷ pair ∷ take ∷ drop ∷ windows ∷ back ∷ forth ∷ rotate ∷
    transpose ∷ slash ∷ grade_up ∷ grade_down ∷ select ∷ pick ∷ index_of ∷ progressive ∷ member ∷ find ∷ group ∷ assert ∷ []

-- what a primitive answers without a left argument
abbrev pub monadic : Primitive → Value → Result Value Fault
monadic plus x = into_array (of_number (λ n. Ok n)) x
monadic minus x = into_array (of_number negative_of) x
monadic times x = into_array (of_number (λ n. Ok (sign_of n))) x
monadic divide x = into_array (of_number reciprocal_of) x
monadic power x = into_array (of_number exponential_of) x
monadic root x = into_array (of_number square_root_of) x
monadic floor x = into_array (of_number (λ n. Ok n)) x
monadic ceiling x = into_array (of_number (λ n. Ok n)) x
monadic bar x = into_array (of_number absolute_of) x
monadic not_sign x = into_array (of_number complement_of) x
monadic and_sign x = sort_up_row x
monadic or_sign x = sort_down_row x
monadic less x = enclose_row x
monadic greater x = merge_row x
monadic unequal x = length_row x
monadic equal x = rank_row x
monadic at_most x = Err Domain
monadic at_least x = Err Domain
monadic match x = depth_row x
monadic not_match x = shape_row x
monadic left x = Ok x
monadic right x = Ok x
monadic reshape x = deshape_row x
monadic join x = join_row x
monadic couple x = solo_row x
monadic pair x = enlist_row x
monadic take x = prefixes_row x
monadic drop x = suffixes_row x
monadic windows x = range_row x
monadic back x = nudge_back_row x
monadic forth x = nudge_row x
monadic rotate x = reverse_row x
monadic transpose x = transpose_row x
monadic slash x = indices_row x
monadic grade_up x = grade_up_row x
monadic grade_down x = grade_down_row x
monadic select x = first_cell_row x
monadic pick x = first_row x
monadic index_of x = classify_row x
monadic progressive x = occurrence_row x
monadic member x = mark_firsts_row x
monadic find x = deduplicate_row x
monadic group x = group_indices_row x
monadic assert x = assert_row x

-- and with one
abbrev pub dyadic : Primitive → Value → Value → Result Value Fault
dyadic plus w x = into_arrays atom_sum w x
dyadic minus w x = into_arrays atom_difference w x
dyadic times w x = into_arrays (of_numbers product_of) w x
dyadic divide w x = into_arrays (of_numbers quotient_of) w x
dyadic power w x = into_arrays (of_numbers power_of) w x
dyadic root w x = into_arrays (of_numbers root_of) w x
dyadic floor w x = into_arrays (of_numbers lesser_of) w x
dyadic ceiling w x = into_arrays (of_numbers greater_of) w x
dyadic bar w x = into_arrays (of_numbers modulus_of) w x
dyadic not_sign w x = into_arrays atom_span w x
dyadic and_sign w x = into_arrays (of_numbers product_of) w x
dyadic or_sign w x = into_arrays (of_numbers disjunction_of) w x
dyadic less w x = into_arrays (compared is_lt) w x
dyadic greater w x = into_arrays (compared is_gt) w x
dyadic unequal w x = into_arrays atom_unequal w x
dyadic equal w x = into_arrays atom_equal w x
dyadic at_most w x = into_arrays (compared is_le) w x
dyadic at_least w x = into_arrays (compared is_ge) w x
dyadic match w x = match_row w x
dyadic not_match w x = not_match_row w x
dyadic left w x = Ok w
dyadic right w x = Ok x
dyadic reshape w x = reshape_row w x
dyadic join w x = join_to_row w x
dyadic couple w x = couple_row w x
dyadic pair w x = pair_row w x
dyadic take w x = take_row w x
dyadic drop w x = drop_row w x
dyadic windows w x = windows_row w x
dyadic back w x = shift_after_row w x
dyadic forth w x = shift_before_row w x
dyadic rotate w x = rotate_row w x
dyadic transpose w x = reorder_row w x
dyadic slash w x = replicate_row w x
dyadic grade_up w x = bins_up_row w x
dyadic grade_down w x = bins_down_row w x
dyadic select w x = select_row w x
dyadic pick w x = pick_row w x
dyadic index_of w x = index_of_row w x
dyadic progressive w x = progressive_row w x
dyadic member w x = member_row w x
dyadic find w x = find_row w x
dyadic group w x = group_row w x
dyadic assert w x = assert_with_row w x
