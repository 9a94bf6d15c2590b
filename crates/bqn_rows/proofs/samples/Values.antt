-- Worked rows of plain values and the relations on them, computed.
use Rattle.std.proofs.Common.{◌≡◌, ℕ, zero, suc, pos, negsuc, true, false, Some, None, Ok, Err, refl, List, [], ◌∷◌, Less, Greater}
use Rattle.std.specs.Prelude.{codes}
use Rattle.bqn_base.specs.declared.fault.Fault.TheVariants.{NoCompare, TooLarge, TooDeep}
use Rattle.bqn_rows.specs.Plain.{One, Two, Atop, Fork, Value, Number, Character, Array, Given, Derived, Function, Modifier1, Namespace, Values, none, more, unfilled, filled, kind, kind_number}
use Rattle.bqn_rows.specs.Relations.{weight, height, depth, extent, prototype, fill_of, matching, levels, no_level, only, from, ordered, before}
use Rattle.bqn_rows.specs.Limits.{made, array, derived, block_function, proper}

-- ---- values to work on

abbrev number : ℕ → Value
number n = Number (pos n)

abbrev numbers : List ℕ → Values
numbers [] = none
numbers (n ∷ ns) = more (number n) (numbers ns)

abbrev characters : List ℕ → Values
characters [] = none
characters (c ∷ cs) = more (Character c) (characters cs)

-- `⟨⟩`, `""` and `↕0`
abbrev empty : Value
empty = Array (0 ∷ []) none unfilled

abbrev no_text : Value
no_text = Array (0 ∷ []) none (filled (Character 32))

abbrev no_numbers : Value
no_numbers = Array (0 ∷ []) none (filled (number 0))

-- `1‿2‿3` and `"ab"`
abbrev three : Value
three = Array (3 ∷ []) (numbers (1 ∷ 2 ∷ 3 ∷ [])) unfilled

abbrev text : Value
text = Array (2 ∷ []) (characters (codes "ab")) unfilled

abbrev list1 : Value → Value
list1 x = Array (1 ∷ []) (more x none) unfilled

abbrev list2 : Value → Value → Value
list2 w x = Array (2 ∷ []) (more w (more x none)) unfilled

-- the value, enclosed so often
abbrev enclosed : ℕ → Value → Value
enclosed zero x = x
enclosed (suc n) x = Array [] (more (enclosed n x) none) unfilled

-- an empty list that has the value as fill, so often
abbrev filling : ℕ → Value → Value
filling zero x = x
filling (suc n) x = Array (0 ∷ []) none (filled (filling n x))

-- `+` and `-`
abbrev plus : Value
plus = Given 0

abbrev minus : Value
minus = Given 1

-- ---- sizes

weight_of_list : weight (list2 three text) ≡ 8
weight_of_list = refl

weight_of_train : weight (Derived Fork (more plus (more plus (more minus none)))) ≡ 4
weight_of_train = refl

weight_of_plain_block : weight (Function 1 0 none) ≡ 1
weight_of_plain_block = refl

weight_of_operands : weight (Function 1 0 (more plus none)) ≡ 2
weight_of_operands = refl

height_of_plain_block : height (Function 1 0 none) ≡ 0
height_of_plain_block = refl

height_of_operands : height (Function 1 0 (more plus none)) ≡ 1
height_of_operands = refl

height_of_empty : height no_text ≡ 1
height_of_empty = refl

extent_of_empty : extent no_text ≡ 1
extent_of_empty = refl

extent_of_filled : extent (filling 3 (number 0)) ≡ 3
extent_of_filled = refl

height_of_filled : height (filling 3 (number 0)) ≡ 1
height_of_filled = refl

depth_of_list : depth (list2 three (number 1)) ≡ 2
depth_of_list = refl

depth_of_train : depth (Derived Atop (more plus (more minus none))) ≡ 0
depth_of_train = refl

-- ---- prototypes and fills

prototype_of_list : prototype (list2 (number 5) text) ≡ Some (list2 (number 0) (Array (2 ∷ []) (characters (codes "  ")) unfilled))
prototype_of_list = refl

prototype_of_empty : prototype no_text ≡ Some no_text
prototype_of_empty = refl

prototype_of_function : prototype plus ≡ None
prototype_of_function = refl

prototype_of_functions : prototype (list2 (number 1) plus) ≡ None
prototype_of_functions = refl

fill_of_numbers : fill_of three ≡ Some (number 0)
fill_of_numbers = refl

fill_of_mixed : fill_of (list2 (number 1) (Character 97)) ≡ None
fill_of_mixed = refl

-- `⟨"",""⟩`, `⟨"",⟨⟩⟩` and `⟨"ab","cd"⟩`
fill_of_texts : fill_of (list2 no_text no_text) ≡ Some no_text
fill_of_texts = refl

fill_of_empties : fill_of (list2 no_text empty) ≡ None
fill_of_empties = refl

fill_of_pairs : fill_of (list2 text text) ≡ Some (Array (2 ∷ []) (characters (codes "  ")) unfilled)
fill_of_pairs = refl

fill_of_empty : fill_of empty ≡ None
fill_of_empty = refl

fill_of_number : fill_of (number 7) ≡ Some (number 0)
fill_of_number = refl

-- ---- Match

match_lists : matching three three ≡ Ok true
match_lists = refl

match_empties : matching no_text empty ≡ Ok true
match_empties = refl

match_shapes : matching (Array (2 ∷ 0 ∷ []) none unfilled) (Array (0 ∷ 2 ∷ []) none unfilled) ≡ Ok false
match_shapes = refl

match_types : matching (number 97) (Character 97) ≡ Ok false
match_types = refl

match_functions : matching plus minus ≡ Err NoCompare
match_functions = refl

match_function_and_modifier : matching plus (Given 44) ≡ Ok false
match_function_and_modifier = refl

match_modifiers : matching (Given 44) (Modifier1 1 0) ≡ Err NoCompare
match_modifiers = refl

match_kinds_of_modifier : matching (Given 44) (Given 53) ≡ Ok false
match_kinds_of_modifier = refl

match_namespaces : matching (Namespace 1) (Namespace 1) ≡ Err NoCompare
match_namespaces = refl

-- the first unequal pair decides, and operations that stand before it
unequal_before_functions : matching (list2 (number 1) plus) (list2 (number 2) plus) ≡ Ok false
unequal_before_functions = refl

functions_before_unequal : matching (list2 plus (number 1)) (list2 plus (number 2)) ≡ Err NoCompare
functions_before_unequal = refl

-- ---- types, as `•Type` numbers them

type_of_array : kind_number (kind empty) ≡ 0
type_of_array = refl

type_of_character : kind_number (kind (Character 97)) ≡ 2
type_of_character = refl

type_of_block : kind_number (kind (Function 1 0 none)) ≡ 3
type_of_block = refl

type_of_system_function : kind_number (kind (Given 68)) ≡ 3
type_of_system_function = refl

type_of_each : kind_number (kind (Given 47)) ≡ 4
type_of_each = refl

type_of_catch : kind_number (kind (Given 63)) ≡ 5
type_of_catch = refl

type_of_namespace : kind_number (kind (Namespace 3)) ≡ 6
type_of_namespace = refl

-- ---- the order

order_of_numbers : ordered (Number (negsuc 0)) (number 0) ≡ Less
order_of_numbers = refl

order_of_types : ordered (number 1000000000) (Character 0) ≡ Less
order_of_types = refl

order_of_prefix : ordered (list1 (number 1)) three ≡ Less
order_of_prefix = refl

order_of_lists : ordered (list2 (number 2) (number 0)) three ≡ Greater
order_of_lists = refl

order_of_texts : before text (Array (2 ∷ []) (characters (codes "ac")) unfilled) ≡ true
order_of_texts = refl

level_of_number : levels (number 1) ≡ only 0
level_of_number = refl

level_of_text : levels text ≡ only 1
level_of_text = refl

level_of_empty : levels empty ≡ from 1
level_of_empty = refl

level_of_empties : levels (list2 empty no_text) ≡ from 2
level_of_empties = refl

level_of_texts : levels (list2 empty text) ≡ only 2
level_of_texts = refl

level_of_mixed : levels (list2 (number 1) text) ≡ no_level
level_of_mixed = refl

level_of_table : levels (Array (1 ∷ 1 ∷ []) (numbers (1 ∷ [])) unfilled) ≡ no_level
level_of_table = refl

level_of_function : levels (list1 plus) ≡ no_level
level_of_function = refl

-- ---- limits

rank_16 : made (Array (0 ∷ 0 ∷ 0 ∷ 0 ∷ 0 ∷ 0 ∷ 0 ∷ 0 ∷ 0 ∷ 0 ∷ 0 ∷ 0 ∷ 0 ∷ 0 ∷ 0 ∷ 0 ∷ []) none unfilled)
    ≡ Ok (Array (0 ∷ 0 ∷ 0 ∷ 0 ∷ 0 ∷ 0 ∷ 0 ∷ 0 ∷ 0 ∷ 0 ∷ 0 ∷ 0 ∷ 0 ∷ 0 ∷ 0 ∷ 0 ∷ []) none unfilled)
rank_16 = refl

rank_17 : made (Array (0 ∷ 0 ∷ 0 ∷ 0 ∷ 0 ∷ 0 ∷ 0 ∷ 0 ∷ 0 ∷ 0 ∷ 0 ∷ 0 ∷ 0 ∷ 0 ∷ 0 ∷ 0 ∷ 0 ∷ []) none unfilled) ≡ Err TooLarge
rank_17 = refl

axes_at_the_limit : array (0 ∷ 4194304 ∷ []) none None ≡ Ok (Array (0 ∷ 4194304 ∷ []) none unfilled)
axes_at_the_limit = refl

axes_past_the_limit : array (2 ∷ 0 ∷ 2097153 ∷ []) none None ≡ Err TooLarge
axes_past_the_limit = refl

height_128 : made (enclosed 128 (number 1)) ≡ Ok (enclosed 128 (number 1))
height_128 = refl

height_129 : made (enclosed 129 (number 1)) ≡ Err TooDeep
height_129 = refl

large_before_deep : made (Array (4194305 ∷ 0 ∷ []) (more (enclosed 128 (number 1)) none) unfilled) ≡ Err TooLarge
large_before_deep = refl

fill_of_extent_128 : array (0 ∷ []) none (Some (filling 128 (number 0))) ≡ Ok (filling 129 (number 0))
fill_of_extent_128 = refl

fill_of_extent_129 : array (0 ∷ []) none (Some (filling 129 (number 0))) ≡ Ok empty
fill_of_extent_129 = refl

operands_too_deep : block_function 1 0 (more (enclosed 128 plus) none) ≡ Err TooDeep
operands_too_deep = refl

train_too_deep : derived Atop (more (enclosed 128 plus) (more plus none)) ≡ Err TooDeep
train_too_deep = refl

-- ---- proper values

proper_list : proper (list2 text no_numbers) ≡ true
proper_list = refl

improper_count : proper (Array (3 ∷ []) (numbers (1 ∷ 2 ∷ [])) unfilled) ≡ false
improper_count = refl

improper_number : proper (number 9223372036854775808) ≡ false
improper_number = refl

improper_surrogate : proper (Character 55296) ≡ false
improper_surrogate = refl

improper_fill : proper (Array (0 ∷ []) none (filled (number 1))) ≡ false
improper_fill = refl

improper_nonempty_with_fill : proper (Array (1 ∷ []) (numbers (1 ∷ [])) (filled (number 0))) ≡ false
improper_nonempty_with_fill = refl

proper_modified : proper (Derived (One 47) (more plus none)) ≡ true
proper_modified = refl

improper_modified : proper (Derived (One 53) (more plus none)) ≡ false
improper_modified = refl

improper_fork : proper (Derived Fork (more plus (more plus none))) ≡ false
improper_fork = refl

proper_catch : proper (Derived (Two 63) (more plus (more (number 0) none))) ≡ true
proper_catch = refl

improper_given : proper (Given 69) ≡ false
improper_given = refl
