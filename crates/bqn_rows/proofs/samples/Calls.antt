-- Worked rows of arithmetic and comparison on atoms, and of calls, computed.
use Rattle.std.proofs.Common.{◌≡◌, ℕ, pos, negsuc, Some, None, Ok, Err, refl, [], ◌∷◌, ◌++◌, length, slice_get}
use lib.Chars.{codes}
use Rattle.std.specs.Fmt.{digits}
use Rattle.bqn_base.specs.declared.fault.Fault.TheVariants.{Domain, Overflow, NotWhole, DivideByZero, CharRange, NoCompare, NotCallable, TooDeep, NoBody}
use Rattle.bqn_rows.specs.Plain.{Atop, Fork, Value, Number, Character, Array, Given, Derived, Function, Modifier1, Namespace, none, more, unfilled, filled}
use Rattle.bqn_rows.specs.Primitives as p
use Rattle.bqn_rows.specs.Primitives.{Primitive, primitives, monadic, dyadic}
use Rattle.bqn_base.specs.Signs.{primitive_signs}
use Rattle.bqn_rows.specs.Shown.{shown, spelling}
use Rattle.bqn_rows.specs.Raised.{unplaced}
use Rattle.bqn_rows.specs.Calls.{alone, two, no_arguments, run_block}
use Rattle.bqn_rows.specs.Questions.{next, walk, Outcome, Asks, Enter, Write}

abbrev n : ℕ → Value
n k = Number (pos k)

-- -k - 1
abbrev m : ℕ → Value
m k = Number (negsuc k)

abbrev least : Value
least = Number (negsuc 9223372036854775807)

abbrev a : Value
a = Character 97

abbrev b : Value
b = Character 98

abbrev plus : Value
plus = Given 0

abbrev minus : Value
minus = Given 1

abbrev times : Value
times = Given 2

-- ---- one argument

plus_of_character : monadic p.plus a ≡ Err Domain
plus_of_character = refl

negative_of_least : monadic p.minus least ≡ Err Overflow
negative_of_least = refl

absolute_of_least : monadic p.bar least ≡ Err Overflow
absolute_of_least = refl

absolute : monadic p.bar (m 4) ≡ Ok (n 5)
absolute = refl

complement_of_least : monadic p.not_sign least ≡ Err Overflow
complement_of_least = refl

complement : monadic p.not_sign (n 1) ≡ Ok (n 0)
complement = refl

reciprocal_of_zero : monadic p.divide (n 0) ≡ Err DivideByZero
reciprocal_of_zero = refl

reciprocal_of_negative : monadic p.divide (m 0) ≡ Ok (m 0)
reciprocal_of_negative = refl

reciprocal_of_two : monadic p.divide (n 2) ≡ Err NotWhole
reciprocal_of_two = refl

exponential_of_zero : monadic p.power (n 0) ≡ Ok (n 1)
exponential_of_zero = refl

exponential_of_one : monadic p.power (n 1) ≡ Err NotWhole
exponential_of_one = refl

root_of_sixteen : monadic p.root (n 16) ≡ Ok (n 4)
root_of_sixteen = refl

root_of_seventeen : monadic p.root (n 17) ≡ Err NotWhole
root_of_seventeen = refl

root_of_negative : monadic p.root (m 3) ≡ Err Domain
root_of_negative = refl

sign_of_character : monadic p.times a ≡ Err Domain
sign_of_character = refl

no_row_alone : monadic p.at_most (n 1) ≡ Err Domain
no_row_alone = refl

identity_of_function : monadic p.right plus ≡ Ok plus
identity_of_function = refl

-- ---- two arguments

character_and_number : dyadic p.plus a (n 1) ≡ Ok b
character_and_number = refl

number_and_character : dyadic p.plus (n 1) a ≡ Ok b
number_and_character = refl

two_characters : dyadic p.plus a b ≡ Err Domain
two_characters = refl

character_range : dyadic p.plus a (n 9223372036854775807) ≡ Err CharRange
character_range = refl

to_surrogate : dyadic p.plus (Character 55295) (n 1) ≡ Err CharRange
to_surrogate = refl

before_zero : dyadic p.minus a (n 98) ≡ Err CharRange
before_zero = refl

characters_apart : dyadic p.minus a b ≡ Ok (m 0)
characters_apart = refl

number_minus_character : dyadic p.minus (n 1) a ≡ Err Domain
number_minus_character = refl

ten_less_two : dyadic p.minus (n 10) (n 2) ≡ Ok (n 8)
ten_less_two = refl

seven_over_two : dyadic p.divide (n 7) (n 2) ≡ Err NotWhole
seven_over_two = refl

exact_quotient : dyadic p.divide (m 5) (n 3) ≡ Ok (m 1)
exact_quotient = refl

least_over_minus_one : dyadic p.divide least (m 0) ≡ Err Overflow
least_over_minus_one = refl

character_over_zero : dyadic p.divide a (n 0) ≡ Err Domain
character_over_zero = refl

zero_over_zero : dyadic p.divide (n 0) (n 0) ≡ Err DivideByZero
zero_over_zero = refl

zero_to_zero : dyadic p.power (n 0) (n 0) ≡ Ok (n 1)
zero_to_zero = refl

zero_to_minus_one : dyadic p.power (n 0) (m 0) ≡ Err DivideByZero
zero_to_minus_one = refl

two_to_64 : dyadic p.power (n 2) (n 64) ≡ Err Overflow
two_to_64 = refl

minus_two_to_63 : dyadic p.power (m 1) (n 63) ≡ Ok least
minus_two_to_63 = refl

minus_one_to_minus_three : dyadic p.power (m 0) (m 2) ≡ Ok (m 0)
minus_one_to_minus_three = refl

minus_one_to_minus_two : dyadic p.power (m 0) (m 1) ≡ Ok (n 1)
minus_one_to_minus_two = refl

two_to_minus_one : dyadic p.power (n 2) (m 0) ≡ Err NotWhole
two_to_minus_one = refl

first_root : dyadic p.root (n 1) (n 7) ≡ Ok (n 7)
first_root = refl

cube_root : dyadic p.root (n 3) (n 27) ≡ Ok (n 3)
cube_root = refl

negative_root_of_one : dyadic p.root (m 1) (n 1) ≡ Ok (n 1)
negative_root_of_one = refl

negative_root_of_zero : dyadic p.root (m 1) (n 0) ≡ Err DivideByZero
negative_root_of_zero = refl

zeroth_root_of_negative : dyadic p.root (n 0) (m 0) ≡ Err DivideByZero
zeroth_root_of_negative = refl

root_of_negative_two : dyadic p.root (n 3) (m 7) ≡ Err Domain
root_of_negative_two = refl

least_and_greatest : dyadic p.floor (m 1) (n 1) ≡ Ok (m 1)
least_and_greatest = refl

greatest_of_two : dyadic p.ceiling (m 1) (n 1) ≡ Ok (n 1)
greatest_of_two = refl

lesser_of_characters : dyadic p.floor a b ≡ Err Domain
lesser_of_characters = refl

modulus_of_negative : dyadic p.bar (n 3) (m 0) ≡ Ok (n 2)
modulus_of_negative = refl

modulus_by_negative : dyadic p.bar (m 2) (n 1) ≡ Ok (m 1)
modulus_by_negative = refl

modulus_by_zero : dyadic p.bar (n 0) (n 5) ≡ Err DivideByZero
modulus_by_zero = refl

modulus_of_least : dyadic p.bar (m 0) least ≡ Ok (n 0)
modulus_of_least = refl

-- as one value: ¯1¬¯2^63 is 2^63, and ¯2¬¯2^63 is 2^63 - 1
span_past_the_range : dyadic p.not_sign (m 0) least ≡ Err Overflow
span_past_the_range = refl

span_in_range : dyadic p.not_sign (m 1) least ≡ Ok (n 9223372036854775807)
span_in_range = refl

span_of_characters : dyadic p.not_sign b a ≡ Ok (n 2)
span_of_characters = refl

span_of_character : dyadic p.not_sign b (n 2) ≡ Ok a
span_of_character = refl

-- `w∨x` as one value: the product alone would be out of range
disjunction : dyadic p.or_sign (n 1) (n 9223372036854775807) ≡ Ok (n 1)
disjunction = refl

equal_types : dyadic p.equal (n 97) a ≡ Ok (n 0)
equal_types = refl

equal_functions : dyadic p.equal plus minus ≡ Err NoCompare
equal_functions = refl

unequal_function_and_number : dyadic p.unequal plus (n 1) ≡ Ok (n 1)
unequal_function_and_number = refl

numbers_before_characters : dyadic p.less (n 1000) a ≡ Ok (n 1)
numbers_before_characters = refl

at_most : dyadic p.at_most (n 0) (n 0) ≡ Ok (n 1)
at_most = refl

at_least : dyadic p.at_least a b ≡ Ok (n 0)
at_least = refl

compared_functions : dyadic p.less plus (n 1) ≡ Err Domain
compared_functions = refl

left_of_two : dyadic p.left (n 1) plus ≡ Ok (n 1)
left_of_two = refl

-- ---- texts

signs : length primitive_signs ≡ 64
signs = refl

functions : length primitives ≡ 44
functions = refl

-- codes, names and signs go together
code_of_merge : slice_get primitives 13 ≡ Some p.greater
code_of_merge = refl

sign_of_merge : spelling 13 ≡ codes ">"
sign_of_merge = refl

code_of_not : slice_get primitives 9 ≡ Some p.not_sign
code_of_not = refl

sign_of_not : spelling 9 ≡ codes "¬"
sign_of_not = refl

code_of_left : slice_get primitives 20 ≡ Some p.left
code_of_left = refl

sign_of_left : spelling 20 ≡ codes "⊣"
sign_of_left = refl

code_of_transpose : slice_get primitives 32 ≡ Some p.transpose
code_of_transpose = refl

sign_of_transpose : spelling 32 ≡ codes "⍉"
sign_of_transpose = refl

code_of_assert : slice_get primitives 43 ≡ Some p.assert
code_of_assert = refl

sign_of_assert : spelling 43 ≡ codes "!"
sign_of_assert = refl

sign_of_constant : spelling 44 ≡ codes "˙"
sign_of_constant = refl

sign_of_atop : spelling 53 ≡ codes "∘"
sign_of_atop = refl

text_of_plus : shown plus ≡ codes "+"
text_of_plus = refl

text_of_show : shown (Given 65) ≡ codes "•Show"
text_of_show = refl

text_of_catch : shown (Given 63) ≡ codes "⎊"
text_of_catch = refl

text_of_quote : shown (Character 39) ≡ codes "'''"
text_of_quote = refl

text_of_newline : shown (Character 10) ≡ codes "(@+10)"
unfolding digits
text_of_newline = refl

text_of_block : shown (Function 1 0 none) ≡ codes "<function>"
text_of_block = refl

text_of_modifier : shown (Modifier1 1 0) ≡ codes "<1-modifier>"
text_of_modifier = refl

-- ---- calls, with room for 1,000 open ones

-- `2(+×-)5`
train : next (Derived Fork (more plus (more times (more minus none)))) (Some (n 2)) (n 5) 1000 [] ≡ Outcome (Ok (m 20))
train = refl

-- `-‿∘` of two
atop : next (Derived Atop (more minus (more plus none))) (Some (n 2)) (n 5) 1000 [] ≡ Outcome (Ok (m 6))
atop = refl

-- `(2×-)5`: a number as the left part is a constant
constant_part : next (Derived Fork (more (n 2) (more times (more minus none)))) None (n 5) 1000 [] ≡ Outcome (Ok (m 9))
constant_part = refl

-- the right part is called first
right_part_first : next (Derived Fork (more (Given 44) (more plus (more (Modifier1 1 0) none)))) None (n 5) 1000 [] ≡ Outcome (Err (unplaced NotCallable))
right_part_first = refl

fault_of_the_right_part : next (Derived Fork (more (Given 44) (more plus (more (Given 3) none)))) None (n 0) 1000 [] ≡ Outcome (Err (unplaced DivideByZero))
fault_of_the_right_part = refl

no_room : next (Derived Atop (more minus (more plus none))) None (n 5) 0 [] ≡ Outcome (Err (unplaced TooDeep))
no_room = refl

-- a train in a train is one more open call
no_room_inside : next (Derived Atop (more minus (more (Derived Atop (more minus (more plus none))) none))) None (n 5) 1 [] ≡ Outcome (Err (unplaced TooDeep))
no_room_inside = refl

constant : next (n 5) (Some (n 1)) (n 2) 0 [] ≡ Outcome (Ok (n 5))
constant = refl

namespace_is_constant : next (Namespace 3) None (n 2) 0 [] ≡ Outcome (Ok (Namespace 3))
namespace_is_constant = refl

modifier_is_not_callable : next (Given 47) None (n 2) 1000 [] ≡ Outcome (Err (unplaced NotCallable))
modifier_is_not_callable = refl

block_asks : next (Function 1 0 (more plus none)) None (n 5) 1000 [] ≡ Asks (Enter 1 0 (more plus none) (alone (n 5)) 999)
block_asks = refl

block_is_answered : next (Function 1 0 none) (Some (n 1)) (n 5) 1000 (Ok (n 6) ∷ []) ≡ Outcome (Ok (n 6))
block_is_answered = refl

block_without_room : next (Function 1 0 none) (Some (n 1)) (n 5) 0 [] ≡ Outcome (Err (unplaced TooDeep))
block_without_room = refl

-- a train of two blocks asks for the right one, then for the left one on its answer
first_question : next (Derived Atop (more (Function 1 0 none) (more (Function 2 0 none) none))) (Some (n 1)) (n 5) 1000 []
    ≡ Asks (Enter 2 0 none (two (n 1) (n 5)) 998)
first_question = refl

second_question : next (Derived Atop (more (Function 1 0 none) (more (Function 2 0 none) none))) (Some (n 1)) (n 5) 1000 (Ok (n 7) ∷ [])
    ≡ Asks (Enter 1 0 none (alone (n 7)) 998)
second_question = refl

fault_as_reply : next (Derived Atop (more (Function 1 0 none) (more (Function 2 0 none) none))) (Some (n 1)) (n 5) 1000 (Err (unplaced NoBody) ∷ [])
    ≡ Outcome (Err (unplaced NoBody))
fault_as_reply = refl

show_writes : next (Given 65) None (m 20) 0 [] ≡ Asks (Write (codes "¯21" ++ 10 ∷ []))
unfolding digits
show_writes = refl

show_answers : next (Given 65) None (m 20) 0 (Ok (n 0) ∷ []) ≡ Outcome (Ok (m 20))
show_answers = refl

show_with_left_argument : next (Given 65) (Some (n 1)) (n 2) 0 [] ≡ Outcome (Err (unplaced Domain))
show_with_left_argument = refl

type_of_function : next (Given 68) None plus 0 [] ≡ Outcome (Ok (n 3))
type_of_function = refl

immediate_block_asks : walk (run_block 1 0 none) 5 (λ r rest. Outcome r) [] ≡ Asks (Enter 1 0 none no_arguments 4)
immediate_block_asks = refl

-- ---- system functions on arrays

abbrev ab : Value
ab = Array (2 ∷ []) (more a (more b none)) unfilled

abbrev no_numbers : Value
no_numbers = Array (0 ∷ []) none (filled (n 0))

out_writes : next (Given 64) None ab 0 [] ≡ Asks (Write (codes "ab" ++ 10 ∷ []))
out_writes = refl

out_answers : next (Given 64) None ab 0 (Ok (n 0) ∷ []) ≡ Outcome (Ok ab)
out_answers = refl

out_of_empty_list : next (Given 64) None no_numbers 0 [] ≡ Asks (Write (10 ∷ []))
out_of_empty_list = refl

out_of_character : next (Given 64) None a 0 [] ≡ Outcome (Err (unplaced Domain))
out_of_character = refl

out_of_table : next (Given 64) None (Array (1 ∷ 1 ∷ []) (more a none) unfilled) 0 [] ≡ Outcome (Err (unplaced Domain))
out_of_table = refl

repr_of_character : next (Given 66) None a 0 [] ≡ Outcome (Ok (Array (3 ∷ []) (more (Character 39) (more a (more (Character 39) none))) unfilled))
repr_of_character = refl

format_of_empty_list : next (Given 67) None no_numbers 0 [] ≡ Outcome (Ok no_numbers)
format_of_empty_list = refl

format_of_character : next (Given 67) None a 0 [] ≡ Outcome (Ok (Array (1 ∷ []) (more a none) unfilled))
format_of_character = refl

format_of_plus : next (Given 67) None plus 0 [] ≡ Outcome (Ok (Array (1 ∷ []) (more (Character 43) none) unfilled))
format_of_plus = refl

type_of_array : next (Given 68) None ab 0 [] ≡ Outcome (Ok (n 0))
type_of_array = refl
