-- The rows of arithmetic and the printed texts, computed.
use Rattle.std.proofs.Common.{◌≡◌, ℤ, pos, negsuc, Some, None, Ok, Err, refl, [], ◌∷◌, ◌++◌, length}
use Rattle.std.specs.Prelude.{codes}
use Rattle.std.specs.Fmt.{digits}
use Rattle.bqn_base.specs.declared.fault.Fault.TheVariants.{Assert, Overflow, CharRange}
use Rattle.bqn_base.specs.declared.refusal.Refusal.TheVariants.{NotUtf8, BadChar, BadName, TooLong, NotYet}
use Rattle.bqn_base.specs.Characters.{newline, macron, infinity}
use Rattle.bqn_base.specs.Arithmetic.{sum_of, difference_of, product_of, negative_of, sign_of}
use Rattle.bqn_base.specs.Literal.{literal, Number, Bad, Range, unquoted}
use Rattle.bqn_base.specs.Printed.{number_text, place_text, error_line, refusal_line}
use Rattle.bqn_base.specs.Shifts.{shift_of, distance_of}
use Rattle.bqn_base.specs.Signs.{primitive_functions, one_operand_modifiers, two_operand_modifiers, system_names}

-- 2^63 - 1 and -2^63
abbrev greatest : ℤ
greatest = pos 9223372036854775807

abbrev least : ℤ
least = negsuc 9223372036854775807

greatest_plus_one : sum_of greatest (pos 1) ≡ Err Overflow
greatest_plus_one = refl

greatest_plus_least : sum_of greatest least ≡ Ok (negsuc 0)
greatest_plus_least = refl

least_less_one : difference_of least (pos 1) ≡ Err Overflow
least_less_one = refl

negative_less_least : difference_of (negsuc 0) least ≡ Ok greatest
negative_less_least = refl

square_overflows : product_of (pos 4294967296) (pos 2147483648) ≡ Err Overflow
square_overflows = refl

least_as_product : product_of (pos 4294967296) (negsuc 2147483647) ≡ Ok least
least_as_product = refl

negative_of_least : negative_of least ≡ Err Overflow
negative_of_least = refl

negative_of_zero : negative_of (pos 0) ≡ Ok (pos 0)
negative_of_zero = refl

negative_of_greatest : negative_of greatest ≡ Ok (negsuc 9223372036854775806)
negative_of_greatest = refl

sign_of_zero : sign_of (pos 0) ≡ pos 0
sign_of_zero = refl

sign_of_least : sign_of least ≡ negsuc 0
sign_of_least = refl

sign_of_greatest : sign_of greatest ≡ pos 1
sign_of_greatest = refl

text_of_zero : number_text (pos 0) ≡ codes "0"
unfolding digits
text_of_zero = refl

text_of_negative : number_text (negsuc 4) ≡ macron ∷ codes "5"
unfolding digits
text_of_negative = refl

text_of_least : number_text least ≡ macron ∷ codes "9223372036854775808"
unfolding digits
text_of_least = refl

line_of_overflow : error_line Overflow (Some (record { line = 1; column = 26 })) ≡ codes "Error: Overflow at 1:26" ++ newline ∷ []
unfolding digits
line_of_overflow = refl

line_without_place : error_line Overflow None ≡ codes "Error: Overflow" ++ newline ∷ []
line_without_place = refl

line_of_message : error_line (Assert (codes "no")) (Some (record { line = 1; column = 5 })) ≡ codes "Error: Assert at 1:5: no" ++ newline ∷ []
unfolding digits
line_of_message = refl

line_without_message : error_line (Assert []) (Some (record { line = 1; column = 1 })) ≡ codes "Error: Assert at 1:1" ++ newline ∷ []
unfolding digits
line_without_message = refl

line_of_message_alone : error_line (Assert (codes "no")) None ≡ codes "Error: Assert: no" ++ newline ∷ []
line_of_message_alone = refl

-- places on line 2^25, on the next one, and on line 3 × 2^25 + 7
place_counted_last : place_text (record { line = 33554432; column = 9 }) ≡ codes "33554432:9"
unfolding digits
place_counted_last = refl

place_counted_anew : place_text (record { line = 33554433; column = 9 }) ≡ codes "#1 1:9"
unfolding digits
place_counted_anew = refl

place_far : place_text (record { line = 100663303; column = 12 }) ≡ codes "#3 7:12"
unfolding digits
place_far = refl

place_counted_twice : place_text (record { line = 67108864; column = 1 }) ≡ codes "#1 33554432:1"
unfolding digits
place_counted_twice = refl

line_of_far_place : refusal_line (BadName (record { line = 33554433; column = 2 })) ≡ codes "Refused: BadName #1 1:2" ++ newline ∷ []
unfolding digits
line_of_far_place = refl

line_of_place : refusal_line (BadChar (record { line = 2; column = 13 })) ≡ codes "Refused: BadChar 2:13" ++ newline ∷ []
unfolding digits
line_of_place = refl

line_of_bytes : refusal_line (NotUtf8 2) ≡ codes "Refused: NotUtf8 at byte 2" ++ newline ∷ []
unfolding digits
line_of_bytes = refl

line_too_long : refusal_line TooLong ≡ codes "Refused: TooLong" ++ newline ∷ []
line_too_long = refl

line_not_yet : refusal_line NotYet ≡ codes "Refused: NotYet" ++ newline ∷ []
line_not_yet = refl

-- literals
literal_of_thousand : literal (codes "1e3") ≡ Number (pos 1000)
literal_of_thousand = refl

literal_with_underscores : literal (codes "_1_0_e_3") ≡ Number (pos 10000)
literal_with_underscores = refl

literal_of_negative : literal (macron ∷ codes "_15") ≡ Number (negsuc 14)
literal_of_negative = refl

literal_down : literal (codes "10e" ++ macron ∷ codes "1") ≡ Number (pos 1)
literal_down = refl

literal_not_whole : literal (codes "15e" ++ macron ∷ codes "1") ≡ Range
literal_not_whole = refl

literal_of_half : literal (codes "1.5") ≡ Range
literal_of_half = refl

literal_of_fraction : literal (codes "1.50e1") ≡ Number (pos 15)
literal_of_fraction = refl

literal_of_zero : literal (codes "0e99999999999999999999") ≡ Number (pos 0)
literal_of_zero = refl

literal_of_greatest : literal (codes "9223372036854775807") ≡ Number (pos 9223372036854775807)
literal_of_greatest = refl

literal_past_greatest : literal (codes "9223372036854775808") ≡ Range
literal_past_greatest = refl

literal_of_least : literal (macron ∷ codes "9223372036854775808") ≡ Number (negsuc 9223372036854775807)
literal_of_least = refl

literal_past_least : literal (macron ∷ codes "9223372036854775809") ≡ Range
literal_past_least = refl

literal_bad : literal (codes "3i4") ≡ Bad
literal_bad = refl

literal_of_macron : literal (macron ∷ []) ≡ Bad
literal_of_macron = refl

literal_macron_inside : literal (codes "2" ++ macron ∷ codes "3") ≡ Bad
literal_macron_inside = refl

literal_without_power : literal (codes "1e") ≡ Bad
literal_without_power = refl

literal_of_infinity : literal (infinity ∷ codes "x") ≡ Range
literal_of_infinity = refl

text_with_quotes : unquoted (codes "a\"\"b") ≡ codes "a\"b"
text_with_quotes = refl

-- characters
shift_before_surrogates : shift_of 55294 (pos 1) ≡ Ok 55295
shift_before_surrogates = refl

shift_to_surrogate : shift_of 55295 (pos 1) ≡ Err CharRange
shift_to_surrogate = refl

shift_past_surrogates : shift_of 55295 (pos 2049) ≡ Ok 57344
shift_past_surrogates = refl

shift_past_last : shift_of 1114111 (pos 1) ≡ Err CharRange
shift_past_last = refl

shift_before_first : shift_of 0 (negsuc 0) ≡ Err CharRange
shift_before_first = refl

distance_back : distance_of 97 99 ≡ negsuc 1
distance_back = refl

-- signs and names of given values
functions_counted : length primitive_functions ≡ 44
functions_counted = refl

one_operand_counted : length one_operand_modifiers ≡ 9
one_operand_counted = refl

two_operand_counted : length two_operand_modifiers ≡ 11
two_operand_counted = refl

system_names_counted : length system_names ≡ 6
system_names_counted = refl
