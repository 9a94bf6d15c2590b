-- Sources of the form that is built so far, and what they do, computed.
use Rattle.std.proofs.Common.{◌≡◌, ℕ, ℤ, pos, List, [], ◌∷◌, Option, Some, None, refl}
use Rattle.std.specs.Str.{chars, is_utf8}
use Rattle.std.specs.Option.{option_map, option_and_then}
use Rattle.std.specs.Result.{result_ok}
use Rattle.std.specs.Prelude.{encode_utf8_all}
use Rattle.std.specs.Fmt.{digits}
use lib.Chars.{codes}
use lib.Utf8.{encode}
use Rattle.bqn_base.specs.declared.fault.Fault.TheVariants.{Overflow, Domain}
use Rattle.bqn_syntax.specs.text.Tokens.{tokens_of_source}
use Rattle.bqn_syntax.specs.grammar.Parsing.{parsed}
use Rattle.bqn_forms.specs.Form.{form_of}
use Rattle.bqn_forms.specs.Evaluation.{Res, Gives, Faults, Spends, State, raised, evaluated}

-- the bytes of a source, its meaning with so many steps, and the written text
abbrev source : List ℕ → List ℕ
source text = encode_utf8_all text

abbrev seen : List ℕ → ℕ → Option (Res (Unit {0}))
seen text steps = option_and_then (λ tokens. option_map (λ form. evaluated form steps) (option_and_then (form_of tokens) (result_ok (parsed tokens)))) (result_ok (tokens_of_source (source text)))

abbrev state : List ℕ → ℕ → State
state text left = record { written = encode_utf8_all text; left = left; vars = [] }

nothing_written : seen (codes "") 1 ≡ Some (Gives tt (state [] 0))
unfolding chars is_utf8 encode
nothing_written = refl

sum_written : seen (codes "•Show 2+3") 1 ≡ Some (Gives tt (state (codes "5\n") 0))
unfolding chars is_utf8 encode digits
sum_written = refl

-- functions take what stands right of them
right_to_left : seen (codes "•Show 10-2-3") 7 ≡ Some (Gives tt (state (codes "11\n") 6))
unfolding chars is_utf8 encode digits
right_to_left = refl

overflow_after_text : seen (codes "•Show ¯5 ⋄ 9223372036854775807+1 ⋄ •Show 1") 1 ≡ Some (Faults (raised (record { line = 1; column = 31 }) Overflow) (state (codes "¯5\n") 0))
unfolding chars is_utf8 encode digits
overflow_after_text = refl

show_with_left : seen (codes "1 •Show •Show -×-7,") 1 ≡ Some (Faults (raised (record { line = 1; column = 3 }) Domain) (state (codes "1\n") 0))
unfolding chars is_utf8 encode digits
show_with_left = refl

no_step_left : seen (codes "•Show 1") 0 ≡ Some (Spends (state [] 0))
unfolding chars is_utf8 encode
no_step_left = refl

-- the place of a fault is that of the function that is called
overflow_at_the_call : seen (codes "a←1\n•Show (9223372036854775807 - a)+a+a") 1 ≡ Some (Faults (raised (record { line = 2; column = 32 }) Overflow) (record { written = []; left = 0; vars = pos 1 ∷ [] }))
unfolding chars is_utf8 encode digits
overflow_at_the_call = refl

-- what is not of the form
not_yet_bracket : seen (codes "•Show (") 1 ≡ None
unfolding chars is_utf8 encode
not_yet_bracket = refl

not_yet_divide : seen (codes "•Show 7÷2") 1 ≡ None
unfolding chars is_utf8 encode
not_yet_divide = refl

not_yet_strand : seen (codes "1 2") 1 ≡ None
unfolding chars is_utf8 encode
not_yet_strand = refl

not_yet_function : seen (codes "1 +") 1 ≡ None
unfolding chars is_utf8 encode
not_yet_function = refl

not_yet_name : seen (codes "a") 1 ≡ None
unfolding chars is_utf8 encode
not_yet_name = refl

not_yet_other_role : seen (codes "•show 1") 1 ≡ None
unfolding chars is_utf8 encode
not_yet_other_role = refl

-- spelling does not count, nor do comments and carriage returns before a line feed
other_spelling : seen (codes "•S_HOW 1_0e1\r\n# c") 1 ≡ Some (Gives tt (state (codes "100\n") 0))
unfolding chars is_utf8 encode digits
other_spelling = refl

-- names and parentheses
abbrev ended : List ℕ → List ℤ → Res (Unit {0})
ended text vars = Gives tt (record { written = encode_utf8_all text; left = 0; vars = vars })

names_of_two_spellings : seen (codes "a_B←1e3 # c\n•Show ab-1_0") 1 ≡ Some (ended (codes "990\n") (pos 1000 ∷ []))
unfolding chars is_utf8 encode digits
names_of_two_spellings = refl

names_and_parentheses : seen (codes "a←2 ⋄ b←a×(a+3) ⋄ •Show -b") 1 ≡ Some (ended (codes "¯10\n") (pos 2 ∷ pos 10 ∷ []))
unfolding chars is_utf8 encode digits
names_and_parentheses = refl

-- the right argument first
order_of_arguments : seen (codes "•Show(•Show 1)+(•Show 2)") 1 ≡ Some (ended (codes "2\n1\n3\n") [])
unfolding chars is_utf8 encode digits
order_of_arguments = refl

not_yet_redefined : seen (codes "a←1⋄a←2") 1 ≡ None
unfolding chars is_utf8 encode
not_yet_redefined = refl

not_yet_used_in_its_definition : seen (codes "a←a") 1 ≡ None
unfolding chars is_utf8 encode
not_yet_used_in_its_definition = refl

not_yet_adjacent : seen (codes "(1)(2)") 1 ≡ None
unfolding chars is_utf8 encode
not_yet_adjacent = refl

not_yet_separator_inside : seen (codes "(1⋄2)") 1 ≡ None
unfolding chars is_utf8 encode
not_yet_separator_inside = refl

not_yet_open : seen (codes "1)") 1 ≡ None
unfolding chars is_utf8 encode
not_yet_open = refl

not_yet_empty_parentheses : seen (codes "()") 1 ≡ None
unfolding chars is_utf8 encode
not_yet_empty_parentheses = refl

not_yet_definition_inside : seen (codes "1+(a←2)") 1 ≡ None
unfolding chars is_utf8 encode
not_yet_definition_inside = refl

not_yet_definition_left : seen (codes "1+a←2") 1 ≡ None
unfolding chars is_utf8 encode
not_yet_definition_left = refl
