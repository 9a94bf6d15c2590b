-- What a word denotes, by its form and its size.
use Rattle.std.proofs.Common.{◌≡◌, ◌≤◌, ◌<◌, ◌+◌, ◌^◌, ℕ, zero, suc, ℤ, pos, negsuc, Bool, true, false, Option, Some, None, Result, Ok, Err, List, length, drop, get_or, drop-cons, refl, sym, ap, ◌∙◌, arith, add-one}
use Rattle.std.specs.Prelude.{◌||◌, nat_lt, FitsSigned, if◌then◌else◌}
use Rattle.std.specs.List.{list_any}
use Rattle.std.specs.Int.{w64}
use Rattle.std.specs.Option.{option_and_then}
use Rattle.std.specs.Result.{OkIff}
use Rattle.std.proofs.lemmas.Bool.Decides.{nat_tests}
use Rattle.std.proofs.Math.ListN.{drop_of_length-le}
use Rattle.bqn_base.specs.Arithmetic.{fits}
use Rattle.bqn_base.specs.Literal.{Literal, Number, Range, Spelled, spelled, magnitude, in_64_bits, with_sign, spelled_literal, without_underscores, is_past_numbers, literal}
use Rattle.bqn_literal.specs.Results.{number_of}
use Rattle.bqn_literal.specs.Values.{small}
use Rattle.bqn_literal.proofs.Past.{spelled-no_past}
use Rattle.bqn_literal.specs.declared.error.NumberError.{NumberError}
use Rattle.bqn_literal.specs.declared.error.NumberError.TheVariants as e

below : (n : ℕ) → n < 2 ^ 63 → nat_lt n (2 ^ 63) ≡ true
below n h = grind (arith, nat_tests)

not_below : (n : ℕ) → (n < 2 ^ 63 → ⊥) → nat_lt n (2 ^ 63) ≡ false
not_below n h = grind (arith, nat_tests)

fits-true : (z : ℤ) → FitsSigned w64 z → fits z ≡ true
fits-true (pos n) h = below n h.sfits
fits-true (negsuc n) h = below n h.sfits

fits-false : (z : ℤ) → ¬ (FitsSigned w64 z) → fits z ≡ false
fits-false (pos n) h = not_below n (λ p. h (record { sfits = p }))
fits-false (negsuc n) h = not_below n (λ p. h (record { sfits = p }))

abbrev answer_case : ℤ → Bool → Result ℤ NumberError
answer_case z inside = number_of (if inside then Number z else Range)

pub number-within : (z : ℤ) → FitsSigned w64 z → number_of (in_64_bits z) ≡ Ok z
number-within z h = ap (answer_case z) (fits-true z h)

pub number-outside : (z : ℤ) → ¬ (FitsSigned w64 z) → number_of (in_64_bits z) ≡ Err e.Range
number-outside z h = ap (answer_case z) (fits-false z h)

pub number-converted : {E : Type 0} (r : Result ℤ E) (z x : ℤ) → OkIff r (FitsSigned w64 z) z → r ≡ Ok x → number_of (in_64_bits z) ≡ Ok x
number-converted (Err f) z x h k = absurd (cc)
number-converted (Ok y) z x h k = number-within z h.0 ∙ ap (λ (w : ℤ). Ok w) (sym h.1) ∙ cc

pub number-refused : {E : Type 0} (r : Result ℤ E) (z : ℤ) (f : E) → OkIff r (FitsSigned w64 z) z → r ≡ Err f → number_of (in_64_bits z) ≡ Err e.Range
number-refused (Err g) z f h k = number-outside z h
number-refused (Ok y) z f h k = absurd (cc)

pub ruleset fits_laws = (number-within, number-outside, number-converted, number-refused)

pub has_past-some : (cs : List ℕ) (i : ℕ) → i < length cs → is_past_numbers (get_or cs i 0) ≡ true → list_any is_past_numbers (drop i cs) ≡ true
has_past-some cs i lt h = ap (list_any is_past_numbers) (drop-cons cs i 0 lt) ∙ ap (λ (b : Bool). b || list_any is_past_numbers (drop (suc i) cs)) h

pub has_past-other : (cs : List ℕ) (i : ℕ) → i < length cs → is_past_numbers (get_or cs i 0) ≡ false → list_any is_past_numbers (drop i cs) ≡ list_any is_past_numbers (drop (i + 1) cs)
has_past-other cs i lt h = ap (list_any is_past_numbers) (drop-cons cs i 0 lt) ∙ ap (λ (b : Bool). b || list_any is_past_numbers (drop (suc i) cs)) h ∙ ap (λ (k : ℕ). list_any is_past_numbers (drop k cs)) (sym (add-one i))

pub has_past-end : (cs : List ℕ) (i : ℕ) → length cs ≤ i → list_any is_past_numbers (drop i cs) ≡ false
has_past-end cs i h = ap (list_any is_past_numbers) (drop_of_length-le cs h)

pub ruleset past_laws = (has_past-some, has_past-other, has_past-end)

-- a number past 64 bits may be left out before its sign is seen
number-wide : (negative : Bool) (n : ℕ) → 2 ^ 64 ≤ n → number_of (with_sign negative (Some n)) ≡ Err e.Range
number-wide true zero h = absurd (omega arith)
number-wide true (suc n) h = ap (answer_case (negsuc n)) (not_below n (λ p. omega arith))
number-wide false n h = ap (answer_case (pos n)) (not_below n (λ p. omega arith))

with_small : (negative fits : Bool) (n : ℕ) → nat_lt n (2 ^ 64) ≡ fits → number_of (with_sign negative (Some n)) ≡ number_of (with_sign negative (if fits then Some n else None))
with_small negative true n h = refl
with_small true false n h = number-wide true n (grind (arith, nat_tests))
with_small false false n h = number-wide false n (grind (arith, nat_tests))

number-small : (negative : Bool) (size : Option ℕ) → number_of (with_sign negative size) ≡ number_of (with_sign negative (option_and_then small size))
number-small negative None = refl
number-small negative (Some n) = with_small negative (nat_lt n (2 ^ 64)) n refl

abbrev literal_case : Bool → List ℕ → Literal
literal_case past word = elim past as (λ x. Literal) [ true ↦ Range | false ↦ spelled_literal (spelled (without_underscores word)) ]

pub number-found : (word : List ℕ) (s : Spelled) → spelled (without_underscores word) ≡ Some s → number_of (literal word) ≡ number_of (with_sign s.negative (option_and_then small (magnitude s)))
number-found word s e =
    ap (λ (b : Bool). number_of (literal_case b word)) (spelled-no_past word s e)
    ∙ ap (λ (o : Option Spelled). number_of (spelled_literal o)) e
    ∙ number-small s.negative (magnitude s)

pub number-bad : (word : List ℕ) → spelled (without_underscores word) ≡ None → list_any is_past_numbers word ≡ false → number_of (literal word) ≡ Err e.Bad
number-bad word e h = ap (λ (b : Bool). number_of (literal_case b word)) h ∙ ap (λ (o : Option Spelled). number_of (spelled_literal o)) e

pub number-past : (word : List ℕ) → list_any is_past_numbers word ≡ true → number_of (literal word) ≡ Err e.Range
number-past word h = ap (λ (b : Bool). number_of (literal_case b word)) h

pub ruleset word_laws = (number-found, number-bad, number-past)
