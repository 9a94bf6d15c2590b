-- What literals denote: BQN's pages on tokens and literals, for whole numbers of 64 bits.
use Rattle.std.specs.Prelude.{ℕ, zero, suc, ◌+◌, ◌-◌, ◌*◌, ◌/◌, ◌%◌, ◌^◌, nat_le, ◌==◌, Bool, true, false, not, ◌&&◌, ◌||◌, if◌then◌else◌, ℤ, pos, neg_ℤ, List, [], ◌∷◌, ◌++◌, length, filter, Option, Some, None}
use Rattle.std.specs.List.{list_all, list_any}
use Rattle.bqn_base.specs.Characters.{zero_digit, double_quote, dot, capital_e, underscore, small_e, macron, pi, infinity, is_digit}
use Rattle.bqn_base.specs.Arithmetic.{fits}

-- a number, a word that has no number form, or a number that is not whole or not one of 64 bits
pub data Literal : Type 0 where
  Number : ℤ → Literal
  Bad : Literal
  Range : Literal

-- digits, perhaps none, and what follows them
pub record Digits : Type 0 where
  pub digits : List ℕ
  pub rest : List ℕ

abbrev pub onto_digits : ℕ → Digits → Digits
onto_digits c front = record { digits = c ∷ front.digits; rest = front.rest }

-- the digits in front of a list
abbrev pub digits_in : List ℕ → Digits
digits_in [] = record { digits = []; rest = [] }
digits_in (c ∷ cs) = elim (is_digit c) [ true ↦ onto_digits c (digits_in cs) | false ↦ record { digits = []; rest = c ∷ cs } ]

-- a number as it is written: digits, digits of a fraction, and a power of ten, each perhaps with a macron
pub record Spelled : Type 0 where
  pub negative : Bool
  pub whole : List ℕ
  pub fraction : List ℕ
  pub down : Bool
  pub power : List ℕ

-- digits to the end; at least one
abbrev pub are_digits : List ℕ → Bool
are_digits [] = false
are_digits (c ∷ cs) = list_all is_digit (c ∷ cs)

-- the power behind an `e`
abbrev pub with_power : (negative : Bool) → (whole fraction : List ℕ) → List ℕ → Option Spelled
with_power negative whole fraction [] = None
with_power negative whole fraction (c ∷ cs) =
    if c == macron
    then (if are_digits cs then Some (record { negative = negative; whole = whole; fraction = fraction; down = true; power = cs }) else None)
    else (if are_digits (c ∷ cs) then Some (record { negative = negative; whole = whole; fraction = fraction; down = false; power = c ∷ cs }) else None)

-- what may follow the digits: nothing, or an `e` and a power
abbrev pub with_end : (negative : Bool) → (whole fraction : List ℕ) → List ℕ → Option Spelled
with_end negative whole fraction [] = Some (record { negative = negative; whole = whole; fraction = fraction; down = false; power = [] })
with_end negative whole fraction (c ∷ cs) = if (c == small_e) || (c == capital_e) then with_power negative whole fraction cs else None

-- the digits behind a dot
abbrev pub with_fraction : (negative : Bool) → (whole : List ℕ) → Digits → Option Spelled
with_fraction negative whole front = elim front.digits [ [] ↦ None | c ∷ cs ↦ with_end negative whole (c ∷ cs) front.rest ]

-- what may follow the first digits: a dot and a fraction, or the end
abbrev pub behind_whole : (negative : Bool) → (whole : List ℕ) → List ℕ → Option Spelled
behind_whole negative whole [] = with_end negative whole [] []
behind_whole negative whole (c ∷ cs) = elim (c == dot) [ true ↦ with_fraction negative whole (digits_in cs) | false ↦ with_end negative whole [] (c ∷ cs) ]

abbrev pub with_whole : (negative : Bool) → Digits → Option Spelled
with_whole negative front = elim front.digits [ [] ↦ None | c ∷ cs ↦ behind_whole negative (c ∷ cs) front.rest ]

-- how a word is written as a number, if it is one
abbrev pub spelled : List ℕ → Option Spelled
spelled [] = None
spelled (c ∷ cs) = elim (c == macron) [ true ↦ with_whole true (digits_in cs) | false ↦ with_whole false (digits_in (c ∷ cs)) ]

-- what digits stand for, behind digits that stand for the first number
abbrev pub value_from : ℕ → List ℕ → ℕ
value_from value [] = value
value_from value (c ∷ cs) = value_from (value * 10 + (c - zero_digit)) cs

-- digits that stand for the first number, times ten to the power up - down, where that is whole; zero is zero for every power
abbrev pub scaled : ℕ → (up down : ℕ) → Option ℕ
scaled zero up down = Some 0
scaled (suc n) up down =
    if nat_le down up then Some (suc n * 10 ^ (up - down))
    else if (suc n % 10 ^ (down - up)) == 0 then Some (suc n / 10 ^ (down - up))
    else None

-- the whole number that is written so
abbrev pub magnitude : Spelled → Option ℕ
magnitude s =
    scaled (value_from 0 (s.whole ++ s.fraction))
    (if s.down then 0 else value_from 0 s.power)
    (length s.fraction + (if s.down then value_from 0 s.power else 0))

abbrev pub in_64_bits : ℤ → Literal
in_64_bits z = if fits z then Number z else Range

abbrev pub with_sign : (negative : Bool) → Option ℕ → Literal
with_sign negative None = Range
with_sign true (Some n) = in_64_bits (neg_ℤ (pos n))
with_sign false (Some n) = in_64_bits (pos n)

abbrev pub spelled_literal : Option Spelled → Literal
spelled_literal None = Bad
spelled_literal (Some s) = with_sign s.negative (magnitude s)

abbrev pub without_underscores : List ℕ → List ℕ
without_underscores = filter (λ c. not (c == underscore))

-- `∞` and `π` are no numbers of 64 bits
abbrev pub is_past_numbers : ℕ → Bool
is_past_numbers c = (c == infinity) || (c == pi)

-- what a number word denotes, after its underscores are dropped
abbrev pub literal : List ℕ → Literal
literal word = elim (list_any is_past_numbers word) [ true ↦ Range | false ↦ spelled_literal (spelled (without_underscores word)) ]

-- the text between double quotes; two adjacent ones stand for one
abbrev pub unquoted : List ℕ → List ℕ
unquoted [] = []
unquoted (c ∷ []) = c ∷ []
unquoted (c ∷ d ∷ cs) = elim (c == double_quote) [ true ↦ double_quote ∷ unquoted cs | false ↦ c ∷ unquoted (d ∷ cs) ]

-- each double quote stands beside another one of its own
abbrev pub is_doubled : List ℕ → Bool
is_doubled [] = true
is_doubled (c ∷ []) = not (c == double_quote)
is_doubled (c ∷ d ∷ cs) = elim (c == double_quote) [ true ↦ (d == double_quote) && is_doubled cs | false ↦ is_doubled (d ∷ cs) ]
