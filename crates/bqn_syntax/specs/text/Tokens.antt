-- The tokens of a text with their places, or its first refusal: BQN's page on tokens.
use Rattle.std.specs.Prelude.{ℕ, zero, suc, ◌+◌, ◌-◌, ◌==◌, ◌||◌, if◌then◌else◌, List, [], ◌∷◌, ◌++◌, take, Option, Some, None, Result, Ok, Err, position}
use Rattle.std.specs.Option.{option_map}
use Rattle.bqn_base.specs.declared.place.Place.{Place}
use Rattle.bqn_base.specs.declared.refusal.Refusal.{Refusal}
use Rattle.bqn_base.specs.declared.refusal.Refusal.TheVariants as refusal
use Rattle.bqn_base.specs.Characters.{newline, double_quote, number_sign, single_quote, bullet}
use Rattle.bqn_base.specs.Literal.{Literal, Number, Bad, Range, literal, unquoted}
use Rattle.bqn_syntax.specs.declared.progress.Progress.TheVariants.{Start}
use Rattle.bqn_syntax.specs.declared.token.Kind.{Kind}
use Rattle.bqn_syntax.specs.declared.token.Kind.TheVariants as kind
use Rattle.bqn_syntax.specs.declared.token.Token.{Token}
use Rattle.bqn_syntax.specs.text.Table.{primitive_functions, primitive_modifiers, blanks, is_one_of, is_name_start, is_word}
use Rattle.bqn_syntax.specs.text.Cut.{longest}
use Rattle.bqn_syntax.specs.text.Text.{text_of}
use Rattle.bqn_syntax.specs.text.Words.{word_kind, system_kind, special_of, role_of}

-- why there is no token at a place
pub data Trouble : Type 0 where
  BadChar OpenQuote BadNumber NumberRange BadName : Trouble

abbrev pub refused_at : Trouble → Place → Refusal
refused_at BadChar place = refusal.BadChar place
refused_at OpenQuote place = refusal.OpenQuote place
refused_at BadNumber place = refusal.BadNumber place
refused_at NumberRange place = refusal.NumberRange place
refused_at BadName place = refusal.BadName place

-- why no piece starts with this character
abbrev pub no_piece : ℕ → Trouble
no_piece c = if (c == single_quote) || (c == double_quote) then OpenQuote else if c == bullet then BadName else BadChar

-- a list without its last element
abbrev pub all_but_last : List ℕ → List ℕ
all_but_last [] = []
all_but_last (c ∷ []) = []
all_but_last (c ∷ d ∷ cs) = c ∷ all_but_last (d ∷ cs)

abbrev pub number_kind : Literal → Result (Option Kind) Trouble
number_kind (Number z) = Ok (Some (kind.Number z))
number_kind Bad = Err BadNumber
number_kind Range = Err NumberRange

abbrev pub name_kind : Option Kind → Result (Option Kind) Trouble
name_kind None = Err BadName
name_kind (Some k) = Ok (Some k)

-- the code of a primitive is its place among them
abbrev pub primitive_kind : ℕ → Option Kind
primitive_kind c = option_map (λ code. kind.Given code) (position (λ d. d == c) (primitive_functions ++ primitive_modifiers))

-- `@`, which is the character with code 0
abbrev pub at_sign : ℕ
at_sign = 64

-- what a character that is a piece by itself stands for
abbrev pub single_kind : ℕ → Kind
single_kind c =
    if c == at_sign then kind.Char 0
    else elim (special_of c) [
      | Some name ↦ kind.Special name (role_of (c ∷ []))
      | None ↦ elim (primitive_kind c) [ Some k ↦ k | None ↦ kind.Punct c ]
    ]

-- the character between single quotes
abbrev pub quoted : List ℕ → Result (Option Kind) Trouble
quoted [] = Err OpenQuote
quoted (c ∷ cs) = Ok (Some (kind.Char c))

-- what a piece stands for: nothing for a blank or a comment, or a token; a bad word has its refusal
abbrev pub kind_of : List ℕ → Result (Option Kind) Trouble
kind_of [] = Ok None
kind_of (c ∷ cs) =
    if is_one_of blanks c || (c == number_sign) then Ok None
    else if c == single_quote then quoted cs
    else if c == double_quote then Ok (Some (kind.Text (unquoted (all_but_last cs))))
    else if c == bullet then name_kind (system_kind cs)
    else if is_name_start c then name_kind (word_kind (c ∷ cs))
    else if is_word c then number_kind (literal (c ∷ cs))
    else Ok (Some (single_kind c))

-- the place behind a character
abbrev pub past : ℕ → Place → Place
past c place =
    if c == newline then record { line = place.line + 1; column = 1 }
    else record { line = place.line; column = place.column + 1 }

-- the place behind a piece
abbrev pub behind : List ℕ → Place → Place
behind [] place = place
behind (c ∷ cs) place = behind cs (past c place)

-- a piece at a place, before what follows it
abbrev pub with_kind : Result (Option Kind) Trouble → Place → Result (List Token) Refusal → Result (List Token) Refusal
with_kind (Err trouble) place tokens = Err (refused_at trouble place)
with_kind (Ok None) place tokens = tokens
with_kind (Ok (Some k)) place (Ok tokens) = Ok (record { kind = k; place = place } ∷ tokens)
with_kind (Ok (Some k)) place (Err r) = Err r

-- the tokens of a text behind so many characters, from a place on
abbrev pub tokens_behind : ℕ → Place → List ℕ → Result (List Token) Refusal
tokens_behind count place [] = Ok []
tokens_behind (suc count) place (c ∷ cs) = tokens_behind count place cs
tokens_behind zero place (c ∷ cs) = elim (longest Start (c ∷ cs)) [
  | None ↦ Err (refused_at (no_piece c) place)
  | Some count ↦ with_kind (kind_of (take count (c ∷ cs))) place (tokens_behind (count - 1) (behind (take count (c ∷ cs)) place) cs)
]

abbrev pub first_place : Place
first_place = record { line = 1; column = 1 }

-- the tokens of a text; the leftmost bad one is refused
abbrev pub tokens_of_text : List ℕ → Result (List Token) Refusal
tokens_of_text text = tokens_behind 0 first_place text

-- the tokens of a source
abbrev pub tokens_of_source : List ℕ → Result (List Token) Refusal
tokens_of_source bytes = elim (text_of bytes) [ Ok text ↦ tokens_of_text text | Err r ↦ Err r ]
