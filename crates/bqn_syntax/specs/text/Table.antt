-- The table of tokens, as the states that a piece goes through character by character: BQN's page on tokens.
use Rattle.std.specs.Prelude.{ℕ, ◌==◌, Bool, true, false, ◌||◌, if◌then◌else◌, List, [], ◌∷◌, ◌++◌, Option, Some, None}
use Rattle.std.specs.List.{list_any}
use Rattle.bqn_base.specs.Characters.{tab, newline, space, double_quote, number_sign, single_quote, dot, underscore, macron, pi, bullet, infinity, own_modifier}
pub use Rattle.bqn_base.specs.Characters.{is_digit, is_lower, is_letter}
pub use Rattle.bqn_base.specs.Signs.{primitive_functions, primitive_modifiers}
use lib.Chars.{codes}
use Rattle.bqn_syntax.specs.declared.progress.Progress.{Progress}
use Rattle.bqn_syntax.specs.declared.progress.Progress.TheVariants.{Start, Done, Comment, Word, Digit, Dot, Bullet, Quote, Quoted, Inside, Closed}

-- the special names of one character; `𝕣` belongs to the words
abbrev pub special_names : List ℕ
special_names = codes "𝕨𝕩𝕤𝕗𝕘𝕎𝕏𝕊𝔽𝔾"

abbrev pub punctuation : List ℕ
punctuation = newline ∷ codes "←⇐↩(){}⟨⟩[]‿·⋄,.;:?"

-- the space and the tab
abbrev pub blanks : List ℕ
blanks = space ∷ tab ∷ []

-- what is a piece by itself; `@` is the character with code 0
abbrev pub singles : List ℕ
singles = blanks ++ punctuation ++ codes "@" ++ special_names ++ primitive_functions ++ primitive_modifiers

abbrev pub is_one_of : List ℕ → ℕ → Bool
is_one_of cs c = list_any (λ d. d == c) cs

-- a letter, the underscore or `𝕣`
abbrev pub is_name_start : ℕ → Bool
is_name_start c = is_letter c || (c == underscore) || (c == own_modifier)

-- those, the digits, `¯`, `∞` and `π`; a dot belongs to a word only between two digits
abbrev pub is_word : ℕ → Bool
is_word c = is_name_start c || is_digit c || (c == macron) || (c == infinity) || (c == pi)

abbrev pub within_word : ℕ → Option Progress
within_word c = if is_digit c then Some Digit else if is_word c then Some Word else None

abbrev pub first_state : ℕ → Option Progress
first_state c =
    if is_digit c then Some Digit
    else if is_word c then Some Word
    else if c == number_sign then Some Comment
    else if c == bullet then Some Bullet
    else if c == single_quote then Some Quote
    else if c == double_quote then Some Inside
    else if is_one_of singles c then Some Done
    else None

-- the state after one more character; none where no piece goes on so
abbrev pub next : Progress → ℕ → Option Progress
next Start c = first_state c
next Done c = None
-- a comment runs up to the next newline
next Comment c = if c == newline then None else Some Comment
next Word c = within_word c
next Digit c = if c == dot then Some Dot else within_word c
next Dot c = if is_digit c then Some Digit else None
-- a system word is `•` and a name word
next Bullet c = if is_name_start c then Some Word else None
-- any one code point stands between single quotes
next Quote c = Some Quoted
next Quoted c = if c == single_quote then Some Done else None
-- two adjacent double quotes stand for one
next Inside c = if c == double_quote then Some Closed else Some Inside
next Closed c = if c == double_quote then Some Inside else None

-- whether a piece may end here
abbrev pub is_final : Progress → Bool
is_final Start = false
is_final Done = true
is_final Comment = true
is_final Word = true
is_final Digit = true
is_final Dot = false
is_final Bullet = false
is_final Quote = false
is_final Quoted = false
is_final Inside = false
is_final Closed = true

abbrev pub is_piece_from : Progress → List ℕ → Bool
is_piece_from state [] = is_final state
is_piece_from state (c ∷ cs) = elim (next state c) [ None ↦ false | Some after ↦ is_piece_from after cs ]

-- a blank, a comment or a token of the table
abbrev pub is_piece : List ℕ → Bool
is_piece = is_piece_from Start
