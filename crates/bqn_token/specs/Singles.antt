-- Characters that are pieces by themselves, parted by their codes.
use Rattle.std.specs.Prelude.{ℕ, ◌+◌, nat_le, nat_lt, ◌==◌, Bool, ◌&&◌, cond, List, [], ◌∷◌, ◌++◌, Option, Some, None}
use lib.Chars.{codes}
use Rattle.bqn_syntax.specs.text.Table.{is_one_of, blanks, punctuation, special_names, primitive_functions, primitive_modifiers}

-- the primitives in the order of their codes
abbrev pub primitives : List ℕ
primitives = primitive_functions ++ primitive_modifiers

-- the blanks, punctuation, `@` and the special names of one character
abbrev pub marks : List ℕ
marks = blanks ++ punctuation ++ codes "@" ++ special_names

-- whether a character is one of those
abbrev pub is_mark : ℕ → Bool
is_mark = is_one_of marks

-- the place of a character among those from a first one up to a last one, which is left out; places are counted on from a number
abbrev pub place_between : (first last : ℕ) → ℕ → List ℕ → ℕ → Option ℕ
place_between first last count [] c = None
place_between first last count (d ∷ ds) c =
    cond (nat_le first d && nat_lt d last)
    (cond (d == c) (Some count) (place_between first last (count + 1) ds c))
    (place_between first last (count + 1) ds c)
