-- The text of a value, as `•Show` writes it: this project's own.
use Rattle.std.specs.Prelude.{ℕ, ◌==◌, ◌-◌, nat_lt, Bool, true, false, not, cond, ◌&&◌, ◌||◌, List, [], ◌∷◌, ◌++◌, map, slice_get, Option, Some, None, decimal}
use Rattle.std.specs.List.{flat_map}
use lib.Chars.{codes}
use Rattle.bqn_base.specs.Printed.{number_text}
use Rattle.bqn_base.specs.Signs.{primitive_signs, system_names, capitalized}
use Rattle.bqn_rows.specs.Plain.{Value, Number, Character, Array, Given, Derived, Function, Modifier1, Modifier2, Namespace, Values, none, more, Fill, unfilled, filled, list}

abbrev pub named : Option (List ℕ) → List ℕ
named None = []
named (Some name) = codes "•" ++ capitalized name

abbrev pub sign_or_name : Option ℕ → ℕ → List ℕ
sign_or_name (Some sign) code = sign ∷ []
sign_or_name None code = named (slice_get system_names (code - 64))

-- how a primitive or a system function is written
abbrev pub spelling : ℕ → List ℕ
spelling code = sign_or_name (slice_get primitive_signs code) code

-- a character without a sign of its own: below the space, and delete
abbrev pub is_unseen : ℕ → Bool
is_unseen c = nat_lt c 32 || (c == 127)

abbrev pub character_text : ℕ → List ℕ
character_text c = elim (is_unseen c) [ true ↦ codes "(@+" ++ decimal c ++ codes ")" | false ↦ 39 ∷ c ∷ 39 ∷ [] ]

-- ---- arrays

-- pieces with a sign between them
abbrev pub between : ℕ → List (List ℕ) → List ℕ
between sign [] = []
between sign (t ∷ []) = t
between sign (t ∷ ts) = t ++ sign ∷ between sign ts

-- the elements are characters, each with a sign of its own
abbrev pub are_seen : Values → Bool
are_seen none = true
are_seen (more (Character c) xs) = not (is_unseen c) && are_seen xs
are_seen (more x xs) = false

-- a character within double quotes, where a double quote is written twice
abbrev pub quoted : Value → List ℕ
quoted (Character c) = cond (c == 34) (34 ∷ 34 ∷ []) (c ∷ [])
quoted x = []

-- elements as a list: in double quotes, or between brackets and with commas; no elements by the text of their fill
abbrev pub elements_text : Values → List (List ℕ) → (fill : List ℕ) → List ℕ
elements_text none texts fill = fill
elements_text xs texts fill = cond (are_seen xs) (34 ∷ flat_map quoted (list xs) ++ 34 ∷ []) (codes "⟨" ++ between 44 texts ++ codes "⟩")

-- an array of these axes, by its elements as a list and by each of them
abbrev pub array_text : List ℕ → (all : List ℕ) → (each : List (List ℕ)) → List ℕ
array_text [] all each = codes "(<" ++ between 44 each ++ codes ")"
array_text (n ∷ []) all each = all
array_text shape all each = codes "(" ++ between 8255 (map decimal shape) ++ codes "⥊" ++ all ++ codes ")"

abbrev mutual
  pub shown : Value → List ℕ
  shown (Number n) = number_text n
  shown (Character c) = character_text c
  shown (Array shape xs f) = array_text shape (elements_text xs (all_shown xs) (fill_shown f)) (all_shown xs)
  shown (Given code) = spelling code
  shown (Derived maker parts) = codes "<function>"
  shown (Function block environment operands) = codes "<function>"
  shown (Modifier1 block environment) = codes "<1-modifier>"
  shown (Modifier2 block environment) = codes "<2-modifier>"
  shown (Namespace environment) = codes "<namespace>"

  pub all_shown : Values → List (List ℕ)
  all_shown none = []
  all_shown (more x xs) = shown x ∷ all_shown xs

  -- an empty list with this fill; a fill that is a number is 0, and one that is a character the space
  pub fill_shown : Fill → List ℕ
  fill_shown unfilled = codes "⟨⟩"
  fill_shown (filled (Number n)) = codes "(↕0)"
  fill_shown (filled (Character c)) = 34 ∷ 34 ∷ []
  fill_shown (filled f) = codes "(0↑⟨" ++ shown f ++ codes "⟩)"

-- ---- `•Fmt`

abbrev pub is_character : Value → Bool
is_character (Character c) = true
is_character x = false

abbrev pub are_characters : Values → Bool
are_characters none = true
are_characters (more x xs) = is_character x && are_characters xs

abbrev pub code_of : Value → List ℕ
code_of (Character c) = c ∷ []
code_of x = []

-- a list of characters, or an empty list
abbrev pub is_text : Value → Bool
is_text (Array (n ∷ []) xs f) = are_characters xs
is_text x = false

-- a list of characters, or an empty one, as it is; a character as itself; else the text
abbrev pub formatted : Value → List ℕ
formatted (Array shape xs f) = cond (is_text (Array shape xs f)) (flat_map code_of (list xs)) (shown (Array shape xs f))
formatted (Character c) = c ∷ []
formatted x = shown x
