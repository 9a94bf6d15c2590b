-- The signs and names of given values, in the order of their codes: BQN's pages on primitives and on system values. The codes are
-- this project's own.
use Rattle.std.specs.Prelude.{ℕ, ◌-◌, List, [], ◌∷◌, ◌++◌, codes as ascii}
use lib.Chars.{codes}

-- codes 0 to 43
abbrev pub primitive_functions : List ℕ
primitive_functions = codes "+-×÷⋆√⌊⌈|¬∧∨<>≠=≤≥≡≢⊣⊢⥊∾≍⋈↑↓↕«»⌽⍉/⍋⍒⊏⊑⊐⊒∊⍷⊔!"

-- with one operand: codes 44 to 52
abbrev pub one_operand_modifiers : List ℕ
one_operand_modifiers = codes "˙˜˘¨⌜⁼´˝`"

-- with two operands: codes 53 to 63
abbrev pub two_operand_modifiers : List ℕ
two_operand_modifiers = codes "∘○⊸⟜⌾⊘◶⎉⚇⍟⎊"

abbrev pub primitive_modifiers : List ℕ
primitive_modifiers = one_operand_modifiers ++ two_operand_modifiers

abbrev pub primitive_signs : List ℕ
primitive_signs = primitive_functions ++ primitive_modifiers

-- the names behind `•`, as names are compared: 64 to 68 are functions, and 69 is the list of arguments
abbrev pub system_names : List (List ℕ)
system_names = ascii "out" ∷ ascii "show" ∷ ascii "repr" ∷ ascii "fmt" ∷ ascii "type" ∷ ascii "args" ∷ []

-- with a capital in front, as the name of a function is written
abbrev pub capitalized : List ℕ → List ℕ
capitalized [] = []
capitalized (c ∷ cs) = (c - 32) ∷ cs
