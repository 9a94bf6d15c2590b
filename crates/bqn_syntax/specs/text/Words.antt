-- What words name, and with which role: BQN's pages on tokens and on expression roles.
use Rattle.std.specs.Prelude.{ℕ, ◌+◌, ◌==◌, Bool, true, false, not, ◌&&◌, ◌||◌, if◌then◌else◌, List, [], ◌∷◌, map, filter, nat_eq, Option, Some, None}
use Rattle.std.specs.List.{list_all}
use Rattle.std.specs.Cmp.Lexicographic.{pointwise}
use lib.Chars.{codes}
use Rattle.bqn_base.specs.declared.role.Role.{Role}
use Rattle.bqn_base.specs.declared.role.Role.TheVariants.{Subject, Function, Mod1, Mod2}
use Rattle.bqn_base.specs.Characters.{underscore, is_digit, is_lower, is_upper, is_letter}
use Rattle.bqn_syntax.specs.declared.token.Special.{Special}
use Rattle.bqn_syntax.specs.declared.token.Special.TheVariants.{Left, Right, Own, LeftOperand, RightOperand, Modifier}
use Rattle.bqn_syntax.specs.declared.token.Kind.{Kind}
use Rattle.bqn_syntax.specs.declared.token.Kind.TheVariants as kind
use Rattle.bqn_syntax.specs.text.Table.{is_one_of}

-- the last character is an underscore
abbrev pub ends_in_underscore : List ℕ → Bool
ends_in_underscore [] = false
ends_in_underscore (c ∷ []) = c == underscore
ends_in_underscore (c ∷ d ∷ cs) = ends_in_underscore (d ∷ cs)

-- a lower-case letter or one of the special names that are subjects
abbrev pub begins_subject : ℕ → Bool
begins_subject c = is_lower c || is_one_of (codes "𝕨𝕩𝕤𝕗𝕘𝕣") c

-- underscores on both sides make a 2-modifier, in front alone a 1-modifier; else the first letter decides
abbrev pub role_of : List ℕ → Role
role_of [] = Subject
role_of (c ∷ cs) =
    if c == underscore then (if ends_in_underscore (c ∷ cs) then Mod2 else Mod1)
    else if begins_subject c then Subject
    else Function

-- the first character behind underscores is a letter
abbrev pub begins_with_letter : List ℕ → Bool
begins_with_letter [] = false
begins_with_letter (c ∷ cs) = elim (c == underscore) [ true ↦ begins_with_letter cs | false ↦ is_letter c ]

abbrev pub is_name_character : ℕ → Bool
is_name_character c = is_letter c || is_digit c || (c == underscore)

-- underscores, then a letter, then letters, digits and underscores
abbrev pub is_name_word : List ℕ → Bool
is_name_word word = begins_with_letter word && list_all is_name_character word

abbrev pub lower_case : ℕ → ℕ
lower_case c = if is_upper c then c + 32 else c

-- names are the same without case and underscores
abbrev pub name_of : List ℕ → List ℕ
name_of word = map lower_case (filter (λ c. not (c == underscore)) word)

-- the special name of one character, if it is one
abbrev pub special_of : ℕ → Option Special
special_of c =
    if is_one_of (codes "𝕨𝕎") c then Some Left
    else if is_one_of (codes "𝕩𝕏") c then Some Right
    else if is_one_of (codes "𝕤𝕊") c then Some Own
    else if is_one_of (codes "𝕗𝔽") c then Some LeftOperand
    else if is_one_of (codes "𝕘𝔾") c then Some RightOperand
    else None

-- the words that name the modifier itself
abbrev pub is_modifier_word : List ℕ → Bool
is_modifier_word word = pointwise nat_eq word (codes "𝕣") || pointwise nat_eq word (codes "_𝕣") || pointwise nat_eq word (codes "_𝕣_")

-- what a word stands for, or none where it is no name
abbrev pub word_kind : List ℕ → Option Kind
word_kind word =
    if is_modifier_word word then Some (kind.Special Modifier (role_of word))
    else if is_name_word word then Some (kind.Word (name_of word) (role_of word))
    else None

-- what a word behind `•` stands for
abbrev pub system_kind : List ℕ → Option Kind
system_kind word = if is_name_word word then Some (kind.System (name_of word) (role_of word)) else None
