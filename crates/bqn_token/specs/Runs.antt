-- How far comments and words reach, and words that are spelled as the names that they name.
use Rattle.std.specs.Prelude.{ℕ, suc, ◌==◌, Bool, true, false, not, ◌&&◌, cond, List, [], ◌∷◌, Option, Some, None}
use Rattle.std.specs.Option.{option_map}
use Rattle.std.specs.List.{list_all}
use Rattle.bqn_base.specs.Characters.{newline, dot, is_lower}
use Rattle.bqn_base.specs.Names.{is_name_character}
use Rattle.bqn_syntax.specs.text.Table.{is_word}

-- how many characters stand before the first newline
abbrev pub line_extent : List ℕ → ℕ
line_extent [] = 0
line_extent (c ∷ cs) = cond (c == newline) 0 (suc (line_extent cs))

-- how many characters in front may stand in a word, or none where a dot stands behind them
abbrev pub word_extent : List ℕ → Option ℕ
word_extent [] = Some 0
word_extent (c ∷ cs) = cond (is_word c) (option_map suc (word_extent cs)) (cond (c == dot) None (Some 0))

-- whether neither a character of a word nor a dot stands in front
abbrev pub ends_word : List ℕ → Bool
ends_word [] = true
ends_word (c ∷ cs) = not (is_word c) && not (c == dot)

-- whether a lower-case letter or a digit is a word by itself before a text
abbrev pub is_short_word : ℕ → List ℕ → Bool
is_short_word c text = is_name_character c && ends_word text

-- a lower-case letter, and then such letters and digits
abbrev pub is_plain_name : List ℕ → Bool
is_plain_name [] = false
is_plain_name (c ∷ cs) = is_lower c && list_all is_name_character (c ∷ cs)
