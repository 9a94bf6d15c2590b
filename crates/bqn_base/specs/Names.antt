-- Names, as the language compares them: without case and underscores.
use Rattle.std.specs.Prelude.{ℕ, Bool, ◌||◌}
use Rattle.bqn_base.specs.Characters.{is_digit, is_lower}

-- a lower-case letter or a digit
abbrev pub is_name_character : ℕ → Bool
is_name_character c = is_lower c || is_digit c
