-- What parts of a word show, whose underscores still stand in them.
use Rattle.std.specs.Prelude.{ℕ, Bool, List, filter, take, drop}
use Rattle.std.specs.List.{list_any}
use Rattle.bqn_base.specs.Characters.{is_digit}
use Rattle.bqn_base.specs.Literal.{Digits, without_underscores}

-- the digits of a part
abbrev pub figures : List ℕ → List ℕ
figures = filter is_digit

-- whether a part has a digit
abbrev pub has_figure : List ℕ → Bool
has_figure = list_any is_digit

-- a word that is parted at this place
abbrev pub front_at : ℕ → List ℕ → Digits
front_at n word = record { digits = figures (take n word); rest = without_underscores (drop n word) }
