-- The commands that the words of a command line may be.
use Rattle.std.specs.Prelude.{ℕ, Bool, not, ◌&&◌, nat_eq, codes, List, [], ◌∷◌, if◌then◌else◌}
use Rattle.std.specs.Cmp.Lexicographic.{pointwise}

pub data Command : Type 0 where
  -- runs the source in a file
  Run : (file : List ℕ) → Command
  -- says by which refusal the source in a file is refused, if it is
  Check : (file : List ℕ) → Command
  -- the words are no command
  NoCommand : Command

-- two words, byte by byte
abbrev pub is_word : List ℕ → List ℕ → Bool
is_word word other = pointwise nat_eq word other

-- `check` and any word, or `run` and one word that does not ask for steps
abbrev pub command_of : List (List ℕ) → Command
command_of (name ∷ file ∷ []) =
    if is_word name (codes "check") then Check file
    else if is_word name (codes "run") && not (is_word file (codes "--steps")) then Run file
    else NoCommand
command_of _ = NoCommand
