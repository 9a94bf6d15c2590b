-- How the code keeps a number's spelling: parts of the word, with their underscores.
use Rattle.std.specs.Prelude.{Option, Some, None}
use Rattle.bqn_base.specs.Literal.{Spelled}
use Rattle.bqn_literal.specs.declared.spelling.Spelling.{Spelling}
use Rattle.bqn_literal.specs.Shown.{figures}

-- what the parts of a word spell, without their underscores
abbrev pub spelled_by : Spelling → Spelled
spelled_by s = record { negative = s.negative; whole = figures s.whole.now; fraction = figures s.fraction.now; down = s.down; power = figures s.power.now }

-- the spelling that is found, if one is
abbrev pub found : Option Spelling → Option Spelled
found None = None
found (Some s) = Some (spelled_by s)
