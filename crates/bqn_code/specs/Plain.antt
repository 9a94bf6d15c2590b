-- Code as plain lists, and what a code of the program is as such data: the same, level by level.
use Rattle.std.specs.Prelude.{ℕ, suc, Bool, List, [], ◌∷◌, map}
use Rattle.bqn_code.specs.declared.constant.Const.{Const}
use Rattle.bqn_code.specs.declared.pattern.PatternCode.{PatternCode, PatternCode-F, fold-PatternCode}
use Rattle.bqn_code.specs.declared.code.Block.{Block}
use Rattle.bqn_code.specs.declared.code.Code.{Code as CodeCode}

-- what a value is taken apart by; a list of patterns takes a list of as many elements
mutual
  pub data Pattern : Type 0 where
    Skip : Pattern
    Define : (slot name : ℕ) → Pattern
    Change : (up slot name : ℕ) → Pattern
    ListPattern : Patterns → Pattern
    Literal : (constant : ℕ) → Pattern

  pub data Patterns : Type 0 where
    no_patterns : Patterns
    and_patterns : Pattern → Patterns → Patterns

abbrev pub patterns : List Pattern → Patterns
patterns [] = no_patterns
patterns (p ∷ ps) = and_patterns p (patterns ps)

-- how many there are
abbrev pub parts : Patterns → ℕ
parts no_patterns = 0
parts (and_patterns p ps) = suc (parts ps)

-- whether instructions have places; the spellings of the names, the constants, the patterns and the blocks, by their numbers
pub record Code : Type 0 where
  pub placed : Bool
  pub names : List (List ℕ)
  pub constants : List Const
  pub patterns : List Pattern
  pub blocks : List Block

abbrev at_pattern : PatternCode-F Pattern → Pattern
at_pattern PatternCode-F.Skip = Skip
at_pattern (PatternCode-F.Define slot name) = Define slot name
at_pattern (PatternCode-F.Change up slot name) = Change up slot name
at_pattern (PatternCode-F.List all) = ListPattern (patterns all)
at_pattern (PatternCode-F.Literal constant) = Literal constant

abbrev pub pattern_of : PatternCode → Pattern
pattern_of = fold-PatternCode Pattern at_pattern

abbrev pub code_of : CodeCode → Code
code_of code = record { placed = code.placed; names = code.names; constants = code.constants; patterns = map pattern_of code.patterns; blocks = code.blocks }
