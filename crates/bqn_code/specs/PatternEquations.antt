-- What each pattern of the code is as plain data, level by level.
use Rattle.std.proofs.Common.{◌≡◌, ℕ, List, map, rules}
use Rattle.bqn_code.specs.declared.pattern.PatternCode.{PatternCode, the_lemmas}
use Rattle.bqn_code.specs.declared.pattern.PatternCode.TheVariants as pattern
use Rattle.bqn_code.specs.Plain.{Skip, Define, Change, ListPattern, Literal, patterns, pattern_of}

pub pattern-Skip : pattern_of pattern.Skip ≡ Skip
pattern-Skip = search (rules, the_lemmas)

pub pattern-Define : (slot name : ℕ) → pattern_of (pattern.Define slot name) ≡ Define slot name
pattern-Define slot name = search (rules, the_lemmas)

pub pattern-Change : (up slot name : ℕ) → pattern_of (pattern.Change up slot name) ≡ Change up slot name
pattern-Change up slot name = search (rules, the_lemmas)

pub pattern-List : (all : List PatternCode) → pattern_of (pattern.List all) ≡ ListPattern (patterns (map pattern_of all))
pattern-List all = search (rules, the_lemmas)

pub pattern-Literal : (constant : ℕ) → pattern_of (pattern.Literal constant) ≡ Literal constant
pattern-Literal constant = search (rules, the_lemmas)

pub ruleset pattern_equations = (pattern-Skip, pattern-Define, pattern-Change, pattern-List, pattern-Literal)
