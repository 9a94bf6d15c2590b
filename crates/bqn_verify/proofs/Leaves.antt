-- Counts of a code and of its patterns.
use Rattle.std.proofs.Common.{◌≡◌, suc, Bool, List, [], ◌∷◌, length, map, refl, ap}
use Rattle.std.specs.List.{list_all}
use Rattle.std.proofs.lemmas.List.{length-map}
use Rattle.std.proofs.lemmas.List.Folds.{list_all-map}
use Rattle.bqn_code.specs.declared.pattern.PatternCode.{PatternCode}
use Rattle.bqn_code.specs.Plain.{Pattern, patterns, parts, pattern_of}

pub parts-of : (all : List PatternCode) → parts (patterns (map pattern_of all)) ≡ length all
parts-of [] = refl
parts-of (p ∷ ps) = ap suc (parts-of ps)

pub patterns-length : (all : List PatternCode) → length (map pattern_of all) ≡ length all
patterns-length all = length-map all pattern_of

pub all-patterns : (t : Pattern → Bool) (all : List PatternCode) → list_all t (map pattern_of all) ≡ list_all (λ p. t (pattern_of p)) all
all-patterns t all = list_all-map t pattern_of all

pub ruleset code_lengths = (patterns-length, all-patterns)

pub ruleset part_laws = (parts-of)
