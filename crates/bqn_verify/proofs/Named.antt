-- What instructions name.
use Rattle.std.proofs.Common.{◌≡◌, ℕ, List, map, slice_get}
use Rattle.std.specs.Option.{option_map}
use Rattle.std.proofs.lemmas.Option.{slice_get-map}
use Rattle.bqn_code.specs.declared.pattern.PatternCode.{PatternCode}
use Rattle.bqn_code.specs.Plain.{pattern_of}

pub pattern-at : (all : List PatternCode) (k : ℕ) → slice_get (map pattern_of all) k ≡ option_map pattern_of (slice_get all k)
pattern-at all k = slice_get-map pattern_of all k

pub ruleset named_laws = (pattern-at)
