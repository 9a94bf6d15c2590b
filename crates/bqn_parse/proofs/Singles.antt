-- A function with no modifier is a part by itself.
use Rattle.std.proofs.Common.{◌≡◌, ◌<◌, List, [], ◌∷◌, map, length, Some, None, refl, arith}
use Rattle.bqn_syntax.specs.declared.tree.ModUse.{ModUse}
use Rattle.bqn_syntax.specs.grammar.Expressions.{single}
use Rattle.bqn_syntax.specs.grammar.Trees.{Part, derived, uses, use_of}
use Rattle.bqn_syntax.specs.grammar.Units.{Function}

pub single-free : (x : Part) (us : List ModUse) → length us ≡ 0 → single (Function (derived x (uses (map use_of us)))) ≡ Some x
single-free x [] none = refl
single-free x (u ∷ us) none = absurd (omega arith)

pub single-bound : (x : Part) (us : List ModUse) → 0 < length us → single (Function (derived x (uses (map use_of us)))) ≡ None
single-bound x [] some = absurd (omega arith)
single-bound x (u ∷ us) some = refl

pub ruleset single_laws = (single-free, single-bound)
