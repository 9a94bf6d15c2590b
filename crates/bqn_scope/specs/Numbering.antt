-- The names of bodies, and what is written of them.
use Rattle.std.specs.Prelude.{ℕ, not, ◌&&◌, if◌then◌else◌, List, [], map}
use Rattle.bqn_syntax.specs.scope.Mentions.{Mention, Named, Mentions}
use Rattle.bqn_syntax.specs.scope.Scope.{name_of, has, place_of}
use Rattle.bqn_syntax.specs.scope.Bodies as bodies
use Rattle.bqn_syntax.specs.scope.Bodies.{exports_it, at_slot, exports_of}
use Rattle.bqn_scope.specs.declared.body_names.BodyNames.{BodyNames}

abbrev pub exported_names : List (List ℕ × ℕ) → List (List ℕ)
exported_names found = map (λ e. e.0) found

-- the exports once one more mention has been seen
abbrev pub exporting : List (List ℕ) → List (List ℕ × ℕ) → Mention → List (List ℕ × ℕ)
exporting names found (Named how t) =
    if exports_it how && not (has (exported_names found) (name_of t)) then at_slot (name_of t) (place_of names (name_of t)) found
    else found
exporting names found m = found

abbrev pub body_shown : BodyNames → bodies.BodyNames
body_shown b = record { parent = b.parent; slots = b.slots; exports = b.exports }

abbrev pub bodies_shown : List BodyNames → List bodies.BodyNames
bodies_shown all = map body_shown all

-- a body with these names and mentions
abbrev pub body_with : ℕ → List (List ℕ) → Mentions → bodies.BodyNames
body_with parent names ms = record { parent = parent; slots = names; exports = exports_of names ms [] }
