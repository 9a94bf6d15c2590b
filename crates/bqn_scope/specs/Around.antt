-- The bodies around, and their bindings.
use Rattle.std.specs.Prelude.{◌≡◌, ℕ, Bool, false, List, [], ◌∷◌}
use Rattle.bqn_syntax.specs.scope.Scope.{Scope, has, names_of}
use Rattle.bqn_scope.specs.declared.around.Around.{Around}
use Rattle.bqn_scope.specs.Bindings.{bindings_shown, innermost}
use Rattle.bqn_scope.specs.Scopes.{scopes_around}

-- the innermost one first
abbrev pub bodies_around : Around → List Scope
bodies_around around = scopes_around around.outer.now around.scopes.items

-- the bindings are those of the bodies around
abbrev pub IsBound : Around → Type 0
IsBound around = bindings_shown around.bindings ≡ innermost (bodies_around around)

-- the last body has a name
abbrev pub has_last : List Scope → List ℕ → Bool
has_last [] name = false
has_last (s ∷ around) name = has (names_of s) name
