-- The innermost binding of each name in the bodies around: the level of a body, which is 0 for the top body, and the slot there.
use Rattle.std.specs.Prelude.{ℕ, ◌+◌, ◌-◌, if◌then◌else◌, List, [], ◌∷◌, length, map, reverse, Option, Some, None}
use Rattle.std.specs.Option.{option_map}
use denote.Ref.{Bor}
use Rattle.bqn_syntax.specs.scope.Scope.{Scope, Seen, names_of, same_name}
use Rattle.bqn_scope.specs.declared.bindings.Bindings.{Bindings}
use Rattle.bqn_scope.specs.declared.bindings.Hidden.{Hidden}

abbrev pub Binding : Type 0
Binding = Option (ℕ × ℕ)

abbrev pub none_bound : List ℕ → Binding
none_bound name = None

abbrev pub bound_in : List (Bor (List ℕ) × Binding) → List ℕ → Binding
bound_in [] name = None
bound_in (e ∷ es) name = if same_name name e.0.now then e.1 else bound_in es name

abbrev pub bindings_shown : Bindings → List ℕ → Binding
bindings_shown all = bound_in all.innermost.entries

-- the bindings once a name has this one
abbrev pub bound_to : List ℕ → Binding → (List ℕ → Binding) → List ℕ → Binding
bound_to name binding outside other = if same_name name other then binding else outside other

-- the bindings inside a body of this level that has these names in the slots from this one on
abbrev pub bound_by : ℕ → ℕ → List (List ℕ) → (List ℕ → Binding) → List ℕ → Binding
bound_by level slot [] outside = outside
bound_by level slot (name ∷ names) outside = bound_to name (Some (level, slot)) (bound_by level (slot + 1) names outside)

-- what each of these names hides, where the last one is bound first
abbrev pub hidden_by : ℕ → ℕ → List (List ℕ) → (List ℕ → Binding) → List (List ℕ × Binding)
hidden_by level slot [] outside = []
hidden_by level slot (name ∷ names) outside = (name, bound_by level (slot + 1) names outside name) ∷ hidden_by level (slot + 1) names outside

-- the bindings once these names, one after another, have theirs back
abbrev pub unbound : List (List ℕ × Binding) → (List ℕ → Binding) → List ℕ → Binding
unbound [] inside = inside
unbound (h ∷ hs) inside = unbound hs (bound_to h.0 h.1 inside)

-- the last one first
abbrev pub hidden_shown : List Hidden → List (List ℕ × Binding)
hidden_shown all = map (λ h. (h.name.now, h.outside)) (reverse all)

-- the bindings in these bodies, the innermost one first
abbrev pub innermost : List Scope → List ℕ → Binding
innermost [] = none_bound
innermost (s ∷ around) = bound_by (length around) 0 (names_of s) (innermost around)

-- what a name refers to that is used in the last of so many bodies
abbrev pub seen_from : ℕ → Binding → Option Seen
seen_from depth binding = option_map (λ b. record { up = depth - 1 - b.0; slot = b.1 }) binding
