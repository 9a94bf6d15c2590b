-- What the scopes of enclosing bodies stand for, and the uses that are written.
use Rattle.std.specs.Prelude.{◌≡◌, ℕ, Bool, true, false, List, [], ◌∷◌, map, reverse, Result, Ok, Err}
use Rattle.bqn_base.specs.declared.refusal.Refusal.{Refusal}
use Rattle.bqn_syntax.specs.scope.Scope.{Scope, Seen, Use, uses_of, block_scope}
use Rattle.bqn_scope.specs.declared.error.ScopeError.{ScopeError}
use Rattle.bqn_scope.specs.declared.error.ScopeError.TheVariants.{Refused, Memory}
use Rattle.bqn_scope.specs.declared.scope.Scope.{Scope as CodeScope}
use Rattle.bqn_scope.specs.declared.used.Use.{Use as CodeUse}
use Rattle.bqn_scope.specs.Shown.{Own}
use Rattle.bqn_scope.specs.Tokens.{tokens_shown}

-- the names that are known before a body: those of the session, unless it stands in a block
abbrev pub known_in : List (List ℕ) → Bool → List (List ℕ)
known_in outer true = []
known_in outer false = outer

abbrev pub scope_shown : List (List ℕ) → CodeScope → Scope
scope_shown outer s = record {
  known = known_in outer s.in_block;
  defined = tokens_shown s.defined.places.tokens.items;
  early = tokens_shown s.early.tokens.items;
  in_block = s.in_block;
}

-- the innermost one first
abbrev pub scopes_around : List (List ℕ) → List CodeScope → List Scope
scopes_around outer all = map (scope_shown outer) (reverse all)

abbrev pub seen_of : ℕ × ℕ → Seen
seen_of found = record { up = found.0; slot = found.1 }

abbrev pub use_shown : CodeUse → Use
use_shown u = record { seen = record { up = u.up; slot = u.slot }; place = u.place }

abbrev pub uses_shown : List CodeUse → List Use
uses_shown uses = map use_shown uses

-- the uses that are written are these, or the refusal is; out of memory says nothing
abbrev pub Writes : {T : Type 0} → Result (List Use) Refusal → List CodeUse → Result T ScopeError → Type 0
Writes answer new (Ok _) = answer ≡ Ok (uses_shown new)
Writes answer new (Err (Refused r)) = answer ≡ Err r
Writes answer new (Err Memory) = Unit {0}

-- this is met, or else the refusal is that
abbrev pub Passes : {T : Type 0} → Bool → Refusal → Result T ScopeError → Type 0
Passes met r (Ok _) = met ≡ true
Passes met r (Err (Refused other)) = (met ≡ false) × (other ≡ r)
Passes met r (Err Memory) = Unit {0}

-- the uses of a body of a block
abbrev pub uses_of_own : List Scope → Own → List Use → Result (List Use) Refusal
uses_of_own around own uses = uses_of (block_scope own.mentions own.order ∷ around) own.mentions uses
