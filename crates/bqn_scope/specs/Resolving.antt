-- What resolving a tree gives.
use Rattle.std.specs.Prelude.{◌≡◌, List, Result, Ok, Err, Vec}
use Rattle.bqn_base.specs.declared.refusal.Refusal.{Refusal}
use Rattle.bqn_syntax.specs.declared.tree.Tree.{Tree}
use Rattle.bqn_syntax.specs.scope.Scope as scope
use Rattle.bqn_syntax.specs.scope.Bodies.{Resolution}
use Rattle.bqn_scope.specs.declared.body_names.BodyNames.{BodyNames}
use Rattle.bqn_scope.specs.declared.error.ScopeError.{ScopeError}
use Rattle.bqn_scope.specs.declared.error.ScopeError.TheVariants.{Refused, Memory}
use Rattle.bqn_scope.specs.declared.resolving.Resolved.{Resolved}
use Rattle.bqn_scope.specs.declared.used.Use.{Use}
use Rattle.bqn_scope.specs.Numbering.{bodies_shown}
use Rattle.bqn_scope.specs.Scopes.{uses_shown}

abbrev pub resolution_of : List BodyNames → List Use → Resolution
resolution_of bodies uses = record { bodies = bodies_shown bodies; uses = uses_shown uses }

-- these uses are given, or this refusal; out of memory says nothing
abbrev pub GivesUses : {A : Type 0} → Result (List scope.Use) Refusal → Result (Vec Use A) ScopeError → Type 0
GivesUses answer (Ok uses) = answer ≡ Ok (uses_shown uses.items)
GivesUses answer (Err (Refused r)) = answer ≡ Err r
GivesUses answer (Err Memory) = Unit {0}

-- these bodies and uses are given, or this refusal; out of memory says nothing
abbrev pub GivesParts : {A B : Type 0} → Result Resolution Refusal → Result (Vec BodyNames A × Vec Use B) ScopeError → Type 0
GivesParts answer (Ok parts) = answer ≡ Ok (resolution_of parts.0.items parts.1.items)
GivesParts answer (Err (Refused r)) = answer ≡ Err r
GivesParts answer (Err Memory) = Unit {0}

-- the same tree is given with these bodies and uses, or this refusal; out of memory says nothing
abbrev pub Resolves : Result Resolution Refusal → Tree → Result Resolved ScopeError → Type 0
Resolves answer tree (Ok so) = (so.tree ≡ tree) × (answer ≡ Ok (resolution_of so.bodies so.uses))
Resolves answer tree (Err (Refused r)) = answer ≡ Err r
Resolves answer tree (Err Memory) = Unit {0}
