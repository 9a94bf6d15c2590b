-- The bodies of a program by number, each with its names: block by block in the text order of their opening braces, the program's
-- own body first.
use Rattle.std.specs.Prelude.{ℕ, ◌+◌, Bool, true, false, if◌then◌else◌, List, [], ◌∷◌, ◌++◌, length, map, Option, Some, None, Result, Ok, Err}
use Rattle.bqn_base.specs.declared.refusal.Refusal.{Refusal}
use Rattle.bqn_syntax.specs.grammar.Trees.{Stmts}
use Rattle.bqn_syntax.specs.scope.Order.{How, Exports, Shows, order_of}
use Rattle.bqn_syntax.specs.scope.Mentions.{Mention, Named, Inner, Mentions, no_mentions, and_mentions, Scopes, no_scopes, and_scopes, stmts_mentions}
use Rattle.bqn_syntax.specs.scope.Scope.{Scope, block_scope, top_scope, names_of, name_of, has, place_of, Use, resolved}

-- the number of the body around, or of the session's names; the names by their slots; the exported ones with their slots
pub record BodyNames : Type 0 where
  pub parent : ℕ
  pub slots : List (List ℕ)
  pub exports : List (List ℕ × ℕ)

abbrev pub exports_it : How → Bool
exports_it Exports = true
exports_it Shows = true
exports_it _ = false

abbrev pub at_slot : List ℕ → Option ℕ → List (List ℕ × ℕ) → List (List ℕ × ℕ)
at_slot name None found = found
at_slot name (Some slot) found = found ++ (name, slot) ∷ []

-- the exports after others, in the text order of the first token that exports each name
abbrev pub exports_of : List (List ℕ) → Mentions → List (List ℕ × ℕ) → List (List ℕ × ℕ)
exports_of names no_mentions found = found
exports_of names (and_mentions (Named how t) ms) found =
    if exports_it how then (if has (map (λ e. e.0) found) (name_of t) then exports_of names ms found
    else exports_of names ms (at_slot (name_of t) (place_of names (name_of t)) found))
    else exports_of names ms found
exports_of names (and_mentions m ms) found = exports_of names ms found

abbrev pub body_names : ℕ → Scope → Mentions → BodyNames
body_names parent s ms = record { parent = parent; slots = names_of s; exports = exports_of (names_of s) ms [] }

-- the bodies of one block
abbrev pub of_block : ℕ → Scopes → List BodyNames
of_block parent no_scopes = []
of_block parent (and_scopes ms order bodies) = body_names parent (block_scope ms order) ms ∷ of_block parent bodies

-- after others, the bodies of the blocks in a body, which has this number, and of the blocks in the bodies of a block, the first
-- of which has this number
abbrev mutual
  pub inside : ℕ → Mentions → List BodyNames → List BodyNames
  inside number no_mentions found = found
  inside number (and_mentions m ms) found = inside number ms (inside_mention number m found)

  pub inside_mention : ℕ → Mention → List BodyNames → List BodyNames
  inside_mention number (Inner bodies) found = inside_block (length found) bodies (found ++ of_block number bodies)
  inside_mention number m found = found

  pub inside_block : ℕ → Scopes → List BodyNames → List BodyNames
  inside_block number no_scopes found = found
  inside_block number (and_scopes ms order bodies) found = inside_block (number + 1) bodies (inside number ms found)

abbrev pub bodies_of : List (List ℕ) → Stmts → List BodyNames
bodies_of outer ss =
    inside 0 (stmts_mentions ss no_mentions) (body_names (length outer) (top_scope outer (stmts_mentions ss no_mentions) (order_of None ss))
    (stmts_mentions ss no_mentions) ∷ [])

-- what resolving a tree after the names of a session gives
pub record Resolution : Type 0 where
  pub bodies : List BodyNames
  pub uses : List Use

abbrev pub with_bodies : List BodyNames → Result (List Use) Refusal → Result Resolution Refusal
with_bodies bodies (Ok uses) = Ok (record { bodies = bodies; uses = uses })
with_bodies bodies (Err r) = Err r

abbrev pub resolution : List (List ℕ) → Stmts → Result Resolution Refusal
resolution outer ss = with_bodies (bodies_of outer ss) (resolved outer ss)
