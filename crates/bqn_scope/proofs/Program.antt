-- The bodies and uses of a program, from its mentions and its order.
use Rattle.std.proofs.Common.{◌≡◌, List, [], ◌∷◌, length, None, Result, Ok, ℕ, sym, ap, ◌∙◌, Vec}
use Rattle.bqn_base.specs.declared.refusal.Refusal.{Refusal}
use Rattle.bqn_syntax.specs.declared.token.Token.{Token}
use Rattle.bqn_syntax.specs.grammar.Trees.{Stmts}
use Rattle.bqn_syntax.specs.scope.Order.{How, order_of}
use Rattle.bqn_syntax.specs.scope.Mentions.{Mentions, no_mentions, stmts_mentions}
use Rattle.bqn_syntax.specs.scope.Scope.{top_scope, uses_of}
use Rattle.bqn_syntax.specs.scope.Bodies.{Resolution, BodyNames, body_names, inside, with_bodies, resolution}
use Rattle.bqn_scope.specs.declared.body_names.BodyNames.{BodyNames as CodeBodyNames}
use Rattle.bqn_scope.specs.declared.used.Use.{Use as CodeUse}
use Rattle.bqn_scope.specs.Numbering.{bodies_shown}
use Rattle.bqn_scope.specs.Scopes.{uses_shown}
use Rattle.bqn_scope.specs.Resolving.{resolution_of}

-- what these mentions and this order give
resolution-from : List (List ℕ) → Mentions → List (How × Token) → Result Resolution Refusal
resolution-from outer ms order = with_bodies (inside 0 ms (body_names (length outer) (top_scope outer ms order) ms ∷ [])) (uses_of (top_scope outer ms order ∷ []) ms [])

same-from : (outer : List (List ℕ)) (ss : Stmts) (ms : Mentions) (order : List (How × Token)) → ms ≡ stmts_mentions ss no_mentions → order ≡ order_of None ss → resolution outer ss ≡ resolution-from outer ms order
unfolding resolution-from
same-from outer ss ms order m o = ap (λ (x : Mentions). resolution-from outer x (order_of None ss)) (sym m) ∙ ap (λ (x : List (How × Token)). resolution-from outer ms x) (sym o)

pub parts-given : {A B : Type 0} (outer : List (List ℕ)) (ss : Stmts) (ms : Mentions) (order : List (How × Token)) (bodies : Vec CodeBodyNames A) (uses : Vec CodeUse B) → ms ≡ stmts_mentions ss no_mentions → order ≡ order_of None ss → uses_of (top_scope outer ms order ∷ []) ms [] ≡ Ok (uses_shown uses.items) → bodies_shown bodies.items ≡ inside 0 ms (body_names (length outer) (top_scope outer ms []) ms ∷ []) → resolution outer ss ≡ Ok (resolution_of bodies.items uses.items)
unfolding resolution-from
parts-given outer ss ms order bodies uses m o u b =
    same-from outer ss ms order m o
    ∙ ap (with_bodies (inside 0 ms (body_names (length outer) (top_scope outer ms order) ms ∷ []))) u
    ∙ ap (λ (found : List BodyNames). with_bodies found (Ok (uses_shown uses.items))) (sym b)

pub ruleset program_laws = (parts-given)
