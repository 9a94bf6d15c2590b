-- The body and the slot that each name refers to, or the first refusal of the text: BQN's page on scope. That an early use is
-- refused, and what a session's names do, is this project's own.
use Rattle.std.specs.Prelude.{ℕ, ◌+◌, nat_eq, Bool, true, false, not, ◌&&◌, if◌then◌else◌, List, [], ◌∷◌, ◌++◌, map, position, Option, Some, None, Result, Ok, Err}
use Rattle.std.specs.List.{list_any}
use Rattle.std.specs.Option.{option_map}
use Rattle.std.specs.Cmp.Lexicographic.{pointwise}
pub use Rattle.bqn_base.specs.Signs.{system_names}
use Rattle.bqn_base.specs.declared.place.Place.{Place}
use Rattle.bqn_base.specs.declared.refusal.Refusal.{Refusal}
use Rattle.bqn_base.specs.declared.refusal.Refusal.TheVariants as refusal
use Rattle.bqn_syntax.specs.declared.token.Kind.{Kind}
use Rattle.bqn_syntax.specs.declared.token.Kind.TheVariants as kind
use Rattle.bqn_syntax.specs.declared.token.Token.{Token}
use Rattle.bqn_syntax.specs.grammar.Trees.{Stmts}
use Rattle.bqn_syntax.specs.scope.Order.{How, Reads, Defines, Exports, Changes, Shows, order_of}
use Rattle.bqn_syntax.specs.scope.Mentions.{Mention, Named, Special, System, Inner, Mentions, no_mentions, and_mentions, Scopes, no_scopes, and_scopes, stmts_mentions}

abbrev pub spelling : Kind → List ℕ
spelling (kind.Word name r) = name
spelling (kind.System name r) = name
spelling _ = []

abbrev pub name_of : Token → List ℕ
name_of t = spelling t.kind

abbrev pub same_name : List ℕ → List ℕ → Bool
same_name a b = pointwise nat_eq a b

abbrev pub place_of : List (List ℕ) → List ℕ → Option ℕ
place_of names name = position (λ other. same_name other name) names

abbrev pub has : List (List ℕ) → List ℕ → Bool
has names name = list_any (λ other. same_name other name) names

abbrev pub same_place : Token → Token → Bool
same_place t u = nat_eq t.place.line u.place.line && nat_eq t.place.column u.place.column

-- What a body defines, and which of its uses come too early.

abbrev pub defines : How → Bool
defines Defines = true
defines Exports = true
defines _ = false

-- in text order the first token that defines each name, but for names that are there before
abbrev pub definitions : List (List ℕ) → Mentions → List Token
definitions before no_mentions = []
definitions before (and_mentions (Named how t) ms) =
    if defines how && not (has before (name_of t)) then t ∷ definitions (name_of t ∷ before) ms
    else definitions before ms
definitions before (and_mentions m ms) = definitions before ms

-- the definitions that are still to come once this token has stored
abbrev pub without : Token → List Token → List Token
without t [] = []
without t (d ∷ ds) = if same_place t d then ds else d ∷ without t ds

-- in the order of evaluation, the tokens that read or change a name whose definition is still to come
abbrev pub too_early : List Token → List (How × Token) → List Token
too_early waiting [] = []
too_early waiting (e ∷ es) =
    if defines e.0 then too_early (without e.1 waiting) es
    else (if has (map name_of waiting) (name_of e.1) then e.1 ∷ too_early waiting es else too_early waiting es)

-- A body: the names known before it, which come first; its definitions; the tokens that use them too early; whether it stands in
-- a block.
pub record Scope : Type 0 where
  pub known : List (List ℕ)
  pub defined : List Token
  pub early : List Token
  pub in_block : Bool

abbrev pub scope : List (List ℕ) → List Token → List (How × Token) → Bool → Scope
scope known defined order in_block = record { known = known; defined = defined; early = too_early defined order; in_block = in_block }

-- the body of a block
abbrev pub block_scope : Mentions → List (How × Token) → Scope
block_scope ms order = scope [] (definitions [] ms) order true

-- the top body of a source, or of a session's line after these names
abbrev pub top_scope : List (List ℕ) → Mentions → List (How × Token) → Scope
top_scope outer ms order = scope outer (definitions outer ms) order false

abbrev pub names_of : Scope → List (List ℕ)
names_of s = s.known ++ map name_of s.defined

-- What a name refers to: so many bodies outward, and the name's slot there.
pub record Seen : Type 0 where
  pub up : ℕ
  pub slot : ℕ

abbrev pub outward : Option Seen → Option Seen
outward found = option_map (λ s. record { up = s.up + 1; slot = s.slot }) found

abbrev pub or_outward : Option ℕ → Option Seen → Option Seen
or_outward (Some slot) found = Some (record { up = 0; slot = slot })
or_outward None found = outward found

-- the nearest enclosing body that has the name, from the inside
abbrev pub sees : List Scope → List ℕ → Option Seen
sees [] name = None
sees (s ∷ around) name = or_outward (place_of (names_of s) name) (sees around name)

-- The uses in text order.

-- a token and what it refers to
pub record Use : Type 0 where
  pub seen : Seen
  pub place : Place

abbrev pub used : Token → Option Seen → List Use → Result (List Use) Refusal
used t None uses = Err (refusal.Undeclared t.place)
used t (Some seen) uses = Ok (uses ++ record { seen = seen; place = t.place } ∷ [])

abbrev pub read : Bool → Token → Option Seen → List Use → Result (List Use) Refusal
read true t seen uses = Err (refusal.Early t.place)
read false t seen uses = used t seen uses

abbrev pub define : Bool → Token → Option Seen → List Use → Result (List Use) Refusal
define true t seen uses = Err (refusal.Redefined t.place)
define false t seen uses = used t seen uses

-- whether this is met, or else the refusal
abbrev pub unless : Bool → Refusal → List Use → Result (List Use) Refusal
unless true r uses = Ok uses
unless false r uses = Err r

-- whether the body has defined the name by an earlier token
abbrev pub is_again : List Token → Token → Bool
is_again [] t = false
is_again (d ∷ ds) t = if same_name (name_of d) (name_of t) then not (same_place t d) else is_again ds t

-- a name in the innermost of these bodies
abbrev pub named : List Scope → How → Token → List Use → Result (List Use) Refusal
named [] how t uses = used t None uses
named (s ∷ around) Reads t uses = read (list_any (same_place t) s.early) t (sees (s ∷ around) (name_of t)) uses
named (s ∷ around) Changes t uses = read (list_any (same_place t) s.early) t (sees (s ∷ around) (name_of t)) uses
named (s ∷ around) Defines t uses = define (is_again s.defined t) t (sees (s ∷ around) (name_of t)) uses
named (s ∷ around) Exports t uses = define (is_again s.defined t) t (sees (s ∷ around) (name_of t)) uses
named (s ∷ around) Shows t uses = unless (has (names_of s) (name_of t)) (refusal.Undeclared t.place) uses

abbrev pub stands_in_block : List Scope → Bool
stands_in_block [] = false
stands_in_block (s ∷ around) = s.in_block

abbrev pub and_on : Result (List Use) Refusal → (List Use → Result (List Use) Refusal) → Result (List Use) Refusal
and_on (Ok uses) next = next uses
and_on (Err r) next = Err r

-- the uses after others, or the refusal of the first token that has one
abbrev mutual
  pub uses_of : List Scope → Mentions → List Use → Result (List Use) Refusal
  uses_of scopes no_mentions uses = Ok uses
  uses_of scopes (and_mentions m ms) uses = and_on (uses_at scopes m uses) (uses_of scopes ms)

  pub uses_at : List Scope → Mention → List Use → Result (List Use) Refusal
  uses_at scopes (Named how t) uses = named scopes how t uses
  uses_at scopes (Special t) uses = unless (stands_in_block scopes) (refusal.Undeclared t.place) uses
  uses_at scopes (System t) uses = unless (has system_names (name_of t)) (refusal.UnknownSystem t.place) uses
  uses_at scopes (Inner bodies) uses = uses_inside scopes bodies uses

  pub uses_inside : List Scope → Scopes → List Use → Result (List Use) Refusal
  uses_inside scopes no_scopes uses = Ok uses
  uses_inside scopes (and_scopes ms order bodies) uses = and_on (uses_of (block_scope ms order ∷ scopes) ms uses) (uses_inside scopes bodies)

-- the uses of a tree after the names of a session, or its refusal
abbrev pub resolved : List (List ℕ) → Stmts → Result (List Use) Refusal
resolved outer ss = uses_of (top_scope outer (stmts_mentions ss no_mentions) (order_of None ss) ∷ []) (stmts_mentions ss no_mentions) []
