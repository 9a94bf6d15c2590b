-- Scope, computed: the uses of a source, or its refusal.
use Rattle.std.proofs.Common.{◌≡◌, ℕ, List, [], ◌∷◌, Result, Ok, Err, refl}
use lib.Chars.{codes}
use Rattle.bqn_base.specs.declared.place.Place.{Place}
use Rattle.bqn_base.specs.declared.refusal.Refusal.{Refusal}
use Rattle.bqn_base.specs.declared.refusal.Refusal.TheVariants.{Undeclared, Redefined, Early, UnknownSystem}
use Rattle.bqn_syntax.specs.text.Tokens.{tokens_of_text}
use Rattle.bqn_syntax.specs.grammar.Trees.{Stmts}
use Rattle.bqn_syntax.specs.grammar.Parsing.{parsed}
use Rattle.bqn_syntax.specs.scope.Scope.{Use, resolved}
use Rattle.bqn_syntax.specs.scope.Bodies.{BodyNames, bodies_of}

abbrev at : ℕ → ℕ → Place
at line column = record { line = line; column = column }

abbrev tree_of_text : List ℕ → Result Stmts Refusal
tree_of_text text = elim (tokens_of_text text) [ Ok tokens ↦ parsed tokens | Err r ↦ Err r ]

abbrev uses_of_text : List (List ℕ) → List ℕ → Result (List Use) Refusal
uses_of_text outer text = elim (tree_of_text text) [ Ok tree ↦ resolved outer tree | Err r ↦ Err r ]

pub data Outcome : Type 0 where
  fine : Outcome
  refused : Refusal → Outcome

abbrev outcome : Result (List Use) Refusal → Outcome
outcome (Ok uses) = fine
outcome (Err r) = refused r

abbrev outcomes : List (List ℕ) → List Outcome
outcomes [] = []
outcomes (text ∷ texts) = outcome (uses_of_text [] text) ∷ outcomes texts

accepted : outcomes (codes "" ∷ codes "a⇐⋄a←1" ∷ codes "b←a+a←1" ∷ codes "a +↩ a←1" ∷ codes "a←1⋄{a}" ∷ codes "{𝕩+𝕨}" ∷ codes "F←{𝕊 n: n×F n-1}" ∷ codes "•Show 1⋄•OUT \"a\"" ∷ codes "a←{b⇐1}⋄a.b" ∷ codes "{a}⋄a←1" ∷ codes "⟨a,b⟩←1‿2⋄a+b" ∷ codes "{⟨x,y⟩ 𝕊 z: x+y+z}" ∷ []) ≡ fine ∷ fine ∷ fine ∷ fine ∷ fine ∷ fine ∷ fine ∷ fine ∷ fine ∷ fine ∷ fine ∷ fine ∷ []
accepted = refl

refusals : outcomes (codes "•Show a⋄a←1" ∷ codes "•Foo 1" ∷ codes "a←1⋄a←2" ∷ codes "𝕩" ∷ codes "a←1⋄{a←a}" ∷ codes "{F _f x: 1}" ∷ codes "⟨a⟩⇐" ∷ codes "(a←1)+a" ∷ codes "a←1⋄{a⇐}" ∷ codes "a" ∷ codes "{b←1}⋄b" ∷ codes "a↩1⋄a←2" ∷ codes "a←a_←1" ∷ codes "A←{𝕩}⋄a←1" ∷ codes "{𝕊 x: x←1}" ∷ []) ≡
    refused (Early (at 1 7)) ∷ refused (UnknownSystem (at 1 1)) ∷ refused (Redefined (at 1 5)) ∷ refused (Undeclared (at 1 1)) ∷ refused (Early (at 1 8)) ∷ refused (Redefined (at 1 4)) ∷ refused (Undeclared (at 1 2)) ∷ refused (Early (at 1 7)) ∷ refused (Undeclared (at 1 6)) ∷ refused (Undeclared (at 1 1)) ∷ refused (Undeclared (at 1 7)) ∷ refused (Early (at 1 1)) ∷ refused (Redefined (at 1 3)) ∷ refused (Redefined (at 1 7)) ∷ refused (Redefined (at 1 7)) ∷ []
refusals = refl

-- names known from earlier lines are stored into, and are never early
session : outcome (uses_of_text (codes "a" ∷ []) (codes "b←a⋄a←2⋄a⇐3")) ∷ outcome (uses_of_text (codes "a" ∷ []) (codes "a⇐")) ∷ outcome (uses_of_text (codes "a" ∷ []) (codes "b⋄b←a")) ∷ [] ≡ fine ∷ fine ∷ refused (Early (at 1 1)) ∷ []
session = refl

abbrev slot_at : ℕ → ℕ → ℕ → ℕ → Use
slot_at up slot line column = record { seen = record { up = up; slot = slot }; place = at line column }

-- slots by the first defining token, known names first; uses in text order
slots : uses_of_text (codes "k" ∷ []) (codes "a←k⋄b←{c←a⋄c+b}⋄b") ≡ Ok (slot_at 0 1 1 1 ∷ slot_at 0 0 1 3 ∷ slot_at 0 2 1 5 ∷ slot_at 0 0 1 8 ∷ slot_at 1 1 1 10 ∷ slot_at 0 0 1 12 ∷ slot_at 1 2 1 14 ∷ slot_at 0 2 1 17 ∷ [])
slots = refl

abbrev bodies_of_text : List (List ℕ) → List ℕ → Result (List BodyNames) Refusal
bodies_of_text outer text = elim (tree_of_text text) [ Ok tree ↦ Ok (bodies_of outer tree) | Err r ↦ Err r ]

abbrev row : ℕ → List (List ℕ) → List (List ℕ × ℕ) → BodyNames
row parent slots exports = record { parent = parent; slots = slots; exports = exports }

-- the bodies of a block have numbers in a row, and those of the blocks in them come behind
numbers : bodies_of_text (codes "k" ∷ []) (codes "F←{x 𝕊 y: {z←1⋄{w←2}}; 𝕊 v: {u⇐3}}⋄{b⇐⋄b←k⋄c⇐b⋄b⇐}") ≡
    Ok (row 1 (codes "k" ∷ codes "f" ∷ []) [] ∷ row 0 (codes "x" ∷ codes "y" ∷ []) [] ∷ row 0 (codes "v" ∷ []) [] ∷ row 1 (codes "z" ∷ []) [] ∷ row 3 (codes "w" ∷ []) [] ∷ row 2 (codes "u" ∷ []) ((codes "u", 0) ∷ []) ∷ row 0 (codes "b" ∷ codes "c" ∷ []) ((codes "b", 0) ∷ (codes "c", 1) ∷ []) ∷ [])
numbers = refl

-- a definition that is evaluated before the first one of its name does not count
again : outcomes (codes "(a←1)+(a+a←2)" ∷ codes "a←1⋄b←a⋄a←2" ∷ codes "a←b←a←1" ∷ codes "⟨a,a⟩←1‿2" ∷ codes "{𝕩⋄a←𝕩⋄{b←a⋄a←b⋄a}}" ∷ codes "F←{𝕨F𝕩}" ∷ codes "a F↩1⋄a←2⋄F←+" ∷ codes "B←-⋄a←1⋄a B↩" ∷ codes "B←-⋄a B↩⋄a←1" ∷ []) ≡
    refused (Early (at 1 8)) ∷ refused (Redefined (at 1 9)) ∷ refused (Redefined (at 1 5)) ∷ refused (Redefined (at 1 4)) ∷ refused (Early (at 1 11)) ∷ fine ∷ refused (Early (at 1 1)) ∷ fine ∷ refused (Early (at 1 5)) ∷ []
again = refl
