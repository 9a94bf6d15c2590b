-- Trees and refusals with their places, computed.
use Rattle.std.proofs.Common.{◌≡◌, ℕ, zero, suc, List, [], ◌∷◌, ◌++◌, Result, Ok, Err, refl}
use lib.Chars.{codes}
use Rattle.bqn_base.specs.declared.place.Place.{Place}
use Rattle.bqn_base.specs.declared.refusal.Refusal.{Refusal}
use Rattle.bqn_base.specs.declared.refusal.Refusal.TheVariants.{Bracket, TooNested, Grammar, BadBlock}
use Rattle.bqn_syntax.specs.text.Tokens.{tokens_of_text}
use Rattle.bqn_syntax.specs.grammar.Trees.{Stmts}
use Rattle.bqn_syntax.specs.grammar.Parsing.{parsed}

abbrev at : ℕ → ℕ → Place
at line column = record { line = line; column = column }

abbrev tree_of_text : List ℕ → Result Stmts Refusal
tree_of_text text = elim (tokens_of_text text) [ Ok tokens ↦ parsed tokens | Err r ↦ Err r ]

-- no refusal, or this one
pub data Outcome : Type 0 where
  well : Outcome
  refused : Refusal → Outcome

abbrev outcome : Result Stmts Refusal → Outcome
outcome (Ok tree) = well
outcome (Err r) = refused r

abbrev outcomes : List (List ℕ) → List Outcome
outcomes [] = []
outcomes (text ∷ texts) = outcome (tree_of_text text) ∷ outcomes texts

well_0 : outcomes (codes "" ∷ codes "⋄,\n" ∷ codes "1+2" ∷ codes "a←1" ∷ codes "F ← {𝕩+1}" ∷ codes "a‿b←1‿2" ∷ codes "⟨a,·,b‿c⟩ ← ⟨1,2,\"xy\"⟩" ∷ codes "⟨⟩" ∷ codes "[1,⋄]" ∷ codes "⟨+·⟩" ∷ codes "(+·)" ∷ codes "{+·?1}" ∷ []) ≡ well ∷ well ∷ well ∷ well ∷ well ∷ well ∷ well ∷ well ∷ well ∷ well ∷ well ∷ well ∷ []
well_0 = refl

well_1 : outcomes (codes "F←G↩+" ∷ codes "_m←_n" ∷ codes "_m_←∘" ∷ codes "a F↩ 1" ∷ codes "a F↩" ∷ codes "1+a -↩ 2" ∷ codes "a⇐" ∷ codes "·⇐" ∷ codes "⟨·⟩⇐" ∷ codes "F⇐" ∷ codes "_m⇐" ∷ codes "a.b.C 1" ∷ []) ≡ well ∷ well ∷ well ∷ well ∷ well ∷ well ∷ well ∷ well ∷ well ∷ well ∷ well ∷ well ∷ []
well_1 = refl

well_2 : outcomes (codes "1‿+‿(2)" ∷ codes "+∘×⊸-" ∷ codes "1 + · -  ×" ∷ codes "⟨1⟩.a" ∷ codes "(a‿b).c" ∷ codes "˜" ∷ codes "(˜)" ∷ codes "{𝕊 0: 1; 𝕊 n: n×𝕊 n-1}" ∷ codes "{𝕩<0? ¯1; 𝕩=0? 0; 1}" ∷ codes "{𝕨 F 𝕩: 1}" ∷ codes "{𝔽 _𝕣 𝕩: 𝔽}" ∷ codes "{F _m_ g 1‿x: 1}" ∷ []) ≡ well ∷ well ∷ well ∷ well ∷ well ∷ well ∷ well ∷ well ∷ well ∷ well ∷ well ∷ well ∷ []
well_2 = refl

well_3 : outcomes (codes "{a 𝕊 ⟨1,⟨b,·⟩⟩: a}" ∷ codes "{𝕩;𝕨}" ∷ codes "{𝕩𝔽𝕨;2}" ∷ codes "{𝔽 𝕩;𝕨}" ∷ codes "{\n1\n}" ∷ codes "F G H" ∷ codes "1 F G" ∷ codes "F 1 G H" ∷ codes "1 F · G H" ∷ codes "F G 1" ∷ codes "· F G" ∷ codes "1 F G H I" ∷ []) ≡ well ∷ well ∷ well ∷ well ∷ well ∷ well ∷ well ∷ well ∷ well ∷ well ∷ well ∷ well ∷ []
well_3 = refl

well_4 : outcomes (codes "a+⊸[1]↩2" ∷ codes "a.b.c.d" ∷ codes "a‿b.c" ∷ codes "{_𝕣}" ∷ codes "{_𝕣_}" ∷ codes "{𝕣}" ∷ codes "{F:1}" ∷ codes "{\"a\"𝕊·: 1}" ∷ codes "{a F _m x: 1}" ∷ codes "{⟨F⟩𝕊 F‿·: 1}" ∷ codes "{⟨1‿⟨a⟩⟩𝕊x: 1}" ∷ []) ≡ well ∷ well ∷ well ∷ well ∷ well ∷ well ∷ well ∷ well ∷ well ∷ well ∷ well ∷ []
well_4 = refl

refused_0 : outcomes (codes "f ← {𝕩+1}" ∷ codes "{1;2}" ∷ codes "{𝕩;𝕩;𝕩}" ∷ codes "{1;𝕊x:2}" ∷ codes "{⇐}" ∷ codes "F G 1 H" ∷ codes "1 G F H 2 F" ∷ codes "a b" ∷ codes "1)" ∷ codes "(1" ∷ codes "1;2" ∷ codes "{}" ∷ []) ≡ refused (Grammar (at 1 1)) ∷ refused (BadBlock (at 1 1)) ∷ refused (BadBlock (at 1 1)) ∷ refused (BadBlock (at 1 1)) ∷ refused (Grammar (at 1 2)) ∷ refused (Grammar (at 1 1)) ∷ refused (Grammar (at 1 1)) ∷ refused (Grammar (at 1 1)) ∷ refused (Bracket (at 1 2)) ∷ refused (Bracket (at 1 1)) ∷ refused (Grammar (at 1 1)) ∷ refused (BadBlock (at 1 1)) ∷ []
refused_0 = refl

refused_1 : outcomes (codes "(1⋄2)" ∷ codes "{𝕊 1 2: 3}" ∷ codes "⟨1⟩‿(b)←2" ∷ codes "⟨1⟩.a←2" ∷ codes "⟨1⟩‿a.b←2" ∷ codes "⟨1⟩‿+‿a←2" ∷ codes "[1]←2" ∷ codes "{𝕊[⟨+⟩]:1}" ∷ codes "{𝕊⟨1⟩←2:1}" ∷ codes "{𝕊⟨1+2⟩:1}" ∷ codes "{:1}" ∷ codes "{1⋄:1}" ∷ []) ≡ refused (Grammar (at 1 2)) ∷ refused (BadBlock (at 1 2)) ∷ refused (Grammar (at 1 2)) ∷ refused (Grammar (at 1 1)) ∷ refused (Grammar (at 1 1)) ∷ refused (Grammar (at 1 2)) ∷ refused (Grammar (at 1 1)) ∷ refused (BadBlock (at 1 2)) ∷ refused (Grammar (at 1 4)) ∷ refused (Grammar (at 1 4)) ∷ refused (Grammar (at 1 2)) ∷ refused (Grammar (at 1 4)) ∷ []
refused_1 = refl

refused_2 : outcomes (codes "{𝕊: :1}" ∷ codes "{?1}" ∷ codes "{𝕊:𝕩:1}" ∷ codes "{𝕊\nx: 1}" ∷ codes "{1?}" ∷ codes "{;1}" ∷ codes "{𝕊x:}" ∷ codes "⟨·⟩" ∷ codes "(·)" ∷ codes "·" ∷ codes "·˜1" ∷ codes "·.a" ∷ []) ≡ refused (Grammar (at 1 5)) ∷ refused (Grammar (at 1 2)) ∷ refused (Grammar (at 1 4)) ∷ refused (Grammar (at 2 1)) ∷ refused (BadBlock (at 1 1)) ∷ refused (BadBlock (at 1 1)) ∷ refused (BadBlock (at 1 1)) ∷ refused (Grammar (at 1 2)) ∷ refused (Grammar (at 1 2)) ∷ refused (Grammar (at 1 1)) ∷ refused (Grammar (at 1 1)) ∷ refused (Grammar (at 1 1)) ∷ []
refused_2 = refl

refused_3 : outcomes (codes "{+?1}" ∷ codes "⟨a⇐⟩" ∷ codes "{𝕊x:𝔽x}" ∷ codes "{𝕘 _m: 1}" ∷ codes "{𝕗 _m_ 𝕗: 1}" ∷ codes "[⋄]" ∷ codes "(⋄)" ∷ codes "()" ∷ codes "[]" ∷ codes "a b F↩ x" ∷ codes "⟨a⟩ F↩ x" ∷ codes "F↩ 5" ∷ []) ≡ refused (Grammar (at 1 2)) ∷ refused (Grammar (at 1 2)) ∷ refused (BadBlock (at 1 1)) ∷ refused (BadBlock (at 1 2)) ∷ refused (BadBlock (at 1 2)) ∷ refused (Grammar (at 1 3)) ∷ refused (Grammar (at 1 2)) ∷ refused (Grammar (at 1 2)) ∷ refused (Grammar (at 1 2)) ∷ refused (Grammar (at 1 1)) ∷ refused (Grammar (at 1 1)) ∷ refused (Grammar (at 1 1)) ∷ []
refused_3 = refl

refused_4 : outcomes (codes "𝕩↩1" ∷ codes "a.b←1" ∷ codes "·←2" ∷ codes "·↩2" ∷ codes "·⇐2" ∷ codes "a←·" ∷ codes "a+⊸⟨1⟩↩2" ∷ codes "a+⊸b‿c↩2" ∷ codes "1‿·" ∷ codes "A.b" ∷ codes "a." ∷ codes "a‿" ∷ []) ≡ refused (Grammar (at 1 1)) ∷ refused (Grammar (at 1 1)) ∷ refused (Grammar (at 1 1)) ∷ refused (Grammar (at 1 1)) ∷ refused (Grammar (at 1 1)) ∷ refused (Grammar (at 1 1)) ∷ refused (Grammar (at 1 5)) ∷ refused (Grammar (at 1 1)) ∷ refused (Grammar (at 1 1)) ∷ refused (Grammar (at 1 1)) ∷ refused (Grammar (at 1 1)) ∷ refused (Grammar (at 1 1)) ∷ []
refused_4 = refl

refused_5 : outcomes (codes "‿a" ∷ codes "a←b⇐" ∷ codes "⟨1⇐⟩" ∷ codes "1⇐" ∷ codes "_m 1" ∷ codes "+_m←1" ∷ codes "F←_m" ∷ codes "_m←+" ∷ codes "a←+" ∷ codes "F←1" ∷ codes "(1)(2)" ∷ codes "{1 2}3 4" ∷ []) ≡ refused (Grammar (at 1 1)) ∷ refused (Grammar (at 1 1)) ∷ refused (Grammar (at 1 2)) ∷ refused (Grammar (at 1 1)) ∷ refused (Grammar (at 1 1)) ∷ refused (Grammar (at 1 1)) ∷ refused (Grammar (at 1 1)) ∷ refused (Grammar (at 1 1)) ∷ refused (Grammar (at 1 1)) ∷ refused (Grammar (at 1 1)) ∷ refused (Grammar (at 1 1)) ∷ refused (Grammar (at 1 2)) ∷ []
refused_5 = refl

refused_6 : outcomes (codes "({1 2}" ∷ codes "([)]" ∷ codes "{𝕊:𝕘}" ∷ codes "{f _m: 1;𝕘}" ∷ codes "{x F:1}" ∷ codes "{𝕊F:1}" ∷ codes "{𝕨𝕊:1}" ∷ codes "{1:1}" ∷ codes "{F G _m x: 1}" ∷ codes "{𝕊⟨(1)⟩: 1}" ∷ codes "{𝕊⟨⟨1⟩←2⟩: 1}" ∷ codes "⟨a,⟨b,1⟩⟩←2" ∷ []) ≡ refused (Bracket (at 1 1)) ∷ refused (Bracket (at 1 3)) ∷ refused (BadBlock (at 1 1)) ∷ refused (BadBlock (at 1 1)) ∷ refused (BadBlock (at 1 2)) ∷ refused (BadBlock (at 1 2)) ∷ refused (BadBlock (at 1 2)) ∷ refused (BadBlock (at 1 2)) ∷ refused (BadBlock (at 1 2)) ∷ refused (Grammar (at 1 4)) ∷ refused (Grammar (at 1 5)) ∷ refused (Grammar (at 1 7)) ∷ []
refused_6 = refl

refused_7 : outcomes (codes "⟨a,(⟨1⟩)⟩←2" ∷ codes "{𝕊⟨a⟩:⟨·⟩}" ∷ codes "{𝕩⋄⟨1⟩:2}" ∷ []) ≡ refused (Grammar (at 1 4)) ∷ refused (Grammar (at 1 8)) ∷ refused (Grammar (at 1 4)) ∷ []
refused_7 = refl

abbrev times : ℕ → ℕ → List ℕ
times zero c = []
times (suc n) c = c ∷ times n c

deepest : outcomes ((times 129 40) ∷ (times 128 40 ++ codes "a" ++ times 128 41) ∷ (times 127 123 ++ codes "⟨a⟩" ++ times 127 125) ∷ []) ≡ refused (TooNested (at 1 129)) ∷ well ∷ well ∷ []
deepest = refl
