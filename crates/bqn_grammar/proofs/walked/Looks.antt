-- What stands ahead of the tokens that fit the signs of a tree.
use Rattle.std.proofs.Common.{◌≡◌, ℕ, Bool, true, false, List, [], ◌∷◌, Option, Some, None, refl, ap, ◌∙◌, subst}
use Rattle.bqn_syntax.specs.declared.token.Token.{Token}
use Rattle.bqn_syntax.specs.declared.token.Kind.{Kind}
use Rattle.bqn_syntax.specs.declared.token.Kind.TheVariants as kind
use Rattle.bqn_syntax.specs.declared.tree.Arrow.{Arrow}
use Rattle.bqn_syntax.specs.declared.tree.Arrow.TheVariants as arrow
use Rattle.bqn_syntax.specs.declared.sort.Bracket.{Bracket}
use Rattle.bqn_syntax.specs.declared.sort.Bracket.TheVariants.{Round, Angle, Square, Curly}
use Rattle.bqn_syntax.specs.declared.sort.Sort.{Sort}
use Rattle.bqn_syntax.specs.declared.sort.Sort.TheVariants.{Opens, Closes, Separates, Draws, Joins, Selects, Ends, Heads, Asks, Skips, Stands}
use Rattle.bqn_syntax.specs.declared.sort.Tag.TheVariants as tag
use Rattle.bqn_syntax.specs.grammar.Punctuation as punctuation
use Rattle.bqn_syntax.specs.grammar.Sorts.{sort_of, punct_sort, tag as tag_of, is_name}
use Rattle.bqn_syntax.specs.grammar.Looks.{Ahead, ahead, Looks, looks, look, looks_of, first_of, rest_of}
use Rattle.bqn_syntax.specs.grammar.Headers.{own_tag, is_left_operand, is_right_operand, is_left, is_right}
use Rattle.bqn_syntax.specs.grammar.Classes.{is_predicate}
use Rattle.bqn_syntax.specs.grammar.Spells.{Sign, Exact, Mark, Apart, Gap, Fits, one_more, no_more, arrow_code, mark_at, pattern_signs, listed_signs, listed_more, joined_signs, joined_more, token_signs, argument_signs, header_signs, target_signs, name_signs, expr_signs, part_signs, steps_signs, step_signs, derived_signs, uses_signs, use_signs, deriveds_signs, exprs_signs, exprs_more, parts_signs, parts_more, stmt_signs, stmts_signs, body_signs, bodies_signs, bodies_more, block_signs}
use Rattle.bqn_syntax.specs.grammar.Well.{WellPattern, WellPatterns, WellJoined, IsArgument, special, pattern, ArgumentFits, OperandFits, SelfFits, WellHeader, TargetsFit, NamesFit, WellExpr, WellPart, WellSteps, WellStep, WellDerived, WellUses, WellUse, WellDeriveds, WellExprs, WellParts, WellStmt, WellStmts, WellBody, WellBodies, WellBlock}
use Rattle.bqn_syntax.specs.grammar.Trees.{Pattern, Name, Skip, Literal, ListPattern, StrandPattern, Patterns, no_patterns, and_patterns, Header, Expr, Value, Train, Modifier, Use, One, Two, Part, Leaf, Elements, Merge, Paren, Block, Field, Strand, Nothing, Step, Apply, Assign, Modify, Stmt, Eval, Predicate, Export, BlockTree, block, BodyTree, body, Derived, derived, none, some, Exprs, no_exprs, and_exprs, Uses, no_uses, and_uses, Parts, no_parts, and_parts, Steps, no_steps, and_steps, Stmts, no_stmts, and_stmts, Bodies, no_bodies, and_bodies, Deriveds, no_deriveds, and_deriveds}
pub use Rattle.bqn_grammar.proofs.Fitting.{exact_is, mark_is, apart_is, mark_sort, word_stands, literal_stands}

-- what stands ahead of these tokens
abbrev pub arrow_ahead : List Token → Bool
arrow_ahead ts = (looks_of ts).here.arrow

abbrev pub element_ahead : List Token → Bool
element_ahead ts = (looks_of ts).here.element

abbrev pub colon_ahead : List Token → Bool
colon_ahead ts = (looks_of ts).here.colon

abbrev pub outer_of : List Token → List Ahead
outer_of ts = (looks_of ts).outer

-- tokens that fit signs come to tokens that fit the rest of the signs, with the same brackets closing after
pub record Crosses (k : List Sign) (ts : List Token) : Type 0 where
  pub rest : List Token
  pub fits : Fits k rest
  pub outer : outer_of ts ≡ outer_of rest

-- and within one piece
pub record Passes (k : List Sign) (ts : List Token) : Type 0 where
  pub rest : List Token
  pub fits : Fits k rest
  pub outer : outer_of ts ≡ outer_of rest
  pub colon : colon_ahead ts ≡ colon_ahead rest

abbrev pub crosses : {k : List Sign} {ts : List Token} → Passes k ts → Crosses k ts
crosses p = record { rest = p.rest; fits = p.fits; outer = p.outer }

pub stay : {k : List Sign} {ts : List Token} → Fits k ts → Passes k ts
stay {ts = ts} f = record { rest = ts; fits = f; outer = refl; colon = refl }

pub then_pass : {a k : List Sign} {ts : List Token} → Passes a ts → ((rest : List Token) → Fits a rest → Passes k rest) → Passes k ts
then_pass p go = let q = go p.rest p.fits in record { rest = q.rest; fits = q.fits; outer = p.outer ∙ q.outer; colon = p.colon ∙ q.colon }

pub then_cross : {a k : List Sign} {ts : List Token} → Crosses a ts → ((rest : List Token) → Fits a rest → Crosses k rest) → Crosses k ts
then_cross p go = let q = go p.rest p.fits in record { rest = q.rest; fits = q.fits; outer = p.outer ∙ q.outer }

-- one token
looks_cons : (q : Sort) (t : Token) (ts : List Token) → sort_of t.kind ≡ q → looks_of (t ∷ ts) ≡ look q (looks_of ts)
looks_cons q t ts e = ap (λ (s : Sort). look s (looks_of ts)) e

-- a token that is one element, or the like
abbrev pub IsInner : Sort → Type 0
IsInner Stands = Unit {0}
IsInner Skips = Unit {0}
IsInner Joins = Unit {0}
IsInner Selects = Unit {0}
IsInner (Draws a) = Unit {0}
IsInner _ = ⊥

inner_outer : (q : Sort) (l : Looks) → IsInner q → (look q l).outer ≡ l.outer
inner_outer Stands l w = refl
inner_outer Skips l w = refl
inner_outer Joins l w = refl
inner_outer Selects l w = refl
inner_outer (Draws a) l w = refl
inner_outer (Opens b) l w = elim w [ ]
inner_outer (Closes b) l w = elim w [ ]
inner_outer Separates l w = elim w [ ]
inner_outer Ends l w = elim w [ ]
inner_outer Heads l w = elim w [ ]
inner_outer Asks l w = elim w [ ]

inner_colon : (q : Sort) (l : Looks) → IsInner q → (look q l).here.colon ≡ l.here.colon
inner_colon Stands l w = refl
inner_colon Skips l w = refl
inner_colon Joins l w = refl
inner_colon Selects l w = refl
inner_colon (Draws a) l w = refl
inner_colon (Opens b) l w = elim w [ ]
inner_colon (Closes b) l w = elim w [ ]
inner_colon Separates l w = elim w [ ]
inner_colon Ends l w = elim w [ ]
inner_colon Heads l w = elim w [ ]
inner_colon Asks l w = elim w [ ]

passes_one : (q : Sort) (t : Token) {k : List Sign} (ts rest : List Token) → ts ≡ t ∷ rest → sort_of t.kind ≡ q → IsInner q → Fits k rest → Passes k ts
passes_one q t ts rest is e w f = record {
  rest = rest;
  fits = f;
  outer = ap outer_of is ∙ ap (λ (l : Looks). l.outer) (looks_cons q t rest e) ∙ inner_outer q (looks_of rest) w;
  colon = ap colon_ahead is ∙ ap (λ (l : Looks). l.here.colon) (looks_cons q t rest e) ∙ inner_colon q (looks_of rest) w;
}

pub passes_exact : (q : Sort) (t : Token) (k : List Sign) (ts : List Token) → sort_of t.kind ≡ q → IsInner q → Fits (Exact t ∷ k) ts → Passes k ts
passes_exact q t k ts e w f = let x = exact_is f in passes_one q t ts x.0 x.1 e w x.2

pub passes_mark : (q : Sort) (c : ℕ) (k : List Sign) (ts : List Token) → punct_sort c ≡ q → IsInner q → Fits (Mark c ∷ k) ts → Passes k ts
passes_mark q c k ts p w f = let x = mark_is f in passes_one q x.0 ts x.1 x.2 (mark_sort x.0 c q x.3 p) w x.4

pub arrow_sort : (a : Arrow) → punct_sort (arrow_code a) ≡ Draws a
arrow_sort arrow.Define = refl
arrow_sort arrow.Export = refl
arrow_sort arrow.Change = refl

-- separators, `;`, `:` and `?` cross
abbrev pub IsBoundary : Sort → Type 0
IsBoundary Separates = Unit {0}
IsBoundary Ends = Unit {0}
IsBoundary Heads = Unit {0}
IsBoundary Asks = Unit {0}
IsBoundary _ = ⊥

boundary_outer : (q : Sort) (l : Looks) → IsBoundary q → (look q l).outer ≡ l.outer
boundary_outer Separates l w = refl
boundary_outer Ends l w = refl
boundary_outer Heads l w = refl
boundary_outer Asks l w = refl
boundary_outer Stands l w = elim w [ ]
boundary_outer Skips l w = elim w [ ]
boundary_outer Joins l w = elim w [ ]
boundary_outer Selects l w = elim w [ ]
boundary_outer (Draws a) l w = elim w [ ]
boundary_outer (Opens b) l w = elim w [ ]
boundary_outer (Closes b) l w = elim w [ ]

crosses_one : (q : Sort) (t : Token) {k : List Sign} (ts rest : List Token) → ts ≡ t ∷ rest → sort_of t.kind ≡ q → IsBoundary q → Fits k rest → Crosses k ts
crosses_one q t ts rest is e w f = record {
  rest = rest;
  fits = f;
  outer = ap outer_of is ∙ ap (λ (l : Looks). l.outer) (looks_cons q t rest e) ∙ boundary_outer q (looks_of rest) w;
}

pub crosses_mark : (q : Sort) (c : ℕ) (k : List Sign) (ts : List Token) → punct_sort c ≡ q → IsBoundary q → Fits (Mark c ∷ k) ts → Crosses k ts
crosses_mark q c k ts p w f = let x = mark_is f in crosses_one q x.0 ts x.1 x.2 (mark_sort x.0 c q x.3 p) w x.4

pub crosses_apart : (k : List Sign) (ts : List Token) → Fits (Apart ∷ k) ts → Crosses k ts
crosses_apart k ts f = let x = apart_is f in crosses_one Separates x.0 ts x.1 x.2 x.3 tt x.4

pub crosses_gap : (k : List Sign) (ts : List Token) → Fits (Gap ∷ k) ts → Crosses k ts
crosses_gap k ts (no_more f) = crosses (stay f)
crosses_gap k whole (one_more {t = t} {ts = ts} e f) = let q = crosses_gap k ts f in record { rest = q.rest; fits = q.fits; outer = ap (λ (l : Looks). l.outer) (looks_cons Separates t ts e) ∙ q.outer }

-- a pair of brackets is one element: what is ahead of it is what is ahead of what follows it
pub record Groups (k : List Sign) (ts : List Token) : Type 0 where
  pub rest : List Token
  pub fits : Fits k rest
  pub outer : outer_of ts ≡ outer_of rest
  pub colon : colon_ahead ts ≡ colon_ahead rest
  pub element : element_ahead ts ≡ arrow_ahead rest
  pub arrow : arrow_ahead ts ≡ false

abbrev pub grouped : {k : List Sign} {ts : List Token} → Groups k ts → Passes k ts
grouped g = record { rest = g.rest; fits = g.fits; outer = g.outer; colon = g.colon }

-- what stands before a closing bracket
closes_outer : (b : Bracket) (t : Token) (ts rest : List Token) → ts ≡ t ∷ rest → sort_of t.kind ≡ Closes b → outer_of ts ≡ (looks_of rest).here ∷ outer_of rest
closes_outer b t ts rest is e = ap outer_of is ∙ ap (λ (l : Looks). l.outer) (looks_cons (Closes b) t rest e)

opens_looks : (b : Bracket) (t : Token) (ts inner rest : List Token) → ts ≡ t ∷ inner → sort_of t.kind ≡ Opens b → outer_of inner ≡ (looks_of rest).here ∷ outer_of rest → looks_of ts ≡ looks (ahead false (arrow_ahead rest) (colon_ahead rest)) (outer_of rest)
opens_looks b t ts inner rest is e o =
    ap looks_of is ∙ looks_cons (Opens b) t inner e
    ∙ ap (λ (as' : List Ahead). looks (ahead false (first_of as').arrow (first_of as').colon) (rest_of as')) o

pub group_of : (b : Bracket) (c : ℕ) (t : Token) (k : List Sign) (ts inner : List Token) → ts ≡ t ∷ inner → sort_of t.kind ≡ Opens b → punct_sort c ≡ Closes b → Crosses (Mark c ∷ k) inner → Groups k ts
group_of b c t k ts inner is e p x =
    let m = mark_is x.fits in
    let o = x.outer ∙ closes_outer b m.0 x.rest m.1 m.2 (mark_sort m.0 c (Closes b) m.3 p) in
    let l = opens_looks b t ts inner m.1 is e o in
    record {
      rest = m.1;
      fits = m.4;
      outer = ap (λ (y : Looks). y.outer) l;
      colon = ap (λ (y : Looks). y.here.colon) l;
      element = ap (λ (y : Looks). y.here.element) l;
      arrow = ap (λ (y : Looks). y.here.arrow) l;
    }

-- what stands directly after the opening bracket
pub behind_opening : (b : Bracket) (c : ℕ) (k : List Sign) (inner : List Token) → punct_sort c ≡ Closes b → (x : Crosses (Mark c ∷ k) inner) → (rest : List Token) × Fits k rest × (first_of (outer_of inner) ≡ (looks_of rest).here)
behind_opening b c k inner p x =
    let m = mark_is x.fits in
    (m.1, m.4, ap first_of (x.outer ∙ closes_outer b m.0 x.rest m.1 m.2 (mark_sort m.0 c (Closes b) m.3 p)))

-- Tokens of trees.

pub name_stands : (r : _) (j : Kind) → is_name r j ≡ true → sort_of j ≡ Stands
name_stands r (kind.Word name q) e = refl
name_stands r _ e = absurd (cc)

-- Patterns.

mutual
  pub pattern_passes : (b : Bool) (q : Pattern) (k : List Sign) (ts : List Token) → WellPattern b q → Fits (pattern_signs q k) ts → Passes k ts
  pattern_passes b (Name t) k ts w f = passes_exact Stands t k ts (word_stands t.kind w) tt f
  pattern_passes b (Skip place) k ts w f = passes_exact Skips (mark_at punctuation.middle_dot place) k ts refl tt f
  pattern_passes b (Literal t) k ts w f = passes_exact Stands t k ts (literal_stands t.kind w.1) tt f
  pattern_passes b (ListPattern qs) k ts w f =
      let m = mark_is f in
      grouped (group_of Angle punctuation.close_angle m.0 k ts m.1 m.2 (mark_sort m.0 punctuation.open_angle (Opens Angle) m.3 refl) refl
      (then_cross (crosses_gap (listed_signs qs (Gap ∷ Mark punctuation.close_angle ∷ k)) m.1 m.4) (λ rest g. listed_crosses b qs (Mark punctuation.close_angle ∷ k) rest w g)))
  pattern_passes b (StrandPattern qs) k ts w f = joined_passes b qs k ts w.1 f

  pub listed_crosses : (b : Bool) (qs : Patterns) (k : List Sign) (ts : List Token) → WellPatterns b qs → Fits (listed_signs qs (Gap ∷ k)) ts → Crosses k ts
  listed_crosses b no_patterns k ts w f = crosses_gap k ts f
  listed_crosses b (and_patterns q qs) k ts w f = then_cross (crosses (pattern_passes b q (listed_more qs (Gap ∷ k)) ts w.0 f)) (λ rest g. listed_more_crosses b qs k rest w.1 g)

  pub listed_more_crosses : (b : Bool) (qs : Patterns) (k : List Sign) (ts : List Token) → WellPatterns b qs → Fits (listed_more qs (Gap ∷ k)) ts → Crosses k ts
  listed_more_crosses b no_patterns k ts w f = crosses_gap k ts f
  listed_more_crosses b (and_patterns q qs) k ts w f =
      then_cross (crosses_apart (Gap ∷ pattern_signs q (listed_more qs (Gap ∷ k))) ts f) (λ r g.
      then_cross (crosses_gap (pattern_signs q (listed_more qs (Gap ∷ k))) r g) (λ s h.
      then_cross (crosses (pattern_passes b q (listed_more qs (Gap ∷ k)) s w.0 h)) (λ rest i. listed_more_crosses b qs k rest w.1 i)))

  pub joined_passes : (b : Bool) (qs : Patterns) (k : List Sign) (ts : List Token) → WellJoined b qs → Fits (joined_signs qs k) ts → Passes k ts
  joined_passes b no_patterns k ts w f = stay f
  joined_passes b (and_patterns q qs) k ts w f = then_pass (pattern_passes b q (joined_more qs k) ts w.1 f) (λ rest g. joined_more_passes b qs k rest w.2 g)

  pub joined_more_passes : (b : Bool) (qs : Patterns) (k : List Sign) (ts : List Token) → WellJoined b qs → Fits (joined_more qs k) ts → Passes k ts
  joined_more_passes b no_patterns k ts w f = stay f
  joined_more_passes b (and_patterns q qs) k ts w f =
      then_pass (passes_mark Joins punctuation.joiner (pattern_signs q (joined_more qs k)) ts refl tt f) (λ r g.
      then_pass (pattern_passes b q (joined_more qs k) r w.1 g) (λ rest h. joined_more_passes b qs k rest w.2 h))

pub list_crosses : (b : Bool) (qs : Patterns) (k : List Sign) (ts : List Token) → WellPatterns b qs → Fits (Gap ∷ listed_signs qs (Gap ∷ Mark punctuation.close_angle ∷ k)) ts → Crosses (Mark punctuation.close_angle ∷ k) ts
list_crosses b qs k ts w f = then_cross (crosses_gap (listed_signs qs (Gap ∷ Mark punctuation.close_angle ∷ k)) ts f) (λ rest g. listed_crosses b qs (Mark punctuation.close_angle ∷ k) rest w g)

pub list_groups : (b : Bool) (qs : Patterns) (k : List Sign) (ts : List Token) → WellPatterns b qs → Fits (Mark punctuation.open_angle ∷ Gap ∷ listed_signs qs (Gap ∷ Mark punctuation.close_angle ∷ k)) ts → Groups k ts
list_groups b qs k ts w f =
    let m = mark_is f in
    group_of Angle punctuation.close_angle m.0 k ts m.1 m.2 (mark_sort m.0 punctuation.open_angle (Opens Angle) m.3 refl) refl (list_crosses b qs k m.1 w m.4)

-- Headers.

pub argument_stands : (is_special : Kind → Bool) → ((j : Kind) → is_special j ≡ true → sort_of j ≡ Stands) → (o : Option Pattern) (k : List Sign) (ts : List Token) → ArgumentFits is_special o → Fits (argument_signs o k) ts → Passes k ts
argument_stands is_special s None k ts w f = stay f
argument_stands is_special s (Some q) k ts w f = go q w f
  where
    go : (q : Pattern) → IsArgument is_special q → Fits (pattern_signs q k) ts → Passes k ts
    go q (special {t = t} e) f = passes_exact Stands t k ts (s t.kind e) tt f
    go q (pattern o w) f = pattern_passes true q k ts w f

pub left_stands : (j : Kind) → is_left j ≡ true → sort_of j ≡ Stands
left_stands (kind.Punct c) e = absurd (cc)
left_stands _ e = refl

pub right_stands : (j : Kind) → is_right j ≡ true → sort_of j ≡ Stands
right_stands (kind.Punct c) e = absurd (cc)
right_stands _ e = refl

left_operand_stands : (j : Kind) → is_left_operand j ≡ true → sort_of j ≡ Stands
left_operand_stands (kind.Punct c) e = absurd (cc)
left_operand_stands _ e = refl

right_operand_stands : (j : Kind) → is_right_operand j ≡ true → sort_of j ≡ Stands
right_operand_stands (kind.Punct c) e = absurd (cc)
right_operand_stands _ e = refl

pub own_stands : (j : Kind) (l r : Option Token) → SelfFits (own_tag j) l r → sort_of j ≡ Stands
own_stands (kind.Punct c) l r w = elim w [ ]
own_stands (kind.Number z) l r w = refl
own_stands (kind.Char c) l r w = refl
own_stands (kind.Text c) l r w = refl
own_stands (kind.Word n q) l r w = refl
own_stands (kind.System n q) l r w = refl
own_stands (kind.Special n q) l r w = refl
own_stands (kind.Given c) l r w = refl

pub operand_stands : (is_operand : Kind → Bool) → ((j : Kind) → is_operand j ≡ true → sort_of j ≡ Stands) → (o : Option Token) → OperandFits is_operand o → (t : Token) → o ≡ Some t → sort_of t.kind ≡ Stands
operand_stands is_operand s None w t e = elim w [ ]
operand_stands is_operand s (Some u) w t e = subst (λ (o : Option Token). StandsIn o) e (s u.kind w)
  where
    StandsIn : Option Token → Type 0
    StandsIn None = Unit {0}
    StandsIn (Some t) = sort_of t.kind ≡ Stands

-- the operands of a self part that fits stand
abbrev pub OperandsStand : Option Token → Type 0
OperandsStand None = Unit {0}
OperandsStand (Some t) = sort_of t.kind ≡ Stands

left_operands_stand : (o : Option Token) → OperandFits is_left_operand o → OperandsStand o
left_operands_stand None w = tt
left_operands_stand (Some t) w = left_operand_stands t.kind w

right_operands_stand : (o : Option Token) → OperandFits is_right_operand o → OperandsStand o
right_operands_stand None w = tt
right_operands_stand (Some t) w = right_operand_stands t.kind w

pub self_stands : (r : _) (l o : Option Token) → SelfFits r l o → OperandsStand l × OperandsStand o
self_stands tag.Function None None w = (tt, tt)
self_stands tag.Function None (Some t) w = elim w [ ]
self_stands tag.Function (Some t) o w = elim w [ ]
self_stands tag.Mod1 l None w = (left_operands_stand l w, tt)
self_stands tag.Mod1 l (Some t) w = elim w [ ]
self_stands tag.Mod2 l o w = (left_operands_stand l w.0, right_operands_stand o w.1)
self_stands tag.Subject l o w = elim w [ ]
self_stands tag.Nothing l o w = elim w [ ]

pub token_passes : (o : Option Token) (k : List Sign) (ts : List Token) → OperandsStand o → Fits (token_signs o k) ts → Passes k ts
token_passes None k ts w f = stay f
token_passes (Some t) k ts w f = passes_exact Stands t k ts w tt f

pub header_passes : (h : Header) (k : List Sign) (ts : List Token) → WellHeader h → Fits (header_signs h k) ts → Passes k ts
header_passes h k ts w f =
    let s = self_stands (own_tag h.own.kind) h.left_operand h.right_operand w.self in
    then_pass (argument_stands is_left left_stands h.left (token_signs h.left_operand (Exact h.own ∷ token_signs h.right_operand (argument_signs h.right k))) ts w.left f) (λ r g.
    then_pass (token_passes h.left_operand (Exact h.own ∷ token_signs h.right_operand (argument_signs h.right k)) r s.0 g) (λ r2 g2.
    then_pass (passes_exact Stands h.own (token_signs h.right_operand (argument_signs h.right k)) r2 (own_stands h.own.kind h.left_operand h.right_operand w.self) tt g2) (λ r3 g3.
    then_pass (token_passes h.right_operand (argument_signs h.right k) r3 s.1 g3) (λ r4 g4.
    argument_stands is_right right_stands h.right k r4 w.right g4))))

-- Trees.

abbrev pub AllStand : List Token → Type 0
AllStand [] = Unit {0}
AllStand (t ∷ ts) = (sort_of t.kind ≡ Stands) × AllStand ts

pub names_stand : (names : List Token) → NamesFit names → AllStand names
names_stand [] w = tt
names_stand (t ∷ []) w = (word_stands t.kind w, tt)
names_stand (t ∷ u ∷ names) w = (name_stands tag.Subject t.kind w.0, names_stand (u ∷ names) w.1)

pub names_passes : (names : List Token) (k : List Sign) (ts : List Token) → AllStand names → Fits (name_signs names k) ts → Passes k ts
names_passes [] k ts w f = stay f
names_passes (t ∷ names) k ts w f =
    then_pass (passes_mark Selects punctuation.dot (Exact t ∷ name_signs names k) ts refl tt f) (λ r g.
    then_pass (passes_exact Stands t (name_signs names k) r w.0 tt g) (λ rest h. names_passes names k rest w.1 h))

pub targets_passes : (r : _) (targets : List (Token × Arrow)) (k : List Sign) (ts : List Token) → TargetsFit r targets → Fits (target_signs targets k) ts → Passes k ts
targets_passes r [] k ts w f = stay f
targets_passes r (t ∷ targets) k ts w f =
    then_pass (passes_exact Stands t.0 (Mark (arrow_code t.1) ∷ target_signs targets k) ts (name_stands r t.0.kind w.0) tt f) (λ u g.
    then_pass (passes_mark (Draws t.1) (arrow_code t.1) (target_signs targets k) u (arrow_sort t.1) tt g) (λ rest h. targets_passes r targets k rest w.1 h))

mutual
  pub expr_passes : (e : Expr) (k : List Sign) (ts : List Token) → WellExpr e → Fits (expr_signs e k) ts → Passes k ts
  expr_passes (Value none ss) k ts w f = steps_passes ss k ts w.1 f
  expr_passes (Value (some x) ss) k ts w f = then_pass (steps_passes ss (part_signs x k) ts w.2 f) (λ r g. part_passes x k r w.1 g)
  expr_passes (Train targets ds) k ts w f = then_pass (targets_passes tag.Function targets (deriveds_signs ds k) ts w.0 f) (λ r g. deriveds_passes ds k r w.3 g)
  expr_passes (Modifier targets x) k ts w f = then_pass (targets_passes (tag_of x) targets (part_signs x k) ts w.1 f) (λ r g. part_passes x k r w.2 g)

  pub part_passes : (x : Part) (k : List Sign) (ts : List Token) → WellPart x → Fits (part_signs x k) ts → Passes k ts
  part_passes (Leaf t) k ts w f = passes_exact Stands t k ts w tt f
  part_passes (Elements es) k ts w f =
      let m = mark_is f in
      grouped (group_of Angle punctuation.close_angle m.0 k ts m.1 m.2 (mark_sort m.0 punctuation.open_angle (Opens Angle) m.3 refl) refl
      (then_cross (crosses_gap (exprs_signs es (Gap ∷ Mark punctuation.close_angle ∷ k)) m.1 m.4) (λ rest g. exprs_crosses es (Mark punctuation.close_angle ∷ k) rest w g)))
  part_passes (Merge es) k ts w f =
      let m = mark_is f in
      grouped (group_of Square punctuation.close_square m.0 k ts m.1 m.2 (mark_sort m.0 punctuation.open_square (Opens Square) m.3 refl) refl
      (then_cross (crosses_gap (exprs_signs es (Gap ∷ Mark punctuation.close_square ∷ k)) m.1 m.4) (λ rest g. exprs_crosses es (Mark punctuation.close_square ∷ k) rest w.1 g)))
  part_passes (Paren e) k ts w f =
      let m = mark_is f in
      grouped (group_of Round punctuation.close_round m.0 k ts m.1 m.2 (mark_sort m.0 punctuation.open_round (Opens Round) m.3 refl) refl (crosses (expr_passes e (Mark punctuation.close_round ∷ k) m.1 w m.4)))
  part_passes (Block b) k ts w f = block_passes b k ts w f
  part_passes (Field x names) k ts w f = then_pass (part_passes x (name_signs names k) ts w.2 f) (λ r g. names_passes names k r (names_stand names w.1) g)
  part_passes (Strand ps) k ts w f = parts_passes ps k ts w.1 f
  part_passes (Nothing place) k ts w f = passes_exact Skips (mark_at punctuation.middle_dot place) k ts refl tt f

  pub block_passes : (b : BlockTree) (k : List Sign) (ts : List Token) → WellBlock b → Fits (block_signs b k) ts → Passes k ts
  block_passes (block place c bs) k ts w f =
      let m = exact_is f in
      grouped (group_of Curly punctuation.close_curly (mark_at punctuation.open_curly place) k ts m.0 m.1 refl refl (bodies_crosses bs (Mark punctuation.close_curly ∷ k) m.0 w.2 m.2))

  pub parts_passes : (ps : Parts) (k : List Sign) (ts : List Token) → WellParts ps → Fits (parts_signs ps k) ts → Passes k ts
  parts_passes no_parts k ts w f = stay f
  parts_passes (and_parts x xs) k ts w f = then_pass (part_passes x (parts_more xs k) ts w.1 f) (λ r g. parts_more_passes xs k r w.2 g)

  pub parts_more_passes : (ps : Parts) (k : List Sign) (ts : List Token) → WellParts ps → Fits (parts_more ps k) ts → Passes k ts
  parts_more_passes no_parts k ts w f = stay f
  parts_more_passes (and_parts x xs) k ts w f =
      then_pass (passes_mark Joins punctuation.joiner (part_signs x (parts_more xs k)) ts refl tt f) (λ r g.
      then_pass (part_passes x (parts_more xs k) r w.1 g) (λ rest h. parts_more_passes xs k rest w.2 h))

  pub steps_passes : (ss : Steps) (k : List Sign) (ts : List Token) → WellSteps ss → Fits (steps_signs ss k) ts → Passes k ts
  steps_passes no_steps k ts w f = stay f
  steps_passes (and_steps s ss) k ts w f = then_pass (steps_passes ss (step_signs s k) ts w.1 f) (λ r g. step_passes s k r w.0 g)

  pub step_passes : (s : Step) (k : List Sign) (ts : List Token) → WellStep s → Fits (step_signs s k) ts → Passes k ts
  step_passes (Apply d none) k ts w f = derived_passes d k ts w.1 f
  step_passes (Apply d (some x)) k ts w f = then_pass (part_passes x (derived_signs d k) ts w.3 f) (λ r g. derived_passes d k r w.1 g)
  step_passes (Assign q a) k ts w f = then_pass (pattern_passes false q (Mark (arrow_code a) ∷ k) ts w.1 f) (λ r g. passes_mark (Draws a) (arrow_code a) k r (arrow_sort a) tt g)
  step_passes (Modify t d) k ts w f =
      then_pass (passes_exact Stands t (derived_signs d (Mark punctuation.change_arrow ∷ k)) ts (name_stands tag.Subject t.kind w.0) tt f) (λ r g.
      then_pass (derived_passes d (Mark punctuation.change_arrow ∷ k) r w.3 g) (λ rest h. passes_mark (Draws arrow.Change) punctuation.change_arrow k rest refl tt h))

  pub derived_passes : (d : Derived) (k : List Sign) (ts : List Token) → WellDerived d → Fits (derived_signs d k) ts → Passes k ts
  derived_passes (derived x us) k ts w f = then_pass (part_passes x (uses_signs us k) ts w.0 f) (λ r g. uses_passes us k r w.1 g)

  pub uses_passes : (us : Uses) (k : List Sign) (ts : List Token) → WellUses us → Fits (uses_signs us k) ts → Passes k ts
  uses_passes no_uses k ts w f = stay f
  uses_passes (and_uses u us) k ts w f = then_pass (use_passes u (uses_signs us k) ts w.0 f) (λ r g. uses_passes us k r w.1 g)

  pub use_passes : (u : Use) (k : List Sign) (ts : List Token) → WellUse u → Fits (use_signs u k) ts → Passes k ts
  use_passes (One m) k ts w f = part_passes m k ts w f
  use_passes (Two m x) k ts w f = then_pass (part_passes m (part_signs x k) ts w.0 f) (λ r g. part_passes x k r w.1 g)

  pub deriveds_passes : (ds : Deriveds) (k : List Sign) (ts : List Token) → WellDeriveds ds → Fits (deriveds_signs ds k) ts → Passes k ts
  deriveds_passes no_deriveds k ts w f = stay f
  deriveds_passes (and_deriveds d ds) k ts w f = then_pass (derived_passes d (deriveds_signs ds k) ts w.0 f) (λ r g. deriveds_passes ds k r w.1 g)

  pub exprs_crosses : (es : Exprs) (k : List Sign) (ts : List Token) → WellExprs es → Fits (exprs_signs es (Gap ∷ k)) ts → Crosses k ts
  exprs_crosses no_exprs k ts w f = crosses_gap k ts f
  exprs_crosses (and_exprs e es) k ts w f = then_cross (crosses (expr_passes e (exprs_more es (Gap ∷ k)) ts w.0 f)) (λ r g. exprs_more_crosses es k r w.1 g)

  pub exprs_more_crosses : (es : Exprs) (k : List Sign) (ts : List Token) → WellExprs es → Fits (exprs_more es (Gap ∷ k)) ts → Crosses k ts
  exprs_more_crosses no_exprs k ts w f = crosses_gap k ts f
  exprs_more_crosses (and_exprs e es) k ts w f =
      then_cross (crosses_apart (Gap ∷ expr_signs e (exprs_more es (Gap ∷ k))) ts f) (λ r g.
      then_cross (crosses_gap (expr_signs e (exprs_more es (Gap ∷ k))) r g) (λ r2 g2.
      then_cross (crosses (expr_passes e (exprs_more es (Gap ∷ k)) r2 w.0 g2)) (λ rest h. exprs_more_crosses es k rest w.1 h)))

  pub stmt_crosses : (b : Bool) (s : Stmt) (k : List Sign) (ts : List Token) → WellStmt b s → Fits (stmt_signs s k) ts → Crosses k ts
  stmt_crosses b (Eval e) k ts w f = crosses (expr_passes e k ts w f)
  stmt_crosses b (Predicate e) k ts w f = then_cross (crosses (expr_passes e (Mark punctuation.question_mark ∷ k) ts w.2 f)) (λ r g. crosses_mark Asks punctuation.question_mark k r refl tt g)
  stmt_crosses b (Export q) k ts w f = crosses (then_pass (pattern_passes false q (Mark punctuation.export_arrow ∷ k) ts w f) (λ r g. passes_mark (Draws arrow.Export) punctuation.export_arrow k r refl tt g))

  pub stmts_crosses : (b begins : Bool) (ss : Stmts) (k : List Sign) (ts : List Token) → WellStmts b ss → Fits (stmts_signs begins ss (Gap ∷ k)) ts → Crosses k ts
  stmts_crosses b begins no_stmts k ts w f = crosses_gap k ts f
  stmts_crosses b true (and_stmts s ss) k ts w f =
      then_cross (crosses_gap (stmt_signs s (stmts_signs (is_predicate s) ss (Gap ∷ k))) ts f) (λ r g.
      then_cross (stmt_crosses b s (stmts_signs (is_predicate s) ss (Gap ∷ k)) r w.0 g) (λ rest h. stmts_crosses b (is_predicate s) ss k rest w.1 h))
  stmts_crosses b false (and_stmts s ss) k ts w f =
      then_cross (crosses_apart (Gap ∷ stmt_signs s (stmts_signs (is_predicate s) ss (Gap ∷ k))) ts f) (λ r0 g0.
      then_cross (crosses_gap (stmt_signs s (stmts_signs (is_predicate s) ss (Gap ∷ k))) r0 g0) (λ r g.
      then_cross (stmt_crosses b s (stmts_signs (is_predicate s) ss (Gap ∷ k)) r w.0 g) (λ rest h. stmts_crosses b (is_predicate s) ss k rest w.1 h)))

  pub body_crosses : (b : BodyTree) (k : List Sign) (ts : List Token) → WellBody b → Fits (body_signs b k) ts → Crosses k ts
  body_crosses (body None ss) k ts w f = stmts_crosses true true ss k ts w.1 f
  body_crosses (body (Some h) ss) k ts w f =
      then_cross (crosses_gap (header_signs h (Mark punctuation.colon ∷ stmts_signs true ss (Gap ∷ k))) ts f) (λ r g.
      then_cross (crosses (header_passes h (Mark punctuation.colon ∷ stmts_signs true ss (Gap ∷ k)) r w.0 g)) (λ r2 g2.
      then_cross (crosses_mark Heads punctuation.colon (stmts_signs true ss (Gap ∷ k)) r2 refl tt g2) (λ rest i. stmts_crosses true true ss k rest w.1 i)))

  pub bodies_crosses : (bs : Bodies) (k : List Sign) (ts : List Token) → WellBodies bs → Fits (bodies_signs bs k) ts → Crosses k ts
  bodies_crosses no_bodies k ts w f = crosses (stay f)
  bodies_crosses (and_bodies b bs) k ts w f = then_cross (body_crosses b (bodies_more bs k) ts w.0 f) (λ r g. bodies_more_crosses bs k r w.1 g)

  pub bodies_more_crosses : (bs : Bodies) (k : List Sign) (ts : List Token) → WellBodies bs → Fits (bodies_more bs k) ts → Crosses k ts
  bodies_more_crosses no_bodies k ts w f = crosses (stay f)
  bodies_more_crosses (and_bodies b bs) k ts w f =
      then_cross (crosses_mark Ends punctuation.semicolon (body_signs b (bodies_more bs k)) ts refl tt f) (λ r g.
      then_cross (body_crosses b (bodies_more bs k) r w.0 g) (λ rest h. bodies_more_crosses bs k rest w.1 h))
