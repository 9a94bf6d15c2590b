-- Whether an arrow stands ahead of the tokens that fit the signs of a tree.
use Rattle.std.proofs.Common.{◌≡◌, ℕ, Bool, true, false, List, [], ◌∷◌, refl, ap, ◌∙◌}
use Rattle.bqn_base.specs.declared.place.Place.{Place}
use Rattle.bqn_syntax.specs.declared.token.Token.{Token}
use Rattle.bqn_syntax.specs.declared.tree.Arrow.{Arrow}
use Rattle.bqn_syntax.specs.declared.sort.Bracket.TheVariants.{Round, Angle, Square, Curly}
use Rattle.bqn_syntax.specs.declared.sort.Sort.{Sort}
use Rattle.bqn_syntax.specs.declared.sort.Sort.TheVariants.{Opens, Closes, Separates, Draws, Joins, Selects, Ends, Heads, Asks, Skips, Stands}
use Rattle.bqn_syntax.specs.grammar.Punctuation as punctuation
use Rattle.bqn_syntax.specs.grammar.Sorts.{sort_of, punct_sort}
use Rattle.bqn_syntax.specs.grammar.Looks.{Looks, look, looks_of}
use Rattle.bqn_syntax.specs.grammar.Spells.{Sign, Exact, Mark, Apart, Gap, Fits, apart, one_more, no_more, arrow_code, mark_at, pattern_signs, joined_more, name_signs, expr_signs, part_signs, derived_signs, uses_signs, deriveds_signs, exprs_signs, parts_signs, parts_more, block_signs}
use Rattle.bqn_syntax.specs.grammar.Well.{WellPattern, WellJoined, NamesFit, WellExpr, WellPart, WellDerived, WellUses, WellDeriveds, WellExprs, WellParts, WellBlock}
use Rattle.bqn_syntax.specs.grammar.Trees.{Pattern, Name, Skip, Literal, ListPattern, StrandPattern, Patterns, no_patterns, and_patterns, Expr, One, Two, Part, Leaf, Elements, Merge, Paren, Block, Field, Strand, Nothing, BlockTree, block, Derived, derived, Exprs, Uses, no_uses, and_uses, Parts, no_parts, and_parts, Deriveds, no_deriveds, and_deriveds}
use Rattle.bqn_syntax.specs.grammar.Well.{IsNoStrand, IsBase, IsElement, AreTwoParts}
use Rattle.bqn_grammar.proofs.walked.Looks.{arrow_ahead, element_ahead, colon_ahead, Groups, crosses, then_cross, crosses_gap, exact_is, mark_is, mark_sort, group_of, list_groups, word_stands, literal_stands, expr_passes, exprs_crosses, bodies_crosses, arrow_sort}

-- what every token list that fits these signs has ahead
abbrev pub Arrows : Bool → List Sign → Type 0
Arrows b k = (rest : List Token) → Fits k rest → arrow_ahead rest ≡ b

abbrev pub Colons : Bool → List Sign → Type 0
Colons b k = (rest : List Token) → Fits k rest → colon_ahead rest ≡ b

pub looks_at : (q : Sort) (t : Token) (ts rest : List Token) → ts ≡ t ∷ rest → sort_of t.kind ≡ q → looks_of ts ≡ look q (looks_of rest)
looks_at q t ts rest is e = ap looks_of is ∙ ap (λ (s : Sort). look s (looks_of rest)) e

-- an arrow
pub drawn_arrows : (a : Arrow) (k : List Sign) → Arrows true (Mark (arrow_code a) ∷ k)
drawn_arrows a k ts f = let m = mark_is f in ap (λ (l : Looks). l.here.arrow) (looks_at (Draws a) m.0 ts m.1 m.2 (mark_sort m.0 (arrow_code a) (Draws a) m.3 (arrow_sort a)))

-- what is no arrow and no joiner
abbrev pub IsOther : Sort → Type 0
IsOther (Draws a) = ⊥
IsOther Joins = ⊥
IsOther _ = Unit {0}

no_arrow : (q : Sort) (l : Looks) → IsOther q → (look q l).here.arrow ≡ false
no_arrow (Draws a) l w = elim w [ ]
no_arrow Joins l w = elim w [ ]
no_arrow (Opens b) l w = refl
no_arrow (Closes b) l w = refl
no_arrow Separates l w = refl
no_arrow Selects l w = refl
no_arrow Ends l w = refl
no_arrow Heads l w = refl
no_arrow Asks l w = refl
no_arrow Skips l w = refl
no_arrow Stands l w = refl

pub other_arrows : (q : Sort) (c : ℕ) (k : List Sign) → punct_sort c ≡ q → IsOther q → Arrows false (Mark c ∷ k)
other_arrows q c k p w ts f = let m = mark_is f in ap (λ (l : Looks). l.here.arrow) (looks_at q m.0 ts m.1 m.2 (mark_sort m.0 c q m.3 p)) ∙ no_arrow q (looks_of m.1) w

pub exact_arrow_ahead : (q : Sort) (t : Token) (k : List Sign) (ts : List Token) → sort_of t.kind ≡ q → IsOther q → Fits (Exact t ∷ k) ts → arrow_ahead ts ≡ false
exact_arrow_ahead q t k ts e w f = let x = exact_is f in ap (λ (l : Looks). l.here.arrow) (looks_at q t ts x.0 x.1 e) ∙ no_arrow q (looks_of x.0) w

pub apart_arrows : (k : List Sign) → Arrows false (Apart ∷ k)
apart_arrows k whole (apart {t = t} {ts = ts} e f) = ap (λ (l : Looks). l.here.arrow) (looks_at Separates t (t ∷ ts) ts refl e)

pub gap_arrows : (k : List Sign) → Arrows false k → Arrows false (Gap ∷ k)
gap_arrows k g whole (one_more {t = t} {ts = ts} e f) = ap (λ (l : Looks). l.here.arrow) (looks_at Separates t (t ∷ ts) ts refl e)
gap_arrows k g ts (no_more f) = g ts f

-- an element: what is ahead of it is what is ahead of what follows
exact_element : (t : Token) (b : Bool) (k : List Sign) (ts : List Token) → sort_of t.kind ≡ Stands → Arrows b k → Fits (Exact t ∷ k) ts → element_ahead ts ≡ b
exact_element t b k ts e g f = let x = exact_is f in ap (λ (l : Looks). l.here.element) (looks_at Stands t ts x.0 x.1 e) ∙ g x.0 x.2

skip_element : (place : Place) (b : Bool) (k : List Sign) (ts : List Token) → Arrows b k → Fits (Exact (mark_at punctuation.middle_dot place) ∷ k) ts → element_ahead ts ≡ b
skip_element place b k ts g f = let x = exact_is f in ap (λ (l : Looks). l.here.element) (looks_at Skips (mark_at punctuation.middle_dot place) ts x.0 x.1 refl) ∙ g x.0 x.2

group_element : (b : Bool) (k : List Sign) (ts : List Token) → Arrows b k → Groups k ts → element_ahead ts ≡ b
group_element b k ts g x = x.element ∙ g x.rest x.fits

joiner_arrow : (k : List Sign) (b : Bool) → ((rest : List Token) → Fits k rest → element_ahead rest ≡ b) → Arrows b (Mark punctuation.joiner ∷ k)
joiner_arrow k b g ts f = let m = mark_is f in ap (λ (l : Looks). l.here.arrow) (looks_at Joins m.0 ts m.1 m.2 (mark_sort m.0 punctuation.joiner Joins m.3 refl)) ∙ g m.1 m.4

-- Patterns.

pub pattern_element : (literals b : Bool) (q : Pattern) (k : List Sign) (ts : List Token) → IsNoStrand q → WellPattern literals q → Arrows b k → Fits (pattern_signs q k) ts → element_ahead ts ≡ b
pattern_element literals b (Name t) k ts n w g f = exact_element t b k ts (word_stands t.kind w) g f
pattern_element literals b (Skip place) k ts n w g f = skip_element place b k ts g f
pattern_element literals b (Literal t) k ts n w g f = exact_element t b k ts (literal_stands t.kind w.1) g f
pattern_element literals b (ListPattern qs) k ts n w g f = group_element b k ts g (list_groups literals qs k ts w f)
pattern_element literals b (StrandPattern qs) k ts n w g f = elim n [ ]

pub joined_arrows : (literals b : Bool) (qs : Patterns) (k : List Sign) → WellJoined literals qs → Arrows b k → Arrows b (joined_more qs k)
joined_arrows literals b no_patterns k w g = g
joined_arrows literals b (and_patterns q qs) k w g =
    joiner_arrow (pattern_signs q (joined_more qs k)) b (λ rest f. pattern_element literals b q (joined_more qs k) rest w.0 w.1 (joined_arrows literals b qs k w.2 g) f)

pub pattern_arrows : (literals : Bool) (q : Pattern) (k : List Sign) → WellPattern literals q → Arrows false (pattern_signs q k)
pattern_arrows literals (Name t) k w ts f = exact_arrow_ahead Stands t k ts (word_stands t.kind w) tt f
pattern_arrows literals (Skip place) k w ts f = exact_arrow_ahead Skips (mark_at punctuation.middle_dot place) k ts refl tt f
pattern_arrows literals (Literal t) k w ts f = exact_arrow_ahead Stands t k ts (literal_stands t.kind w.1) tt f
pattern_arrows literals (ListPattern qs) k w ts f = (list_groups literals qs k ts w f).arrow
pattern_arrows literals (StrandPattern no_patterns) k w ts f = elim w.0 [ ]
pattern_arrows literals (StrandPattern (and_patterns q no_patterns)) k w ts f = elim w.0 [ ]
pattern_arrows literals (StrandPattern (and_patterns q (and_patterns r qs))) k w ts f = element_arrow literals q (joined_more (and_patterns r qs) k) ts w.1.0 w.1.1 f
  where
    element_arrow : (literals : Bool) (q : Pattern) (k : List Sign) (ts : List Token) → IsNoStrand q → WellPattern literals q → Fits (pattern_signs q k) ts → arrow_ahead ts ≡ false
    element_arrow literals (Name t) k ts n w f = exact_arrow_ahead Stands t k ts (word_stands t.kind w) tt f
    element_arrow literals (Skip place) k ts n w f = exact_arrow_ahead Skips (mark_at punctuation.middle_dot place) k ts refl tt f
    element_arrow literals (Literal t) k ts n w f = exact_arrow_ahead Stands t k ts (literal_stands t.kind w.1) tt f
    element_arrow literals (ListPattern qs) k ts n w f = (list_groups literals qs k ts w f).arrow
    element_arrow literals (StrandPattern qs) k ts n w f = elim n [ ]

-- Parts.

elements_groups : (es : Exprs) (k : List Sign) (ts : List Token) → WellExprs es → Fits (Mark punctuation.open_angle ∷ Gap ∷ exprs_signs es (Gap ∷ Mark punctuation.close_angle ∷ k)) ts → Groups k ts
elements_groups es k ts w f =
    let m = mark_is f in
    group_of Angle punctuation.close_angle m.0 k ts m.1 m.2 (mark_sort m.0 punctuation.open_angle (Opens Angle) m.3 refl) refl
    (then_cross (crosses_gap (exprs_signs es (Gap ∷ Mark punctuation.close_angle ∷ k)) m.1 m.4) (λ rest g. exprs_crosses es (Mark punctuation.close_angle ∷ k) rest w g))

merge_groups : (es : Exprs) (k : List Sign) (ts : List Token) → WellExprs es → Fits (Mark punctuation.open_square ∷ Gap ∷ exprs_signs es (Gap ∷ Mark punctuation.close_square ∷ k)) ts → Groups k ts
merge_groups es k ts w f =
    let m = mark_is f in
    group_of Square punctuation.close_square m.0 k ts m.1 m.2 (mark_sort m.0 punctuation.open_square (Opens Square) m.3 refl) refl
    (then_cross (crosses_gap (exprs_signs es (Gap ∷ Mark punctuation.close_square ∷ k)) m.1 m.4) (λ rest g. exprs_crosses es (Mark punctuation.close_square ∷ k) rest w g))

parens_groups : (e : Expr) (k : List Sign) (ts : List Token) → WellExpr e → Fits (Mark punctuation.open_round ∷ expr_signs e (Mark punctuation.close_round ∷ k)) ts → Groups k ts
parens_groups e k ts w f =
    let m = mark_is f in
    group_of Round punctuation.close_round m.0 k ts m.1 m.2 (mark_sort m.0 punctuation.open_round (Opens Round) m.3 refl) refl (crosses (expr_passes e (Mark punctuation.close_round ∷ k) m.1 w m.4))

block_groups : (b : BlockTree) (k : List Sign) (ts : List Token) → WellBlock b → Fits (block_signs b k) ts → Groups k ts
block_groups (block place c bs) k ts w f =
    let m = exact_is f in
    group_of Curly punctuation.close_curly (mark_at punctuation.open_curly place) k ts m.0 m.1 refl refl (bodies_crosses bs (Mark punctuation.close_curly ∷ k) m.0 w.2 m.2)

pub name_arrows : (names : List Token) (k : List Sign) → NamesFit names → Arrows false (name_signs names k)
name_arrows [] k w = elim w [ ]
name_arrows (t ∷ names) k w = other_arrows Selects punctuation.dot (Exact t ∷ name_signs names k) refl tt

pub part_arrows : (x : Part) (k : List Sign) → WellPart x → Arrows false (part_signs x k)
part_arrows (Leaf t) k w ts f = exact_arrow_ahead Stands t k ts w tt f
part_arrows (Elements es) k w ts f = (elements_groups es k ts w f).arrow
part_arrows (Merge es) k w ts f = (merge_groups es k ts w.1 f).arrow
part_arrows (Paren e) k w ts f = (parens_groups e k ts w f).arrow
part_arrows (Block b) k w ts f = (block_groups b k ts w f).arrow
part_arrows (Field x names) k w ts f = part_arrows x (name_signs names k) w.2 ts f
part_arrows (Nothing place) k w ts f = exact_arrow_ahead Skips (mark_at punctuation.middle_dot place) k ts refl tt f
part_arrows (Strand ps) k w ts f = parts_arrow ps k ts w.0 w.1 f
  where
    element_arrow : (x : Part) (k : List Sign) (ts : List Token) → IsElement x → WellPart x → Fits (part_signs x k) ts → arrow_ahead ts ≡ false
    element_arrow (Leaf t) k ts n w f = exact_arrow_ahead Stands t k ts w tt f
    element_arrow (Elements es) k ts n w f = (elements_groups es k ts w f).arrow
    element_arrow (Merge es) k ts n w f = (merge_groups es k ts w.1 f).arrow
    element_arrow (Paren e) k ts n w f = (parens_groups e k ts w f).arrow
    element_arrow (Block b) k ts n w f = (block_groups b k ts w f).arrow
    element_arrow (Field x names) k ts n w f = part_arrows' x (name_signs names k) ts w.0 w.2 f
      where
        part_arrows' : (x : Part) (k : List Sign) (ts : List Token) → IsBase x → WellPart x → Fits (part_signs x k) ts → arrow_ahead ts ≡ false
        part_arrows' (Leaf t) k ts n w f = exact_arrow_ahead Stands t k ts w tt f
        part_arrows' (Elements es) k ts n w f = (elements_groups es k ts w f).arrow
        part_arrows' (Merge es) k ts n w f = (merge_groups es k ts w.1 f).arrow
        part_arrows' (Paren e) k ts n w f = (parens_groups e k ts w f).arrow
        part_arrows' (Block b) k ts n w f = (block_groups b k ts w f).arrow
        part_arrows' (Field y names) k ts n w f = elim n [ ]
        part_arrows' (Nothing place) k ts n w f = exact_arrow_ahead Skips (mark_at punctuation.middle_dot place) k ts refl tt f
        part_arrows' (Strand ps) k ts n w f = elim n [ ]
    element_arrow (Nothing place) k ts n w f = elim n [ ]
    element_arrow (Strand ps) k ts n w f = elim n [ ]

    parts_arrow : (ps : Parts) (k : List Sign) (ts : List Token) → AreTwoParts ps → WellParts ps → Fits (parts_signs ps k) ts → arrow_ahead ts ≡ false
    parts_arrow no_parts k ts n w f = elim n [ ]
    parts_arrow (and_parts x xs) k ts n w f = element_arrow x (parts_more xs k) ts w.0 w.1 f

base_element : (x : Part) (k : List Sign) (ts : List Token) → IsBase x → WellPart x → Arrows false k → Fits (part_signs x k) ts → element_ahead ts ≡ false
base_element (Leaf t) k ts n w g f = exact_element t false k ts w g f
base_element (Elements es) k ts n w g f = group_element false k ts g (elements_groups es k ts w f)
base_element (Merge es) k ts n w g f = group_element false k ts g (merge_groups es k ts w.1 f)
base_element (Paren e) k ts n w g f = group_element false k ts g (parens_groups e k ts w f)
base_element (Block b) k ts n w g f = group_element false k ts g (block_groups b k ts w f)
base_element (Field y names) k ts n w g f = elim n [ ]
base_element (Strand ps) k ts n w g f = elim n [ ]
base_element (Nothing place) k ts n w g f = skip_element place false k ts g f

pub part_element : (x : Part) (k : List Sign) (ts : List Token) → IsElement x → WellPart x → Arrows false k → Fits (part_signs x k) ts → element_ahead ts ≡ false
part_element (Leaf t) k ts n w g f = exact_element t false k ts w g f
part_element (Elements es) k ts n w g f = group_element false k ts g (elements_groups es k ts w f)
part_element (Merge es) k ts n w g f = group_element false k ts g (merge_groups es k ts w.1 f)
part_element (Paren e) k ts n w g f = group_element false k ts g (parens_groups e k ts w f)
part_element (Block b) k ts n w g f = group_element false k ts g (block_groups b k ts w f)
part_element (Field x names) k ts n w g f = base_element x (name_signs names k) ts w.0 w.2 (name_arrows names k w.1) f
part_element (Strand ps) k ts n w g f = elim n [ ]
part_element (Nothing place) k ts n w g f = elim n [ ]

pub parts_arrows : (ps : Parts) (k : List Sign) → WellParts ps → Arrows false k → Arrows false (parts_more ps k)
parts_arrows no_parts k w g = g
parts_arrows (and_parts x xs) k w g =
    joiner_arrow (part_signs x (parts_more xs k)) false (λ rest f. part_element x (parts_more xs k) rest w.0 w.1 (parts_arrows xs k w.2 g) f)

pub uses_arrows : (us : Uses) (k : List Sign) → WellUses us → Arrows false k → Arrows false (uses_signs us k)
uses_arrows no_uses k w g = g
uses_arrows (and_uses (One m) us) k w g = part_arrows m (uses_signs us k) w.0
uses_arrows (and_uses (Two m x) us) k w g = part_arrows m (part_signs x (uses_signs us k)) w.0.0

pub derived_arrows : (d : Derived) (k : List Sign) → WellDerived d → Arrows false (derived_signs d k)
derived_arrows (derived x us) k w = part_arrows x (uses_signs us k) w.0

pub deriveds_arrows : (ds : Deriveds) (k : List Sign) → WellDeriveds ds → Arrows false k → Arrows false (deriveds_signs ds k)
deriveds_arrows no_deriveds k w g = g
deriveds_arrows (and_deriveds d ds) k w g = derived_arrows d (deriveds_signs ds k) w.0
