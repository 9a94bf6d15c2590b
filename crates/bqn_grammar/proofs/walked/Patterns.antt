-- The walk over the tokens of patterns.
use Rattle.std.proofs.Common.{◌≡◌, ◌≤◌, ◌+◌, ℕ, Bool, true, false, List, [], ◌∷◌, ◌++◌, length, Option, Some, None, Ok, arith, refl, sym, ap, ◌∙◌, subst, append_assoc}
use Rattle.std.proofs.Math.Nat.{le-max_left, le-max_right}
use Rattle.std.specs.Prelude.{if◌then◌else◌}
use Rattle.bqn_base.specs.declared.place.Place.{Place}
use Rattle.bqn_syntax.specs.declared.token.Token.{Token}
use Rattle.bqn_syntax.specs.declared.sort.Bracket.{Bracket}
use Rattle.bqn_syntax.specs.declared.sort.Bracket.TheVariants.{Angle}
use Rattle.bqn_syntax.specs.declared.sort.Sort.TheVariants.{Opens, Closes, Separates, Joins, Ends, Heads, Asks, Skips, Stands}
use Rattle.bqn_syntax.specs.declared.sort.Inside.{Inside}
use Rattle.bqn_syntax.specs.declared.sort.Inside.TheVariants as inside
use Rattle.bqn_syntax.specs.grammar.Punctuation as punctuation
use Rattle.bqn_syntax.specs.grammar.Sorts.{punct_sort}
use Rattle.bqn_syntax.specs.grammar.Looks.{Ahead, Looks, behind_group}
use Rattle.bqn_syntax.specs.grammar.Items.{Element, OfList, Item, Standing, Joining, piece_pattern}
use Rattle.bqn_syntax.specs.grammar.Parsing.{OpenBracket, OpenBrackets, open_brackets, fresh, or_first, and_item, and_target, well, judged, ended_by, list_inside, is_first_piece, inside_of, closes, whole, walk}
use Rattle.bqn_syntax.specs.grammar.Spells.{Sign, Mark, Apart, Gap, Fits, apart, one_more, no_more, mark_at, pattern_signs, listed_signs, listed_more, joined_signs, joined_more}
use Rattle.bqn_syntax.specs.grammar.Well.{WellPattern, WellPatterns, WellJoined, pattern_depth, patterns_depth}
use Rattle.bqn_syntax.specs.grammar.Trees.{Pattern, Name, Skip, Literal, ListPattern, StrandPattern, Patterns, no_patterns, and_patterns, patterns, Leaf, Nothing, BodyTree}
use Rattle.bqn_grammar.proofs.TreeItems.{part_item, pattern_items, joined_items, joined_more_items}
use Rattle.bqn_grammar.proofs.found.Patterns.{pattern_read, pattern_has_items}
use Rattle.bqn_grammar.proofs.walked.Looks.{mark_is, mark_sort, word_stands, literal_stands, behind_opening, list_crosses, joined_more_passes}
use Rattle.bqn_grammar.proofs.walked.Arrows.{Arrows, Colons, other_arrows, apart_arrows, gap_arrows, joined_arrows, looks_at}
use Rattle.bqn_grammar.proofs.walked.Steps.{having, clean, Arrives, nothing_more, and_then, take_exact, take_mark, Many, gap_walks, Completes, apart_walks, Makes, close_after, close_empty, open_step, group_arrives}
use Rattle.bqn_grammar.proofs.found.Patterns.{patterns_list, patterns_back}

-- where a body of a block begins, after these bodies
abbrev pub body_start : Place → List BodyTree → OpenBracket
body_start place so_far = record { inside = inside.Block; opened = place; first = None; items = []; expressions = []; targets = []; header = None; statements = []; done = so_far }

-- Colons.

pub closing_colons : (b : Bracket) (c : ℕ) (k : List Sign) → punct_sort c ≡ Closes b → Colons false (Mark c ∷ k)
closing_colons b c k p ts f = let m = mark_is f in ap (λ (l : Looks). l.here.colon) (looks_at (Closes b) m.0 ts m.1 m.2 (mark_sort m.0 c (Closes b) m.3 p))

pub ends_colons : (k : List Sign) → Colons false (Mark punctuation.semicolon ∷ k)
ends_colons k ts f = let m = mark_is f in ap (λ (l : Looks). l.here.colon) (looks_at Ends m.0 ts m.1 m.2 (mark_sort m.0 punctuation.semicolon Ends m.3 refl))

pub asks_colons : (k : List Sign) → Colons false (Mark punctuation.question_mark ∷ k)
asks_colons k ts f = let m = mark_is f in ap (λ (l : Looks). l.here.colon) (looks_at Asks m.0 ts m.1 m.2 (mark_sort m.0 punctuation.question_mark Asks m.3 refl))

pub heads_colons : (k : List Sign) → Colons true (Mark punctuation.colon ∷ k)
heads_colons k ts f = let m = mark_is f in ap (λ (l : Looks). l.here.colon) (looks_at Heads m.0 ts m.1 m.2 (mark_sort m.0 punctuation.colon Heads m.3 refl))

pub apart_colons : (k : List Sign) → Colons false (Apart ∷ k)
apart_colons k all (apart {t = t} {ts = ts} e f) = ap (λ (l : Looks). l.here.colon) (looks_at Separates t (t ∷ ts) ts refl e)

pub gap_colons : (k : List Sign) → Colons false k → Colons false (Gap ∷ k)
gap_colons k g all (one_more {t = t} {ts = ts} e f) = ap (λ (l : Looks). l.here.colon) (looks_at Separates t (t ∷ ts) ts refl e)
gap_colons k g ts (no_more f) = g ts f

pub closed_gap_colons : (b : Bracket) (c : ℕ) (k : List Sign) → punct_sort c ≡ Closes b → Colons false (Gap ∷ Mark c ∷ k)
closed_gap_colons b c k p = gap_colons (Mark c ∷ k) (closing_colons b c k p)

pub closed_gap_arrows : (b : Bracket) (c : ℕ) (k : List Sign) → punct_sort c ≡ Closes b → Arrows false (Gap ∷ Mark c ∷ k)
closed_gap_arrows b c k p = gap_arrows (Mark c ∷ k) (other_arrows (Closes b) c k p tt)

pub joined_colons : (literals c : Bool) (qs : Patterns) (k : List Sign) → WellJoined literals qs → Colons c k → Colons c (joined_more qs k)
joined_colons literals c qs k w g ts f = let p = joined_more_passes literals qs k ts w f in p.colon ∙ g p.rest p.fits

-- Lists that are patterns.

abbrev pub IsPatternInside : Inside → Type 0
IsPatternInside inside.Pattern = Unit {0}
IsPatternInside inside.HeaderPattern = Unit {0}
IsPatternInside _ = ⊥

abbrev pub literals_in : Inside → Bool
literals_in inside.HeaderPattern = true
literals_in _ = false

many_patterns : (j : Inside) → IsPatternInside j → Many j
many_patterns inside.Pattern p = tt
many_patterns inside.HeaderPattern p = tt
many_patterns inside.Program p = tt
many_patterns inside.List p = tt
many_patterns inside.Merge p = tt
many_patterns inside.Block p = tt
many_patterns inside.Parens p = elim p [ ]

closes_patterns : (j : Inside) → IsPatternInside j → closes Angle j ≡ true
closes_patterns inside.Pattern p = refl
closes_patterns inside.HeaderPattern p = refl
closes_patterns inside.Program p = elim p [ ]
closes_patterns inside.Parens p = elim p [ ]
closes_patterns inside.List p = elim p [ ]
closes_patterns inside.Merge p = elim p [ ]
closes_patterns inside.Block p = elim p [ ]

-- what a list stands in, where this stands ahead of it
abbrev pub Chooses : OpenBracket → Bool → Bool → Inside → Type 0
Chooses l b c j = (a : Ahead) → a.arrow ≡ b → a.colon ≡ c → inside_of Angle a l ≡ j

nested_chooses : (j : Inside) (h : Bool) (a : Ahead) → IsPatternInside j → a.arrow ≡ false → list_inside a j h ≡ j
nested_chooses inside.Pattern h a p e = refl
nested_chooses inside.HeaderPattern h a p e = go a.arrow e
  where
    go : (b : Bool) → b ≡ false → (if b then inside.Pattern else inside.HeaderPattern) ≡ inside.HeaderPattern
    go false e = refl
    go true e = absurd (cc)
nested_chooses inside.Program h a p e = elim p [ ]
nested_chooses inside.Parens h a p e = elim p [ ]
nested_chooses inside.List h a p e = elim p [ ]
nested_chooses inside.Merge h a p e = elim p [ ]
nested_chooses inside.Block h a p e = elim p [ ]

inner_chooses : (l : OpenBracket) (j : Inside) → l.inside ≡ j → IsPatternInside j → Chooses (clean l) false false j
inner_chooses l j e p a x y = ap (λ (i : Inside). list_inside a i (is_first_piece l.header l.statements)) e ∙ nested_chooses j (is_first_piece l.header l.statements) a p x

pub ended_some : (is : List Item) (place : Place) (l : OpenBracket) → (is ≡ [] → ⊥) → ended_by is place l ≡ judged l.inside place l
ended_some [] place l n = absurd (n refl)
ended_some (i ∷ is) place l n = refl

-- the open bracket with all these patterns
abbrev pub targeting : OpenBracket → Patterns → OpenBracket
targeting l no_patterns = clean l
targeting l (and_patterns q qs) = targeting (and_target q l) qs

targeting_inside : (l : OpenBracket) (qs : Patterns) → (targeting l qs).inside ≡ l.inside
targeting_inside l no_patterns = refl
targeting_inside l (and_patterns q qs) = targeting_inside (and_target q l) qs

targeting_targets : (l : OpenBracket) (qs : Patterns) → (targeting l qs).targets ≡ l.targets ++ patterns_list qs
targeting_targets l no_patterns = nil l.targets
  where
    nil : (all : List Pattern) → all ≡ all ++ []
    nil [] = refl
    nil (x ∷ xs) = ap (λ (y : List Pattern). x ∷ y) (nil xs)
targeting_targets l (and_patterns q qs) = targeting_targets (and_target q l) qs ∙ append_assoc l.targets (q ∷ []) (patterns_list qs)

whole_patterns : (j : Inside) (place : Place) (l : OpenBracket) → IsPatternInside j → whole j place l ≡ Ok (OfList (ListPattern (patterns l.targets)))
whole_patterns inside.Pattern place l p = refl
whole_patterns inside.HeaderPattern place l p = refl
whole_patterns inside.Program place l p = elim p [ ]
whole_patterns inside.Parens place l p = elim p [ ]
whole_patterns inside.List place l p = elim p [ ]
whole_patterns inside.Merge place l p = elim p [ ]
whole_patterns inside.Block place l p = elim p [ ]

pub makes_patterns : (j : Inside) (place : Place) (qs : Patterns) → IsPatternInside j → Makes (targeting (fresh j place) qs) (OfList (ListPattern qs))
makes_patterns j place qs p at =
    let l = targeting (fresh j place) qs in
    ap (λ (i : Inside). whole i at l) (targeting_inside (fresh j place) qs)
    ∙ whole_patterns j at l p
    ∙ ap (λ (all : List Pattern). Ok (OfList (ListPattern (patterns all)))) (targeting_targets (fresh j place) qs)
    ∙ ap (λ (all : Patterns). Ok (OfList (ListPattern all))) (patterns_back qs)

judged_pattern : (j : Inside) (place : Place) (l : OpenBracket) (q : Pattern) → IsPatternInside j → piece_pattern (literals_in j) l.items ≡ Some q → judged j place l ≡ Ok (and_target q l)
judged_pattern inside.Pattern place l q p e = ap (λ (o : Option Pattern). well place and_target o l) e
judged_pattern inside.HeaderPattern place l q p e = ap (λ (o : Option Pattern). well place and_target o l) e
judged_pattern inside.Program place l q p e = elim p [ ]
judged_pattern inside.Parens place l q p e = elim p [ ]
judged_pattern inside.List place l q p e = elim p [ ]
judged_pattern inside.Merge place l q p e = elim p [ ]
judged_pattern inside.Block place l q p e = elim p [ ]

completes_pattern : (l : OpenBracket) (j : Inside) (q : Pattern) → l.inside ≡ j → IsPatternInside j → WellPattern (literals_in j) q → Completes l (pattern_items q) (clean (and_target q l))
completes_pattern l j q e p w place f =
    ended_some (pattern_items q) place (having (clean l) (pattern_items q) f) (pattern_has_items (literals_in j) q w)
    ∙ ap (λ (i : Inside). judged i place (having (clean l) (pattern_items q) f)) e
    ∙ judged_pattern j place (having (clean l) (pattern_items q) f) q p (pattern_read (literals_in j) q w)

more_arrows : (qs : Patterns) (k : List Sign) → Arrows false (listed_more qs (Gap ∷ Mark punctuation.close_angle ∷ k))
more_arrows no_patterns k = closed_gap_arrows Angle punctuation.close_angle k refl
more_arrows (and_patterns q qs) k = apart_arrows (Gap ∷ pattern_signs q (listed_more qs (Gap ∷ Mark punctuation.close_angle ∷ k)))

more_colons : (qs : Patterns) (k : List Sign) → Colons false (listed_more qs (Gap ∷ Mark punctuation.close_angle ∷ k))
more_colons no_patterns k = closed_gap_colons Angle punctuation.close_angle k refl
more_colons (and_patterns q qs) k = apart_colons (Gap ∷ pattern_signs q (listed_more qs (Gap ∷ Mark punctuation.close_angle ∷ k)))

mutual
  pub pattern_arrives : (q : Pattern) (j : Inside) (b c : Bool) (so : OpenBrackets) (k : List Sign) (ts : List Token) → WellPattern (literals_in j) q → IsPatternInside j → Chooses so.inner b c j → length so.outer + pattern_depth q ≤ 128 → Arrows b k → Colons c k → Fits (pattern_signs q k) ts → Arrives so (pattern_items q) k ts
  pattern_arrives (Name t) j b c so k ts w p h d x y f = take_exact so Stands (part_item (Leaf t)) t k ts (word_stands t.kind w) (λ a rest. refl) f
  pattern_arrives (Skip place) j b c so k ts w p h d x y f = take_exact so Skips (part_item (Nothing place)) (mark_at punctuation.middle_dot place) k ts refl (λ a rest. refl) f
  pattern_arrives (Literal t) j b c so k ts w p h d x y f = take_exact so Stands (part_item (Leaf t)) t k ts (literal_stands t.kind w.1) (λ a rest. refl) f
  pattern_arrives (ListPattern qs) j b c so k ts w p h d x y f =
      let m = mark_is f in
      let n = behind_opening Angle punctuation.close_angle k m.1 refl (list_crosses (literals_in j) qs k m.1 w m.4) in
      let o = open_step Angle so m.0 ts m.1 j m.2 (mark_sort m.0 punctuation.open_angle (Opens Angle) m.3 refl) (omega arith) (h (behind_group m.1) (ap (λ (a : Ahead). a.arrow) n.2 ∙ x n.0 n.1) (ap (λ (a : Ahead). a.colon) n.2 ∙ y n.0 n.1)) in
      let around = having so.inner [] (or_first so.inner.first ts) in
      let g = gap_walks (fresh j m.0.place) (around ∷ so.outer) (listed_signs qs (Gap ∷ Mark punctuation.close_angle ∷ k)) m.1 (many_patterns j p) m.4 in
      let r = listed_arrives qs j (fresh j m.0.place) around (OfList (ListPattern qs)) so.outer k g.0 refl w p (omega arith) (makes_patterns j m.0.place qs p) g.1 in
      group_arrives so (OfList (ListPattern qs)) k ts r.0 (open_brackets (clean (fresh j m.0.place)) (around ∷ so.outer)) m.1 o (g.2 ∙ r.2) r.1
  pattern_arrives (StrandPattern qs) j b c so k ts w p h d x y f = joined_arrives qs j b c so k ts w.1 p h d x y f

  listed_arrives : (qs : Patterns) (j : Inside) (l around : OpenBracket) (x : Element) (outer : List OpenBracket) (k : List Sign) (ts : List Token) → l.inside ≡ j → WellPatterns (literals_in j) qs → IsPatternInside j → length outer + (1 + patterns_depth qs) ≤ 128 → Makes (targeting l qs) x → Fits (listed_signs qs (Gap ∷ Mark punctuation.close_angle ∷ k)) ts → (rest : List Token) × Fits k rest × (walk (open_brackets (clean l) (around ∷ outer)) ts ≡ walk (open_brackets (and_item (Standing x) around) outer) rest)
  listed_arrives no_patterns j l around x outer k ts e w p d m f = close_empty Angle punctuation.close_angle l around x outer k ts refl (ap (λ (i : Inside). closes Angle i) e ∙ closes_patterns j p) (subst (λ (i : Inside). Many i) (sym e) (many_patterns j p)) m f
  listed_arrives (and_patterns q qs) j l around x outer k ts e w p d m f =
      let a = pattern_arrives q j false false (open_brackets (clean l) (around ∷ outer)) (listed_more qs (Gap ∷ Mark punctuation.close_angle ∷ k)) ts w.0 p (inner_chooses l j e p) (omega (arith, le-max_left (pattern_depth q) (patterns_depth qs))) (more_arrows qs k) (more_colons qs k) f in
      let r = listed_more_arrives qs j l (and_target q l) around x (pattern_items q) a.first outer k a.rest e e w.1 p (omega (arith, le-max_right (pattern_depth q) (patterns_depth qs))) (completes_pattern l j q e p w.0) m a.fits in
      (r.0, r.1, a.walks ∙ r.2)

  listed_more_arrives : (qs : Patterns) (j : Inside) (l next around : OpenBracket) (x : Element) (is : List Item) (first : Option (List Token)) (outer : List OpenBracket) (k : List Sign) (ts : List Token) → l.inside ≡ j → next.inside ≡ j → WellPatterns (literals_in j) qs → IsPatternInside j → length outer + (1 + patterns_depth qs) ≤ 128 → Completes l is (clean next) → Makes (targeting next qs) x → Fits (listed_more qs (Gap ∷ Mark punctuation.close_angle ∷ k)) ts → (rest : List Token) × Fits k rest × (walk (open_brackets (having (clean l) is first) (around ∷ outer)) ts ≡ walk (open_brackets (and_item (Standing x) around) outer) rest)
  listed_more_arrives no_patterns j l next around x is first outer k ts e n w p d c m f = close_after Angle punctuation.close_angle l next around x is first outer k ts refl (ap (λ (i : Inside). closes Angle i) e ∙ closes_patterns j p) (ap (λ (i : Inside). closes Angle i) n ∙ closes_patterns j p) (subst (λ (i : Inside). Many i) (sym e) (many_patterns j p)) (subst (λ (i : Inside). Many i) (sym n) (many_patterns j p)) c m f
  listed_more_arrives (and_patterns q qs) j l next around x is first outer k ts e n w p d c m f =
      let s = apart_walks l next is first (around ∷ outer) (pattern_signs q (listed_more qs (Gap ∷ Mark punctuation.close_angle ∷ k))) ts (subst (λ (i : Inside). Many i) (sym e) (many_patterns j p)) (subst (λ (i : Inside). Many i) (sym n) (many_patterns j p)) c f in
      let a = pattern_arrives q j false false (open_brackets (clean next) (around ∷ outer)) (listed_more qs (Gap ∷ Mark punctuation.close_angle ∷ k)) s.0 w.0 p (inner_chooses next j n p) (omega (arith, le-max_left (pattern_depth q) (patterns_depth qs))) (more_arrows qs k) (more_colons qs k) s.1 in
      let r = listed_more_arrives qs j next (and_target q next) around x (pattern_items q) a.first outer k a.rest n n w.1 p (omega (arith, le-max_right (pattern_depth q) (patterns_depth qs))) (completes_pattern next j q n p w.0) m a.fits in
      (r.0, r.1, s.2 ∙ a.walks ∙ r.2)

  joined_arrives : (qs : Patterns) (j : Inside) (b c : Bool) (so : OpenBrackets) (k : List Sign) (ts : List Token) → WellJoined (literals_in j) qs → IsPatternInside j → Chooses so.inner b c j → length so.outer + patterns_depth qs ≤ 128 → Arrows b k → Colons c k → Fits (joined_signs qs k) ts → Arrives so (joined_items qs) k ts
  joined_arrives no_patterns j b c so k ts w p h d x y f = nothing_more so k ts f
  joined_arrives (and_patterns q qs) j b c so k ts w p h d x y f =
      and_then (pattern_arrives q j b c so (joined_more qs k) ts w.1 p h (omega (arith, le-max_left (pattern_depth q) (patterns_depth qs))) (joined_arrows (literals_in j) b qs k w.2 x) (joined_colons (literals_in j) c qs k w.2 y) f)
      (λ first rest g. joined_more_arrives qs j b c (open_brackets (having so.inner (pattern_items q) first) so.outer) k rest w.2 p h (omega (arith, le-max_right (pattern_depth q) (patterns_depth qs))) x y g)

  joined_more_arrives : (qs : Patterns) (j : Inside) (b c : Bool) (so : OpenBrackets) (k : List Sign) (ts : List Token) → WellJoined (literals_in j) qs → IsPatternInside j → Chooses so.inner b c j → length so.outer + patterns_depth qs ≤ 128 → Arrows b k → Colons c k → Fits (joined_more qs k) ts → Arrives so (joined_more_items qs) k ts
  joined_more_arrives no_patterns j b c so k ts w p h d x y f = nothing_more so k ts f
  joined_more_arrives (and_patterns q qs) j b c so k ts w p h d x y f =
      and_then (take_mark so Joins Joining punctuation.joiner (pattern_signs q (joined_more qs k)) ts refl (λ a t rest. refl) f) (λ first rest g.
      and_then (pattern_arrives q j b c (open_brackets (having so.inner (Joining ∷ []) first) so.outer) (joined_more qs k) rest w.1 p h (omega (arith, le-max_left (pattern_depth q) (patterns_depth qs))) (joined_arrows (literals_in j) b qs k w.2 x) (joined_colons (literals_in j) c qs k w.2 y) g) (λ second more i.
      joined_more_arrives qs j b c (open_brackets (having (having so.inner (Joining ∷ []) first) (pattern_items q) second) so.outer) k more w.2 p h (omega (arith, le-max_right (pattern_depth q) (patterns_depth qs))) x y i))
