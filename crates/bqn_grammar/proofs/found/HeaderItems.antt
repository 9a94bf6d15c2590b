-- The items of the tokens that fit the signs of a header's parts.
use Rattle.std.proofs.Common.{◌≡◌, true, List, [], ◌∷◌, ◌++◌, Option, Some, refl, ap, ◌∙◌, append_assoc}
use Rattle.std.specs.Option.{option_map, option_and_then}
use Rattle.bqn_syntax.specs.declared.token.Token.{Token}
use Rattle.bqn_syntax.specs.declared.sort.Bracket.TheVariants.{Angle}
use Rattle.bqn_syntax.specs.declared.sort.Sort.{Sort}
use Rattle.bqn_syntax.specs.declared.sort.Sort.TheVariants.{Opens, Closes, Separates, Joins, Skips, Stands}
use Rattle.bqn_syntax.specs.grammar.Punctuation as punctuation
use Rattle.bqn_syntax.specs.grammar.Sorts.{sort_of}
use Rattle.bqn_syntax.specs.grammar.Items.{OfList, Item, Standing, Joining, piece_pattern}
use Rattle.bqn_syntax.specs.grammar.Headers.{OpenList, open_list, and_item, end_of_piece, Lists, lists, list_closes, list_goes_on, header_step, header_items}
use Rattle.bqn_syntax.specs.grammar.Spells.{Sign, Exact, Mark, Apart, Gap, Fits, one_more, no_more, mark_at, pattern_signs, listed_signs, listed_more, joined_signs, joined_more}
use Rattle.bqn_syntax.specs.grammar.Well.{WellPattern, WellPatterns, WellJoined}
use Rattle.bqn_syntax.specs.grammar.Trees.{Pattern, Name, Skip, Literal, ListPattern, StrandPattern, Patterns, no_patterns, and_patterns, patterns, Leaf, Nothing}
use Rattle.bqn_grammar.proofs.TreeItems.{part_item, pattern_items, joined_items, joined_more_items}
use Rattle.bqn_grammar.proofs.found.Patterns.{patterns_list, patterns_back}
use Rattle.bqn_grammar.proofs.found.Patterns.{pattern_read, pattern_has_items}
use Rattle.bqn_grammar.proofs.Fitting.{exact_is, mark_is, apart_is, mark_sort, word_stands, literal_stands}

-- Tokens and signs.

-- Steps.

goes_step : (so next : Lists) (q : Sort) (t : Token) (ts rest : List Token) → ts ≡ t ∷ rest → sort_of t.kind ≡ q → header_step q so t ≡ Some next → header_items so ts ≡ header_items next rest
goes_step so next q t ts rest is e s =
    ap (λ (l : List Token). header_items so l) is
    ∙ ap (λ (x : Sort). option_and_then (λ (n : Lists). header_items n rest) (header_step x so t)) e
    ∙ ap (λ (o : Option Lists). option_and_then (λ (n : Lists). header_items n rest) o) s

abbrev pub at_piece : List Pattern → List Item → OpenList
at_piece pieces items = record { pieces = pieces; items = items }

-- with these items more
abbrev pub having : Lists → List Item → Lists
having so is = lists (at_piece so.inner.pieces (so.inner.items ++ is)) so.outer

having_twice : (so : Lists) (is js : List Item) → having (having so is) js ≡ having so (is ++ js)
having_twice so is js = ap (λ (all : List Item). lists (at_piece so.inner.pieces all) so.outer) (append_assoc so.inner.items is js)

-- tokens that fit these signs give these items more, and tokens that fit the rest of the signs
pub record Goes (so : Lists) (is : List Item) (k : List Sign) (ts : List Token) : Type 0 where
  pub rest : List Token
  pub fits : Fits k rest
  pub goes : header_items so ts ≡ header_items (having so is) rest

pub goes_nowhere : (so : Lists) (k : List Sign) (ts : List Token) → Fits k ts → Goes so [] k ts
goes_nowhere so k ts f = record { rest = ts; fits = f; goes = ap (λ (l : List Item). header_items (lists (at_piece so.inner.pieces l) so.outer) ts) (all so.inner.items) }
  where
    all : (is : List Item) → is ≡ is ++ []
    all [] = refl
    all (i ∷ is) = ap (λ (l : List Item). i ∷ l) (all is)

pub goes_on : {so : Lists} {is js : List Item} {a k : List Sign} {ts : List Token} → Goes so is a ts → ((rest : List Token) → Fits a rest → Goes (having so is) js k rest) → Goes so (is ++ js) k ts
goes_on {so = so} {is = is} {js = js} x go =
    let y = go x.rest x.fits in
    record {
      rest = y.rest;
      fits = y.fits;
      goes = x.goes ∙ y.goes ∙ ap (λ (s : Lists). header_items s y.rest) (having_twice so is js);
    }

goes_one : (so : Lists) (q : Sort) (i : Item) (t : Token) (k : List Sign) (ts rest : List Token) → ts ≡ t ∷ rest → sort_of t.kind ≡ q → header_step q so t ≡ Some (having so (i ∷ [])) → Fits k rest → Goes so (i ∷ []) k ts
goes_one so q i t k ts rest is e s f = record { rest = rest; fits = f; goes = goes_step so (having so (i ∷ [])) q t ts rest is e s }

pub goes_exact : (so : Lists) (q : Sort) (i : Item) (t : Token) (k : List Sign) (ts : List Token) → sort_of t.kind ≡ q → header_step q so t ≡ Some (having so (i ∷ [])) → Fits (Exact t ∷ k) ts → Goes so (i ∷ []) k ts
goes_exact so q i t k ts e s f = let x = exact_is f in goes_one so q i t k ts x.0 x.1 e s x.2

pub goes_token : (so : Lists) (t : Token) (k : List Sign) (ts : List Token) → sort_of t.kind ≡ Stands → Fits (Exact t ∷ k) ts → Goes so (part_item (Leaf t) ∷ []) k ts
goes_token so t k ts e f = goes_exact so Stands (part_item (Leaf t)) t k ts e refl f

-- Lists.

gap_goes : (pieces : List Pattern) (around : OpenList) (outer : List OpenList) (k : List Sign) (ts : List Token) → Fits (Gap ∷ k) ts → (rest : List Token) × Fits k rest × (header_items (lists (at_piece pieces []) (around ∷ outer)) ts ≡ header_items (lists (at_piece pieces []) (around ∷ outer)) rest)
gap_goes pieces around outer k ts (no_more f) = (ts, f, refl)
gap_goes pieces around outer k all (one_more {t = t} {ts = ts} e f) =
    let n = gap_goes pieces around outer k ts f in
    let so = lists (at_piece pieces []) (around ∷ outer) in
    (n.0, n.1, goes_step so so Separates t (t ∷ ts) ts refl e refl ∙ n.2)

ended : (pieces : List Pattern) (items : List Item) (q : Pattern) → (items ≡ [] → ⊥) → piece_pattern true items ≡ Some q → end_of_piece pieces items ≡ Some (at_piece (pieces ++ q ∷ []) [])
ended pieces [] q n e = absurd (n refl)
ended pieces (i ∷ is) q n e = ap (λ (o : Option Pattern). option_map (λ (p : Pattern). at_piece (pieces ++ p ∷ []) []) o) e

ends : (pieces : List Pattern) (q : Pattern) → WellPattern true q → end_of_piece pieces (pattern_items q) ≡ Some (at_piece (pieces ++ q ∷ []) [])
ends pieces q w = ended pieces (pattern_items q) q (pattern_has_items true q w) (pattern_read true q w)

abbrev list_item : List Pattern → Item
list_item pieces = Standing (OfList (ListPattern (patterns pieces)))

-- what after the closing bracket
abbrev Closed : Lists → OpenList → List Pattern → List OpenList → List Sign → List Token → Type 0
Closed so around pieces outer k ts = (rest : List Token) × Fits k rest × (header_items so ts ≡ header_items (lists (and_item around (list_item pieces)) outer) rest)

closing : (pieces all : List Pattern) (items : List Item) (around : OpenList) (outer : List OpenList) (k : List Sign) (ts : List Token) → end_of_piece pieces items ≡ Some (at_piece all []) → Fits (Mark punctuation.close_angle ∷ k) ts → Closed (lists (at_piece pieces items) (around ∷ outer)) around all outer k ts
closing pieces all items around outer k ts e f =
    let y = mark_is f in
    (y.1, y.4, goes_step (lists (at_piece pieces items) (around ∷ outer)) (lists (and_item around (list_item all)) outer) (Closes Angle) y.0 ts y.1 y.2 (mark_sort y.0 punctuation.close_angle (Closes Angle) y.3 refl) (ap (λ (o : Option OpenList). list_closes (around ∷ outer) o) e))

separating : (pieces all : List Pattern) (items : List Item) (around : OpenList) (outer : List OpenList) (t : Token) (ts : List Token) → end_of_piece pieces items ≡ Some (at_piece all []) → sort_of t.kind ≡ Separates → header_items (lists (at_piece pieces items) (around ∷ outer)) (t ∷ ts) ≡ header_items (lists (at_piece all []) (around ∷ outer)) ts
separating pieces all items around outer t ts e s =
    goes_step (lists (at_piece pieces items) (around ∷ outer)) (lists (at_piece all []) (around ∷ outer)) Separates t (t ∷ ts) ts refl s (ap (λ (o : Option OpenList). list_goes_on (around ∷ outer) o) e)

closing_empty : (pieces : List Pattern) (around : OpenList) (outer : List OpenList) (k : List Sign) (ts : List Token) → Fits (Gap ∷ Mark punctuation.close_angle ∷ k) ts → Closed (lists (at_piece pieces []) (around ∷ outer)) around pieces outer k ts
closing_empty pieces around outer k ts f =
    let g = gap_goes pieces around outer (Mark punctuation.close_angle ∷ k) ts f in
    let c = closing pieces pieces [] around outer k g.0 refl g.1 in
    (c.0, c.1, g.2 ∙ c.2)

closing_after : (pieces all : List Pattern) (items : List Item) (around : OpenList) (outer : List OpenList) (k : List Sign) (ts : List Token) → end_of_piece pieces items ≡ Some (at_piece all []) → Fits (Gap ∷ Mark punctuation.close_angle ∷ k) ts → Closed (lists (at_piece pieces items) (around ∷ outer)) around all outer k ts
closing_after pieces all items around outer k ts e (no_more f) = closing pieces all items around outer k ts e f
closing_after pieces all items around outer k whole e (one_more {t = t} {ts = ts} s f) =
    let c = closing_empty all around outer k ts f in
    (c.0, c.1, separating pieces all items around outer t ts e s ∙ c.2)

apart_goes : (pieces all : List Pattern) (items : List Item) (around : OpenList) (outer : List OpenList) (k : List Sign) (ts : List Token) → end_of_piece pieces items ≡ Some (at_piece all []) → Fits (Apart ∷ Gap ∷ k) ts → (rest : List Token) × Fits k rest × (header_items (lists (at_piece pieces items) (around ∷ outer)) ts ≡ header_items (lists (at_piece all []) (around ∷ outer)) rest)
apart_goes pieces all items around outer k ts e f =
    let x = apart_is f in
    let g = gap_goes all around outer k x.1 x.4 in
    (g.0, g.1, ap (λ (l : List Token). header_items (lists (at_piece pieces items) (around ∷ outer)) l) x.2 ∙ separating pieces all items around outer x.0 x.1 e x.3 ∙ g.2)

nil_more : (all : List Pattern) → all ≡ all ++ []
nil_more [] = refl
nil_more (x ∷ xs) = ap (λ (y : List Pattern). x ∷ y) (nil_more xs)

closed_as : (so : Lists) (around : OpenList) (a b : List Pattern) (outer : List OpenList) (k : List Sign) (ts : List Token) → a ≡ b → Closed so around a outer k ts → Closed so around b outer k ts
closed_as so around a b outer k ts e c = (c.0, c.1, c.2 ∙ ap (λ (l : List Pattern). header_items (lists (and_item around (list_item l)) outer) c.0) e)

-- Patterns.

mutual
  pub pattern_goes : (q : Pattern) (so : Lists) (k : List Sign) (ts : List Token) → WellPattern true q → Fits (pattern_signs q k) ts → Goes so (pattern_items q) k ts
  pattern_goes (Name t) so k ts w f = goes_token so t k ts (word_stands t.kind w) f
  pattern_goes (Skip place) so k ts w f = goes_exact so Skips (part_item (Nothing place)) (mark_at punctuation.middle_dot place) k ts refl refl f
  pattern_goes (Literal t) so k ts w f = goes_token so t k ts (literal_stands t.kind w.1) f
  pattern_goes (ListPattern qs) so k ts w f =
      let m = mark_is f in
      let g = gap_goes [] so.inner so.outer (listed_signs qs (Gap ∷ Mark punctuation.close_angle ∷ k)) m.1 m.4 in
      let r = listed_goes qs [] so.inner so.outer k g.0 w g.1 in
      record {
        rest = r.0;
        fits = r.1;
        goes = goes_step so (lists open_list (so.inner ∷ so.outer)) (Opens Angle) m.0 ts m.1 m.2 (mark_sort m.0 punctuation.open_angle (Opens Angle) m.3 refl) refl ∙ g.2 ∙ r.2
            ∙ ap (λ (l : Patterns). header_items (having so (Standing (OfList (ListPattern l)) ∷ [])) r.0) (patterns_back qs);
      }
  pattern_goes (StrandPattern qs) so k ts w f = joined_goes qs so k ts w.1 f

  listed_goes : (qs : Patterns) (pieces : List Pattern) (around : OpenList) (outer : List OpenList) (k : List Sign) (ts : List Token) → WellPatterns true qs → Fits (listed_signs qs (Gap ∷ Mark punctuation.close_angle ∷ k)) ts → Closed (lists (at_piece pieces []) (around ∷ outer)) around (pieces ++ patterns_list qs) outer k ts
  listed_goes no_patterns pieces around outer k ts w f = closed_as (lists (at_piece pieces []) (around ∷ outer)) around pieces (pieces ++ []) outer k ts (nil_more pieces) (closing_empty pieces around outer k ts f)
  listed_goes (and_patterns q qs) pieces around outer k ts w f =
      let a = pattern_goes q (lists (at_piece pieces []) (around ∷ outer)) (listed_more qs (Gap ∷ Mark punctuation.close_angle ∷ k)) ts w.0 f in
      let r = listed_more_goes qs pieces (pieces ++ q ∷ []) (pattern_items q) around outer k a.rest w.1 (ends pieces q w.0) a.fits in
      closed_as (lists (at_piece pieces []) (around ∷ outer)) around ((pieces ++ q ∷ []) ++ patterns_list qs) (pieces ++ q ∷ patterns_list qs) outer k ts (append_assoc pieces (q ∷ []) (patterns_list qs)) (r.0, r.1, a.goes ∙ r.2)

  listed_more_goes : (qs : Patterns) (pieces all : List Pattern) (items : List Item) (around : OpenList) (outer : List OpenList) (k : List Sign) (ts : List Token) → WellPatterns true qs → end_of_piece pieces items ≡ Some (at_piece all []) → Fits (listed_more qs (Gap ∷ Mark punctuation.close_angle ∷ k)) ts → Closed (lists (at_piece pieces items) (around ∷ outer)) around (all ++ patterns_list qs) outer k ts
  listed_more_goes no_patterns pieces all items around outer k ts w e f = closed_as (lists (at_piece pieces items) (around ∷ outer)) around all (all ++ []) outer k ts (nil_more all) (closing_after pieces all items around outer k ts e f)
  listed_more_goes (and_patterns q qs) pieces all items around outer k ts w e f =
      let s = apart_goes pieces all items around outer (pattern_signs q (listed_more qs (Gap ∷ Mark punctuation.close_angle ∷ k))) ts e f in
      let a = pattern_goes q (lists (at_piece all []) (around ∷ outer)) (listed_more qs (Gap ∷ Mark punctuation.close_angle ∷ k)) s.0 w.0 s.1 in
      let r = listed_more_goes qs all (all ++ q ∷ []) (pattern_items q) around outer k a.rest w.1 (ends all q w.0) a.fits in
      closed_as (lists (at_piece pieces items) (around ∷ outer)) around ((all ++ q ∷ []) ++ patterns_list qs) (all ++ q ∷ patterns_list qs) outer k ts (append_assoc all (q ∷ []) (patterns_list qs)) (r.0, r.1, s.2 ∙ a.goes ∙ r.2)

  joined_goes : (qs : Patterns) (so : Lists) (k : List Sign) (ts : List Token) → WellJoined true qs → Fits (joined_signs qs k) ts → Goes so (joined_items qs) k ts
  joined_goes no_patterns so k ts w f = goes_nowhere so k ts f
  joined_goes (and_patterns q qs) so k ts w f =
      goes_on (pattern_goes q so (joined_more qs k) ts w.1 f) (λ rest g. joined_more_goes qs (having so (pattern_items q)) k rest w.2 g)

  joined_more_goes : (qs : Patterns) (so : Lists) (k : List Sign) (ts : List Token) → WellJoined true qs → Fits (joined_more qs k) ts → Goes so (joined_more_items qs) k ts
  joined_more_goes no_patterns so k ts w f = goes_nowhere so k ts f
  joined_more_goes (and_patterns q qs) so k ts w f =
      let m = mark_is f in
      goes_on (goes_one so Joins Joining m.0 (pattern_signs q (joined_more qs k)) ts m.1 m.2 (mark_sort m.0 punctuation.joiner Joins m.3 refl) refl m.4) (λ rest g.
      goes_on (pattern_goes q (having so (Joining ∷ [])) (joined_more qs k) rest w.1 g) (λ more i.
      joined_more_goes qs (having (having so (Joining ∷ [])) (pattern_items q)) k more w.2 i))
