-- What is read as a header is well, and the tokens spell it.
use Rattle.std.proofs.Common.{◌≡◌, ◌≤◌, ℕ, zero, suc, true, List, [], ◌∷◌, ◌++◌, Option, Some, None, refl, sym, ap, ◌∙◌, subst, arith}
use Rattle.std.specs.Option.{option_and_then}
use Rattle.bqn_syntax.specs.declared.token.Token.{Token}
use Rattle.bqn_syntax.specs.declared.token.Kind.TheVariants as kind
use Rattle.bqn_syntax.specs.declared.sort.Bracket.TheVariants.{Angle}
use Rattle.bqn_syntax.specs.declared.sort.Sort.{Sort}
use Rattle.bqn_syntax.specs.declared.sort.Sort.TheVariants.{Opens, Closes, Separates, Joins, Skips, Stands}
use Rattle.bqn_syntax.specs.grammar.Punctuation as punctuation
use Rattle.bqn_syntax.specs.grammar.Sorts.{sort_of}
use Rattle.bqn_syntax.specs.grammar.Items.{OfPart, OfList, Item, Standing, Joining, groups, piece_pattern}
use Rattle.bqn_syntax.specs.grammar.Headers.{OpenList, open_list, and_item, end_of_piece, Lists, lists, list_closes, list_goes_on, header_step, outermost, header_items, header_form, header_in}
use Rattle.bqn_syntax.specs.grammar.Spells.{Sign, Exact, Mark, Apart, Gap, Fits, exact, mark, apart, one_more, no_more, mark_at, pattern_signs, listed_signs}
use Rattle.bqn_syntax.specs.grammar.Well.{WellPatterns, patterns_depth}
use Rattle.bqn_syntax.specs.grammar.Trees.{Pattern, ListPattern, patterns, Header, Leaf, Nothing}
use Rattle.bqn_grammar.proofs.TreeItems.{GoodItem, GoodItems, ItemDepth, ItemDepths}
use Rattle.bqn_grammar.proofs.sound.Signs.{item_signs, items_signs, items_after, pattern_spelled}
use Rattle.bqn_grammar.proofs.sound.Sorts.{mark_of, token_at}
use Rattle.bqn_grammar.proofs.sound.OpenBrackets.{Pieces, HeaderOnly, Within, WithinAt, nexts, by_apart, fits_eq}
use Rattle.bqn_grammar.proofs.sound.MorePieces.{well_patterns, patterns_deep, nexts_more, listed_last}
use Rattle.bqn_grammar.proofs.sound.Clean.{and_then_some, map_some}
use Rattle.bqn_grammar.proofs.sound.Items.{good_more, deep_more}
use Rattle.bqn_grammar.proofs.sound.Groups.{suc_le}
use Rattle.bqn_grammar.proofs.sound.Steps.{zero_le}
use Rattle.bqn_grammar.proofs.sound.Forms.{grouped, good_groups, header_form_only}

-- an open list: its pieces up to the first token of the one that is being read, and the items of that one up to the rest
pub record Listed (n : ℕ) (l : OpenList) (start first rest : List Token) : Type 0 where
  pub well : WellPatterns true (patterns l.pieces)
  pub depth : patterns_depth (patterns l.pieces) ≤ n
  pub next : (k : List Sign) → Fits (Gap ∷ k) first → Fits (Gap ∷ nexts pattern_signs by_apart l.pieces k) start
  pub last : (k : List Sign) → Fits (Gap ∷ k) first → Fits (Gap ∷ listed_signs (patterns l.pieces) (Gap ∷ k)) start
  pub good : GoodItems true l.items
  pub deep : ItemDepths n l.items
  pub spelled : (k : List Sign) → Fits k rest → Fits (items_signs l.items k) first

listed_item : (n : ℕ) (l : OpenList) (start first before rest : List Token) (item : Item) → Listed n l start first before → GoodItem true item → ItemDepth n item → ((k : List Sign) → Fits k rest → Fits (item_signs item k) before) → Listed n (and_item l item) start first rest
listed_item n l start first before rest item r g d f =
    record {
      well = r.well;
      depth = r.depth;
      next = r.next;
      last = r.last;
      good = good_more true l.items item r.good g;
      deep = deep_more n l.items item r.deep d;
      spelled = λ (k : List Sign) (x : Fits k rest). fits_eq (sym (items_after l.items (item ∷ []) k)) (r.spelled (item_signs item k) (f k x));
    }

-- its piece has ended
pub record PieceEnded (n : ℕ) (l : OpenList) (start rest : List Token) : Type 0 where
  pub well : WellPatterns true (patterns l.pieces)
  pub depth : patterns_depth (patterns l.pieces) ≤ n
  pub last : (k : List Sign) → Fits (Gap ∷ k) rest → Fits (Gap ∷ listed_signs (patterns l.pieces) (Gap ∷ k)) start
  pub onward : (t : Token) (more : List Token) → rest ≡ t ∷ more → sort_of t.kind ≡ Separates → (k : List Sign) → Fits (Gap ∷ k) more → Fits (Gap ∷ nexts pattern_signs by_apart l.pieces k) start
  pub bare : l.items ≡ []

abbrev list_of : List Pattern → OpenList
list_of pieces = record { pieces = pieces; items = [] }

abbrev list_and : List Pattern → Pattern → OpenList
list_and pieces q = list_of (pieces ++ q ∷ [])

no_piece_ended : (n : ℕ) (l : OpenList) (start first rest : List Token) → Listed n l start first rest → l.items ≡ [] → PieceEnded n (list_of l.pieces) start rest
no_piece_ended n l start first rest r e =
    let here : (k : List Sign) → Fits k rest → Fits k first = λ k x. fits_eq (ap (λ (is : List Item). items_signs is k) e) (r.spelled k x) in
    record {
      well = r.well;
      depth = r.depth;
      last = λ (k : List Sign) (x : Fits (Gap ∷ k) rest). r.last k (here (Gap ∷ k) x);
      onward = λ (t : Token) (more : List Token) (e : rest ≡ t ∷ more) (s : sort_of t.kind ≡ Separates) (k : List Sign) (x : Fits (Gap ∷ k) more). r.next k (here (Gap ∷ k) (subst (λ (ts : List Token). Fits (Gap ∷ k) ts) (sym e) (one_more s x)));
      bare = refl;
    }

some_piece_ended : (ps : Pieces) (n : ℕ) (l : OpenList) (q : Pattern) (start first rest : List Token) → Listed n l start first rest → piece_pattern true l.items ≡ Some q → PieceEnded n (list_and l.pieces q) start rest
some_piece_ended ps n l q start first rest r h =
    let w = ps.pattern_only true l.items q r.good h in
    let d = ps.pattern_depths n q (subst (λ (is : List Item). ItemDepths n is) (sym w.0) r.deep) in
    let here : (k : List Sign) → Fits k rest → Fits (pattern_signs q k) first = λ k x. fits_eq (ap (λ (is : List Item). items_signs is k) (sym w.0) ∙ pattern_spelled q k) (r.spelled k x) in
    record {
      well = well_patterns true l.pieces q r.well w.1;
      depth = patterns_deep n l.pieces q r.depth d;
      last = λ (k : List Sign) (x : Fits (Gap ∷ k) rest). fits_eq (ap (λ (j : List Sign). Gap ∷ j) (sym (listed_last l.pieces q (Gap ∷ k)))) (r.next (pattern_signs q (Gap ∷ k)) (no_more (here (Gap ∷ k) x)));
      onward = λ (t : Token) (more : List Token) (e : rest ≡ t ∷ more) (s : sort_of t.kind ≡ Separates) (k : List Sign) (x : Fits (Gap ∷ k) more). fits_eq (ap (λ (j : List Sign). Gap ∷ j) (sym (nexts_more pattern_signs by_apart l.pieces q k))) (r.next (pattern_signs q (Apart ∷ Gap ∷ k)) (no_more (here (Apart ∷ Gap ∷ k) (subst (λ (ts : List Token). Fits (Apart ∷ Gap ∷ k) ts) (sym e) (apart s x)))));
      bare = refl;
    }

piece_ended_by : (ps : Pieces) (n : ℕ) (l new : OpenList) (start first rest : List Token) (items : List Item) → l.items ≡ items → Listed n l start first rest → end_of_piece l.pieces items ≡ Some new → PieceEnded n new start rest
piece_ended_by ps n l new start first rest [] e r h =
    let same : list_of l.pieces ≡ new = cc in
    subst (λ (y : OpenList). PieceEnded n y start rest) same (no_piece_ended n l start first rest r e)
piece_ended_by ps n l new start first rest (item ∷ items) e r h =
    let m = map_some (list_and l.pieces) (piece_pattern true (item ∷ items)) new h in
    subst (λ (y : OpenList). PieceEnded n y start rest) m.2 (some_piece_ended ps n l m.0 start first rest r (ap (piece_pattern true) e ∙ m.1))

piece_ended : (ps : Pieces) (n : ℕ) (l new : OpenList) (start first rest : List Token) → Listed n l start first rest → end_of_piece l.pieces l.items ≡ Some new → PieceEnded n new start rest
piece_ended ps n l new start first rest r h = piece_ended_by ps n l new start first rest l.items refl r h

-- The lists around.

pub record Bracketed (n : ℕ) (around : OpenList) (before begun start : List Token) : Type 0 where
  pub bracket : Token
  pub is_bracket : bracket.kind ≡ kind.Punct punctuation.open_angle
  pub listed : Listed (suc n) around before begun (bracket ∷ start)

abbrev pub Enclosed : (all : List Token) (whole n : ℕ) → List OpenList → (start first : List Token) → Type 0
Enclosed all whole n [] start first = (n ≡ whole) × (first ≡ all)
Enclosed all whole n (around ∷ outer) start first = (before : List Token) × (begun : List Token) × Bracketed n around before begun start × Enclosed all whole (suc n) outer before begun

pub record Open (all : List Token) (whole : ℕ) (so : Lists) (rest : List Token) : Type 0 where
  pub room : ℕ
  pub start : List Token
  pub first : List Token
  pub listed : Listed room so.inner start first rest
  pub around : Enclosed all whole room so.outer start first
  pub within : Within rest room

item_step : (all : List Token) (whole n : ℕ) (so next : Lists) (start first : List Token) (t : Token) (rest : List Token) (item : Item) → Listed n so.inner start first (t ∷ rest) → Enclosed all whole n so.outer start first → Within rest n → GoodItem true item → ItemDepth n item → ((k : List Sign) → Fits k rest → Fits (item_signs item k) (t ∷ rest)) → Some (lists (and_item so.inner item) so.outer) ≡ Some next → Open all whole next rest
item_step all whole n so next start first t rest item r a w g d f h =
    let same : lists (and_item so.inner item) so.outer ≡ next = cc in
    subst (λ (y : Lists). Open all whole y rest) same (record { room = n; start = start; first = first; listed = listed_item n so.inner start first (t ∷ rest) rest item r g d f; around = a; within = w })

fresh_listed : (n : ℕ) (rest : List Token) → Listed n open_list rest rest rest
fresh_listed n rest = record { well = tt; depth = omega arith; next = λ (k : List Sign) (x : Fits (Gap ∷ k) rest). x; last = λ (k : List Sign) (x : Fits (Gap ∷ k) rest). no_more x; good = tt; deep = tt; spelled = λ (k : List Sign) (x : Fits k rest). x }

open_step : (all : List Token) (whole n : ℕ) (so next : Lists) (start first : List Token) (t : Token) (rest : List Token) → Listed n so.inner start first (t ∷ rest) → Enclosed all whole n so.outer start first → WithinAt (Opens Angle) (Within rest) n → t.kind ≡ kind.Punct punctuation.open_angle → Some (lists open_list (so.inner ∷ so.outer)) ≡ Some next → Open all whole next rest
open_step all whole zero so next start first t rest r a w c h = elim w [ ]
open_step all whole (suc n) so next start first t rest r a w c h =
    let same : lists open_list (so.inner ∷ so.outer) ≡ next = cc in
    subst (λ (y : Lists). Open all whole y rest) same (record { room = n; start = rest; first = rest; listed = fresh_listed n rest; around = (start, first, record { bracket = t; is_bracket = c; listed = r }, a); within = w })

-- the list around the one whose piece ends
pub record Goes (outer : List OpenList) (r : Option OpenList) : Type 0 where
  pub around : OpenList
  pub more : List OpenList
  pub list : OpenList
  pub outer_is : outer ≡ around ∷ more
  pub found : r ≡ Some list

closes_ok : (outer : List OpenList) (r : Option OpenList) (next : Lists) → list_closes outer r ≡ Some next → (g : Goes outer r) × (lists (and_item g.around (Standing (OfList (ListPattern (patterns g.list.pieces))))) g.more ≡ next)
closes_ok (around ∷ outer) (Some l) next h = (record { around = around; more = outer; list = l; outer_is = refl; found = refl }, (cc))
closes_ok (around ∷ outer) None next h = absurd (cc)
closes_ok [] (Some l) next h = absurd (cc)
closes_ok [] None next h = absurd (cc)

goes_on_ok : (outer : List OpenList) (r : Option OpenList) (next : Lists) → list_goes_on outer r ≡ Some next → (g : Goes outer r) × (lists g.list (g.around ∷ g.more) ≡ next)
goes_on_ok (around ∷ outer) (Some l) next h = (record { around = around; more = outer; list = l; outer_is = refl; found = refl }, (cc))
goes_on_ok (around ∷ outer) None next h = absurd (cc)
goes_on_ok [] (Some l) next h = absurd (cc)
goes_on_ok [] None next h = absurd (cc)

close_step : (ps : Pieces) (all : List Token) (whole n : ℕ) (so next : Lists) (start first : List Token) (t : Token) (rest : List Token) → Listed n so.inner start first (t ∷ rest) → Enclosed all whole n so.outer start first → Within rest (suc n) → t.kind ≡ kind.Punct punctuation.close_angle → list_closes so.outer (end_of_piece so.inner.pieces so.inner.items) ≡ Some next → Open all whole next rest
close_step ps all whole n so next start first t rest r a w c h =
    let m = closes_ok so.outer (end_of_piece so.inner.pieces so.inner.items) next h in
    let g = m.0 in
    let d = piece_ended ps n so.inner g.list start first (t ∷ rest) r g.found in
    let b = subst (λ (outer : List OpenList). Enclosed all whole n outer start first) g.outer_is a in
    let item = Standing (OfList (ListPattern (patterns g.list.pieces))) in
    let fits : (k : List Sign) → Fits k rest → Fits (item_signs item k) (b.2.bracket ∷ start) = λ k x. mark b.2.is_bracket (d.last (Mark punctuation.close_angle ∷ k) (no_more (mark c x))) in
    subst (λ (y : Lists). Open all whole y rest) m.1 (record { room = suc n; start = b.0; first = b.1; listed = listed_item (suc n) g.around b.0 b.1 (b.2.bracket ∷ start) rest item b.2.listed (tt, d.well) (suc_le (patterns_depth (patterns g.list.pieces)) n d.depth) fits; around = b.3; within = w })

waiting_listed : (n : ℕ) (l : OpenList) (start : List Token) (t : Token) (rest : List Token) → PieceEnded n l start (t ∷ rest) → sort_of t.kind ≡ Separates → Listed n l start rest rest
waiting_listed n l start t rest d s =
    record {
      well = d.well;
      depth = d.depth;
      next = λ (k : List Sign) (x : Fits (Gap ∷ k) rest). d.onward t rest refl s k x;
      last = λ (k : List Sign) (x : Fits (Gap ∷ k) rest). d.last k (one_more s x);
      good = subst (λ (is : List Item). GoodItems true is) (sym d.bare) tt;
      deep = subst (λ (is : List Item). ItemDepths n is) (sym d.bare) tt;
      spelled = λ (k : List Sign) (x : Fits k rest). subst (λ (is : List Item). Fits (items_signs is k) rest) (sym d.bare) x;
    }

goes_on_step : (ps : Pieces) (all : List Token) (whole n : ℕ) (so next : Lists) (start first : List Token) (t : Token) (rest : List Token) → Listed n so.inner start first (t ∷ rest) → Enclosed all whole n so.outer start first → Within rest n → sort_of t.kind ≡ Separates → list_goes_on so.outer (end_of_piece so.inner.pieces so.inner.items) ≡ Some next → Open all whole next rest
goes_on_step ps all whole n so next start first t rest r a w s h =
    let m = goes_on_ok so.outer (end_of_piece so.inner.pieces so.inner.items) next h in
    let g = m.0 in
    let d = piece_ended ps n so.inner g.list start first (t ∷ rest) r g.found in
    let b = subst (λ (outer : List OpenList). Enclosed all whole n outer start first) g.outer_is a in
    subst (λ (y : Lists). Open all whole y rest) m.1 (record { room = n; start = start; first = rest; listed = waiting_listed n g.list start t rest d s; around = b; within = w })

header_step_only : (ps : Pieces) (all : List Token) (whole n : ℕ) (s : Sort) (so next : Lists) (start first : List Token) (t : Token) (rest : List Token) → sort_of t.kind ≡ s → Listed n so.inner start first (t ∷ rest) → Enclosed all whole n so.outer start first → WithinAt s (Within rest) n → header_step s so t ≡ Some next → Open all whole next rest
header_step_only ps all whole n Stands so next start first t rest e r a w h = item_step all whole n so next start first t rest (Standing (OfPart (Leaf t))) r a w (tt, e) (zero_le n) (λ (k : List Sign) (x : Fits k rest). exact x) h
header_step_only ps all whole n Skips so next start first t rest e r a w h = item_step all whole n so next start first t rest (Standing (OfPart (Nothing t.place))) r a w (tt, tt) (zero_le n) (λ (k : List Sign) (x : Fits k rest). subst (λ (u : Token). Fits (Exact (mark_at punctuation.middle_dot t.place) ∷ k) (u ∷ rest)) (sym (token_at t punctuation.middle_dot (mark_of t.kind Skips e tt))) (exact x)) h
header_step_only ps all whole n Joins so next start first t rest e r a w h = item_step all whole n so next start first t rest Joining r a w tt tt (λ (k : List Sign) (x : Fits k rest). mark (mark_of t.kind Joins e tt) x) h
header_step_only ps all whole n (Opens Angle) so next start first t rest e r a w h = open_step all whole n so next start first t rest r a w (mark_of t.kind (Opens Angle) e tt) h
header_step_only ps all whole n (Closes Angle) so next start first t rest e r a w h = close_step ps all whole n so next start first t rest r a w (mark_of t.kind (Closes Angle) e tt) h
header_step_only ps all whole n Separates so next start first t rest e r a w h = goes_on_step ps all whole n so next start first t rest r a w e h
header_step_only ps all whole n _ so next start first t rest e r a w h = absurd (cc)

-- the items of a header
pub record HeaderItems (all : List Token) (whole : ℕ) (rest : List Token) (items : List Item) : Type 0 where
  pub good : GoodItems true items
  pub deep : ItemDepths whole items
  pub fits : (k : List Sign) → Fits k rest → Fits (items_signs items k) all

outermost_only : (all : List Token) (whole n : ℕ) (l : OpenList) (outer : List OpenList) (start first rest : List Token) (items : List Item) → Listed n l start first rest → Enclosed all whole n outer start first → outermost l outer ≡ Some items → HeaderItems all whole rest items
outermost_only all whole n l [] start first rest items r a h =
    let same : l.items ≡ items = cc in
    subst (λ (is : List Item). HeaderItems all whole rest is) same (record {
      good = r.good;
      deep = subst (λ (m : ℕ). ItemDepths m l.items) a.0 r.deep;
      fits = λ (k : List Sign) (x : Fits k rest). subst (λ (ts : List Token). Fits (items_signs l.items k) ts) a.1 (r.spelled k x);
    })
outermost_only all whole n l (around ∷ outer) start first rest items r a h = absurd (cc)

header_items_only : (ps : Pieces) (all : List Token) (whole : ℕ) (rest tokens : List Token) (so : Lists) (items : List Item) → Open all whole so (tokens ++ rest) → header_items so tokens ≡ Some items → HeaderItems all whole rest items
header_items_only ps all whole rest [] so items o h = outermost_only all whole o.room so.inner so.outer o.start o.first rest items o.listed o.around h
header_items_only ps all whole rest (t ∷ tokens) so items o h =
    let m = and_then_some (λ (next : Lists). header_items next tokens) (header_step (sort_of t.kind) so t) items h in
    header_items_only ps all whole rest tokens m.0 items (header_step_only ps all whole o.room (sort_of t.kind) so m.0 o.start o.first t (tokens ++ rest) refl o.listed o.around o.within m.1) m.2

pub header_only : (ps : Pieces) (n : ℕ) (tokens rest : List Token) (h : Header) → header_in tokens ≡ Some h → Within (tokens ++ rest) n → HeaderOnly n tokens rest h
header_only ps n tokens rest h e w =
    let all = tokens ++ rest in
    let m = and_then_some header_form (option_and_then groups (header_items (lists open_list []) tokens)) h e in
    let g = and_then_some groups (header_items (lists open_list []) tokens) m.0 m.1 in
    let start : Open all n (lists open_list []) all = record { room = n; start = all; first = all; listed = fresh_listed n all; around = (refl, refl); within = w } in
    let i = header_items_only ps all n rest tokens (lists open_list []) g.0 start g.1 in
    let r = grouped g.0 m.0 g.2 in
    let f = header_form_only ps n m.0 h (good_groups n m.0 r.some (subst (λ (is : List Item). GoodItems true is) r.written i.good) (subst (λ (is : List Item). ItemDepths n is) r.written i.deep)) m.2 in
    record { well = f.well; spelled = λ (k : List Sign) (x : Fits k rest). fits_eq (ap (λ (is : List Item). items_signs is k) r.written ∙ f.spelled k) (i.fits k x); depth = f.depth }
