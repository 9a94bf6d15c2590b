-- One more item of a piece.
use Rattle.std.proofs.Common.{◌≡◌, ℕ, Bool, List, [], ◌∷◌, ◌++◌, Option, Some, refl, sym, ap, ◌∙◌, subst}
use Rattle.bqn_syntax.specs.declared.token.Token.{Token}
use Rattle.bqn_syntax.specs.declared.sort.Inside.{Inside}
use Rattle.bqn_syntax.specs.declared.sort.Inside.TheVariants as inside
use Rattle.bqn_syntax.specs.grammar.Items.{Item}
use Rattle.bqn_syntax.specs.grammar.Parsing.{OpenBracket, or_first, begun, and_item}
use Rattle.bqn_syntax.specs.grammar.Spells.{Sign, Fits}
use Rattle.bqn_grammar.proofs.TreeItems.{GoodItem, GoodItems, ItemDepth, ItemDepths}
use Rattle.bqn_grammar.proofs.sound.Signs.{item_signs, items_after}
use Rattle.bqn_grammar.proofs.sound.OpenBrackets.{Suffix, suffix_more, CleanItem, Clean, literals_in, next_signs, end_signs, gap_in, Kept, Read, Piece, Begins, At, Outer, fits_eq}
use Rattle.bqn_grammar.proofs.sound.Clean.{clean_front, clean_back}

-- another piece is being read
abbrev pub bracket_with : Option (List Token) → List Item → OpenBracket → OpenBracket
bracket_with first items l = record { inside = l.inside; opened = l.opened; first = first; items = items; expressions = l.expressions; targets = l.targets; header = l.header; statements = l.statements; done = l.done }

pub kept_with : (n : ℕ) (i : Inside) (l : OpenBracket) (first : Option (List Token)) (items : List Item) → Kept n i l → Kept n i (bracket_with first items l)
kept_with n i l first items r = record { expressions = r.expressions; targets = r.targets; header = r.header; statements = r.statements; done = r.done; expressions_depth = r.expressions_depth; targets_depth = r.targets_depth; header_depth = r.header_depth; statements_depth = r.statements_depth; done_depth = r.done_depth }

next_with : (i : Inside) (l : OpenBracket) (first : Option (List Token)) (items : List Item) (k : List Sign) → next_signs i l k ≡ next_signs i (bracket_with first items l) k
next_with inside.Program l first items k = refl
next_with inside.Block l first items k = refl
next_with inside.Parens l first items k = refl
next_with inside.List l first items k = refl
next_with inside.Merge l first items k = refl
next_with inside.Pattern l first items k = refl
next_with inside.HeaderPattern l first items k = refl

end_with : (i : Inside) (l : OpenBracket) (first : Option (List Token)) (items : List Item) (k : List Sign) → end_signs i l k ≡ end_signs i (bracket_with first items l) k
end_with inside.Program l first items k = refl
end_with inside.Block l first items k = refl
end_with inside.Parens l first items k = refl
end_with inside.List l first items k = refl
end_with inside.Merge l first items k = refl
end_with inside.Pattern l first items k = refl
end_with inside.HeaderPattern l first items k = refl

pub read_with : (n : ℕ) (i : Inside) (l : OpenBracket) (start here : List Token) (first : Option (List Token)) (items : List Item) → Read n i l start here → Read n i (bracket_with first items l) start here
read_with n i l start here first items r =
    record {
      kept = kept_with n i l first items r.kept;
      next = λ (k : List Sign) (x : Fits (gap_in i k) here). fits_eq (next_with i l first items k) (r.next k x);
      last = λ (k : List Sign) (x : Fits (gap_in i k) here). fits_eq (end_with i l first items k) (r.last k x);
      room = r.room;
      behind = r.behind;
    }

pub good_more : (literals : Bool) (items : List Item) (item : Item) → GoodItems literals items → GoodItem literals item → GoodItems literals (items ++ item ∷ [])
good_more literals [] item g x = (x, tt)
good_more literals (i ∷ items) item g x = (g.0, good_more literals items item g.1 x)

pub deep_more : (n : ℕ) (items : List Item) (item : Item) → ItemDepths n items → ItemDepth n item → ItemDepths n (items ++ item ∷ [])
deep_more n [] item g x = (x, tt)
deep_more n (i ∷ items) item g x = (g.0, deep_more n items item g.1 x)

begins_more : (items : List Item) (item : Item) (begun : Option (List Token)) (first rest : List Token) → begun ≡ Some first → Begins (items ++ item ∷ []) begun first rest
begins_more [] item begun first rest e = e
begins_more (i ∷ items) item begun first rest e = e

-- this item spells the tokens up to the rest
pub record Spelling (n : ℕ) (literals : Bool) (item : Item) (before rest : List Token) : Type 0 where
  pub good : GoodItem literals item
  pub deep : ItemDepth n item
  pub fits : CleanItem item → (k : List Sign) → Fits k rest → Fits (item_signs item k) before
  pub behind : Suffix before rest

item_more : (n : ℕ) (c d : Bool) (i : Inside) (l : OpenBracket) (start first before rest : List Token) (item : Item) (begun : Option (List Token)) → Piece n c i l start first before → begun ≡ Some first → literals_in i c ≡ literals_in i d → Spelling n (literals_in i d) item before rest → At n d i (bracket_with begun (l.items ++ item ∷ []) l) start rest
item_more n c d i l start first before rest item begun p b same s =
    record {
      first = first;
      piece = record {
        read = read_with n i l start first begun (l.items ++ item ∷ []) p.read;
        good = good_more (literals_in i d) l.items item (subst (λ (b : Bool). GoodItems b l.items) same p.good) s.good;
        deep = deep_more n l.items item p.deep s.deep;
        spelled = λ (clean : Clean (l.items ++ item ∷ [])) (k : List Sign) (x : Fits k rest). fits_eq (sym (items_after l.items (item ∷ []) k)) (p.spelled (clean_front l.items (item ∷ []) clean) (item_signs item k) (s.fits (clean_back l.items (item ∷ []) clean).0 k x));
        behind = suffix_more first before rest p.behind s.behind;
      };
      begins = begins_more l.items item begun first rest b;
    }

-- a piece has begun
first_begun : (items : List Item) (begun : Option (List Token)) (first rest : List Token) → Begins items begun first rest → or_first begun rest ≡ Some first
first_begun [] begun first rest b = ap (λ (f : Option (List Token)). or_first f rest) b.0 ∙ ap (λ (ts : List Token). Some ts) (sym b.1)
first_begun (i ∷ items) begun first rest b = ap (λ (f : Option (List Token)). or_first f rest) b

pub taken_only : (n : ℕ) (c d : Bool) (i : Inside) (l : OpenBracket) (start before rest : List Token) (item : Item) → At n c i l start before → literals_in i c ≡ literals_in i d → Spelling n (literals_in i d) item before rest → At n d i (and_item item (begun before l)) start rest
taken_only n c d i l start before rest item at same s = item_more n c d i l start at.first before rest item (or_first l.first before) at.piece (first_begun l.items l.first at.first before at.begins) same s

pub handed_only : (n : ℕ) (c : Bool) (i : Inside) (l : OpenBracket) (start before rest : List Token) (item : Item) → Outer n c i l start before → Spelling n (literals_in i c) item before rest → At n c i (and_item item l) start rest
handed_only n c i l start before rest item at s = item_more n c c i l start at.first before rest item l.first at.piece at.begins refl s

-- the bracket around another
pub outer_only : (n : ℕ) (c : Bool) (i : Inside) (l : OpenBracket) (start before : List Token) → At n c i l start before → Outer n c i (begun before l) start before
outer_only n c i l start before at =
    record {
      first = at.first;
      piece = record {
        read = read_with n i l start at.first (or_first l.first before) l.items at.piece.read;
        good = at.piece.good;
        deep = at.piece.deep;
        spelled = at.piece.spelled;
        behind = at.piece.behind;
      };
      begins = first_begun l.items l.first at.first before at.begins;
    }
