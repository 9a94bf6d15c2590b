-- One token on: an item, a bracket that opens or closes, a separator.
use Rattle.std.proofs.Common.{◌≡◌, ◌≤◌, ℕ, Bool, false, List, [], ◌∷◌, None, Result, Ok, Err, refl, sym, ap, ◌∙◌, subst, arith}
use Rattle.bqn_base.specs.declared.place.Place.{Place}
use Rattle.bqn_base.specs.declared.refusal.Refusal.{Refusal}
use Rattle.bqn_syntax.specs.declared.token.Token.{Token}
use Rattle.bqn_syntax.specs.declared.tree.Arrow.{Arrow}
use Rattle.bqn_syntax.specs.declared.sort.Sort.TheVariants.{Separates, Draws, Joins, Selects, Skips, Stands}
use Rattle.bqn_syntax.specs.declared.sort.Inside.{Inside}
use Rattle.bqn_syntax.specs.declared.sort.Inside.TheVariants as inside
use Rattle.bqn_syntax.specs.grammar.Punctuation as punctuation
use Rattle.bqn_syntax.specs.grammar.Sorts.{sort_of}
use Rattle.bqn_syntax.specs.grammar.Looks.{Looks}
use Rattle.bqn_syntax.specs.grammar.Items.{OfPart, Item, Standing, Drawn, Joining, Selecting, Wrong}
use Rattle.bqn_syntax.specs.grammar.Parsing.{OpenBracket, OpenBrackets, open_brackets, begun, and_item, go_on, taken, separated, ended}
use Rattle.bqn_syntax.specs.grammar.Spells.{Sign, Exact, Fits, exact, mark, mark_at}
use Rattle.bqn_syntax.specs.grammar.Trees.{Leaf, Nothing}
use Rattle.bqn_grammar.proofs.sound.Signs.{items_signs}
use Rattle.bqn_grammar.proofs.TreeItems.{GoodItems, ItemDepths}
use Rattle.bqn_grammar.proofs.sound.Sorts.{mark_of, token_at}
use Rattle.bqn_grammar.proofs.sound.OpenBrackets.{Pieces, Within, suffix_all, suffix_one, suffix_more, CleanItem, Clean, literals_in, gap_in, Separable, Read, Begins, At, Around, State}
use Rattle.bqn_grammar.proofs.sound.Ends.{more_gap, ended_only}
use Rattle.bqn_grammar.proofs.sound.Items.{Spelling, taken_only}

-- what is known after one more token
pub record Stepped (all : List Token) (l : Looks) (so : OpenBrackets) (rest : List Token) : Type 0 where
  pub room : ℕ
  pub state : State all room l so rest

-- Items.

abbrev pub brackets_ok : OpenBrackets → Result OpenBrackets Refusal
brackets_ok so = Ok so

pub taken_step : (all : List Token) (n : ℕ) (c : Bool) (l : Looks) (so next : OpenBrackets) (start : List Token) (t : Token) (rest : List Token) (item : Item) → At n c so.inner.inside so.inner start (t ∷ rest) → literals_in so.inner.inside c ≡ literals_in so.inner.inside l.here.colon → Around all n l.outer so.inner.inside so.inner.opened so.outer start → Spelling n (literals_in so.inner.inside l.here.colon) item (t ∷ rest) rest → taken item (t ∷ rest) so ≡ Ok next → Stepped all l next rest
taken_step all n c l so next start t rest item at same around s h =
    let e : open_brackets (and_item item (begun (t ∷ rest) so.inner)) so.outer ≡ next = cc in
    subst (λ (y : OpenBrackets). Stepped all l y rest) e (record { room = n; state = record { start = start; at = taken_only n c l.here.colon so.inner.inside so.inner start (t ∷ rest) rest item at same s; around = around } })

pub zero_le : (n : ℕ) → 0 ≤ n
zero_le n = omega arith

pub leaf_spelling : (n : ℕ) (literals : Bool) (t : Token) (rest : List Token) → sort_of t.kind ≡ Stands → Spelling n literals (Standing (OfPart (Leaf t))) (t ∷ rest) rest
leaf_spelling n literals t rest e = record { good = (tt, e); deep = zero_le n; fits = λ (clean : CleanItem (Standing (OfPart (Leaf t)))) (k : List Sign) (x : Fits k rest). exact x; behind = suffix_one t rest }

pub skip_spelling : (n : ℕ) (literals : Bool) (t : Token) (rest : List Token) → sort_of t.kind ≡ Skips → Spelling n literals (Standing (OfPart (Nothing t.place))) (t ∷ rest) rest
skip_spelling n literals t rest e = record { good = (tt, tt); deep = zero_le n; fits = λ (clean : CleanItem (Standing (OfPart (Nothing t.place)))) (k : List Sign) (x : Fits k rest). subst (λ (u : Token). Fits (Exact (mark_at punctuation.middle_dot t.place) ∷ k) (u ∷ rest)) (sym (token_at t punctuation.middle_dot (mark_of t.kind Skips e tt))) (exact x); behind = suffix_one t rest }

pub drawn_spelling : (n : ℕ) (literals : Bool) (a : Arrow) (t : Token) (rest : List Token) → sort_of t.kind ≡ Draws a → Spelling n literals (Drawn a) (t ∷ rest) rest
drawn_spelling n literals a t rest e = record { good = tt; deep = tt; fits = λ (clean : CleanItem (Drawn a)) (k : List Sign) (x : Fits k rest). mark (mark_of t.kind (Draws a) e tt) x; behind = suffix_one t rest }

pub joins_spelling : (n : ℕ) (literals : Bool) (t : Token) (rest : List Token) → sort_of t.kind ≡ Joins → Spelling n literals Joining (t ∷ rest) rest
joins_spelling n literals t rest e = record { good = tt; deep = tt; fits = λ (clean : CleanItem Joining) (k : List Sign) (x : Fits k rest). mark (mark_of t.kind Joins e tt) x; behind = suffix_one t rest }

pub selects_spelling : (n : ℕ) (literals : Bool) (t : Token) (rest : List Token) → sort_of t.kind ≡ Selects → Spelling n literals Selecting (t ∷ rest) rest
selects_spelling n literals t rest e = record { good = tt; deep = tt; fits = λ (clean : CleanItem Selecting) (k : List Sign) (x : Fits k rest). mark (mark_of t.kind Selects e tt) x; behind = suffix_one t rest }

wrong_spelling : (n : ℕ) (literals : Bool) (t : Token) (rest : List Token) → Spelling n literals Wrong (t ∷ rest) rest
wrong_spelling n literals t rest = record { good = tt; deep = tt; fits = λ (clean : CleanItem Wrong) (k : List Sign) (x : Fits k rest). elim clean [ ]; behind = suffix_one t rest }

-- a token that fits nowhere in this bracket
pub wrong_step : (all : List Token) (n : ℕ) (c : Bool) (i : Inside) (l : Looks) (so next : OpenBrackets) (start : List Token) (t : Token) (rest : List Token) → so.inner.inside ≡ i → ((d : Bool) → literals_in i d ≡ literals_in i false) → At n c so.inner.inside so.inner start (t ∷ rest) → Around all n l.outer so.inner.inside so.inner.opened so.outer start → taken Wrong (t ∷ rest) so ≡ Ok next → Stepped all l next rest
wrong_step all n c i l so next start t rest e plain at around h = taken_step all n c l so next start t rest Wrong at (ap (λ (j : Inside). literals_in j c) e ∙ plain c ∙ sym (plain l.here.colon) ∙ sym (ap (λ (j : Inside). literals_in j l.here.colon) e)) around (wrong_spelling n (literals_in so.inner.inside l.here.colon) t rest) h

-- Pieces.

-- no piece has begun
pub waiting : (n : ℕ) (c : Bool) (i : Inside) (l : OpenBracket) (start rest : List Token) → Read n i l start rest → l.items ≡ [] → l.first ≡ None → At n c i l start rest
waiting n c i l start rest r bare idle =
    record {
      first = rest;
      piece = record {
        read = r;
        good = subst (λ (is : List Item). GoodItems (literals_in i c) is) (sym bare) tt;
        deep = subst (λ (is : List Item). ItemDepths n is) (sym bare) tt;
        spelled = λ (clean : Clean l.items) (k : List Sign) (x : Fits k rest). subst (λ (is : List Item). Fits (items_signs is k) rest) (sym bare) x;
        behind = suffix_all rest;
      };
      begins = subst (λ (is : List Item). Begins is l.first rest rest) (sym bare) (idle, refl);
    }

-- an open bracket in place of another
pub state_on : (all : List Token) (n : ℕ) (l : Looks) (old new : OpenBracket) (outer : List OpenBracket) (start rest : List Token) → new.inside ≡ old.inside → new.opened ≡ old.opened → At n l.here.colon old.inside new start rest → Around all n l.outer old.inside old.opened outer start → State all n l (open_brackets new outer) rest
state_on all n l old new outer start rest e o at around =
    record {
      start = start;
      at = subst (λ (i : Inside). At n l.here.colon i new start rest) (sym e) at;
      around = subst (λ (i : Inside). Around all n l.outer i new.opened outer start) (sym e) (subst (λ (p : Place). Around all n l.outer old.inside p outer start) (sym o) around);
    }

pub go_on_ok : (outer : List OpenBracket) (r : Result OpenBracket Refusal) (next : OpenBrackets) → go_on outer r ≡ Ok next → (l : OpenBracket) × (r ≡ Ok l) × (open_brackets l outer ≡ next)
go_on_ok outer (Ok l) next h = (l, refl, (cc))
go_on_ok outer (Err r) next h = absurd (cc)

-- a separator after a piece
separator_step : (ps : Pieces) (all : List Token) (n : ℕ) (i : Inside) (l : Looks) (so next : OpenBrackets) (start : List Token) (t : Token) (rest : List Token) (place : Place) → so.inner.inside ≡ i → Separable i → sort_of t.kind ≡ Separates → Within rest n → At n false so.inner.inside so.inner start (t ∷ rest) → Around all n l.outer so.inner.inside so.inner.opened so.outer start → go_on so.outer (ended place so.inner) ≡ Ok next → Stepped all l next rest
separator_step ps all n i l so next start t rest place e w s room at around h =
    let m = go_on_ok so.outer (ended place so.inner) next h in
    let f = ended_only ps n so.inner m.0 start (t ∷ rest) place at m.1 in
    let u = subst (λ (j : Inside). Separable j) (sym e) w in
    let r : Read n so.inner.inside m.0 start rest = record {
      kept = f.ended.kept;
      next = λ (k : List Sign) (x : Fits (gap_in so.inner.inside k) rest). f.ended.onward u t rest refl s k x;
      last = λ (k : List Sign) (x : Fits (gap_in so.inner.inside k) rest). f.ended.last k (more_gap so.inner.inside u t rest k s x);
      room = room;
      behind = suffix_more start (t ∷ rest) rest f.ended.behind (suffix_one t rest);
    } in
    subst (λ (y : OpenBrackets). Stepped all l y rest) m.2 (record { room = n; state = state_on all n l so.inner m.0 so.outer start rest f.inside f.opened (waiting n l.here.colon so.inner.inside m.0 start rest r f.ended.bare f.ended.idle) around })

pub separated_step : (ps : Pieces) (all : List Token) (n : ℕ) (i : Inside) (l : Looks) (so next : OpenBrackets) (start : List Token) (t : Token) (rest : List Token) (place : Place) → so.inner.inside ≡ i → sort_of t.kind ≡ Separates → Within rest n → At n false so.inner.inside so.inner start (t ∷ rest) → Around all n l.outer so.inner.inside so.inner.opened so.outer start → separated i (t ∷ rest) place so ≡ Ok next → Stepped all l next rest
separated_step ps all n inside.Parens l so next start t rest place e s room at around h = wrong_step all n false inside.Parens l so next start t rest e (λ (d : Bool). refl) at around h
separated_step ps all n inside.Program l so next start t rest place e s room at around h = separator_step ps all n inside.Program l so next start t rest place e tt s room at around h
separated_step ps all n inside.Block l so next start t rest place e s room at around h = separator_step ps all n inside.Block l so next start t rest place e tt s room at around h
separated_step ps all n inside.List l so next start t rest place e s room at around h = separator_step ps all n inside.List l so next start t rest place e tt s room at around h
separated_step ps all n inside.Merge l so next start t rest place e s room at around h = separator_step ps all n inside.Merge l so next start t rest place e tt s room at around h
separated_step ps all n inside.Pattern l so next start t rest place e s room at around h = separator_step ps all n inside.Pattern l so next start t rest place e tt s room at around h
separated_step ps all n inside.HeaderPattern l so next start t rest place e s room at around h = separator_step ps all n inside.HeaderPattern l so next start t rest place e tt s room at around h
