-- A bracket that opens or closes.
use Rattle.std.proofs.Common.{◌≡◌, ℕ, zero, suc, Bool, true, false, List, [], ◌∷◌, length, Result, Ok, Err, nat_lt, if◌then◌else◌, refl, sym, ap, ◌∙◌, subst, arith}
use Rattle.bqn_base.specs.declared.place.Place.{Place}
use Rattle.bqn_base.specs.declared.refusal.Refusal.{Refusal}
use Rattle.bqn_syntax.specs.declared.token.Token.{Token}
use Rattle.bqn_syntax.specs.declared.token.Kind.TheVariants as kind
use Rattle.bqn_syntax.specs.declared.sort.Bracket.{Bracket}
use Rattle.bqn_syntax.specs.declared.sort.Bracket.TheVariants.{Round, Angle, Square, Curly}
use Rattle.bqn_syntax.specs.declared.sort.Sort.TheVariants.{Opens, Closes}
use Rattle.bqn_syntax.specs.declared.sort.Inside.{Inside}
use Rattle.bqn_syntax.specs.declared.sort.Inside.TheVariants as inside
use Rattle.bqn_syntax.specs.grammar.Punctuation as punctuation
use Rattle.bqn_syntax.specs.grammar.Sorts.{sort_of}
use Rattle.bqn_syntax.specs.grammar.Looks.{Ahead, Looks, first_of, rest_of}
use Rattle.bqn_syntax.specs.grammar.Items.{Element, Standing}
use Rattle.bqn_syntax.specs.grammar.Parsing.{OpenBracket, OpenBrackets, open_brackets, fresh, begun, and_item, is_first_piece, list_inside, inside_of, closes, whole, whole_of, handed, opened, closed, ended}
use Rattle.bqn_base.specs.declared.refusal.Refusal.TheVariants as refusal
use Rattle.bqn_syntax.specs.grammar.Spells.{Sign, Fits, no_more}
use Rattle.bqn_grammar.proofs.sound.Sorts.{mark_of, token_at}
use Rattle.bqn_grammar.proofs.sound.OpenBrackets.{Pieces, Within, WithinAt, suffix_all, suffix_one, suffix_more, CleanItem, literals_in, gap_in, next_signs, end_signs, Kept, At, OpenedBy, ListMay, Around}
use Rattle.bqn_grammar.proofs.sound.Ends.{ended_only}
use Rattle.bqn_grammar.proofs.sound.Items.{Spelling, handed_only, outer_only}
use Rattle.bqn_grammar.proofs.sound.Groups.{closing_code, whole_only}
use Rattle.bqn_grammar.proofs.sound.Steps.{Stepped, waiting}

-- Opening.

fresh_kept : (n : ℕ) (i : Inside) (place : Place) → Kept n i (fresh i place)
fresh_kept n i place = record { expressions = tt; targets = tt; header = tt; statements = tt; done = tt; expressions_depth = omega arith; targets_depth = omega arith; header_depth = omega arith; statements_depth = omega arith; done_depth = omega arith }

fresh_next : (i : Inside) (place : Place) (k : List Sign) (ts : List Token) → Fits (gap_in i k) ts → Fits (next_signs i (fresh i place) k) ts
fresh_next inside.Program place k ts x = x
fresh_next inside.Block place k ts x = x
fresh_next inside.Parens place k ts x = x
fresh_next inside.List place k ts x = x
fresh_next inside.Merge place k ts x = x
fresh_next inside.Pattern place k ts x = x
fresh_next inside.HeaderPattern place k ts x = x

fresh_last : (i : Inside) (place : Place) (k : List Sign) (ts : List Token) → Fits (gap_in i k) ts → Fits (end_signs i (fresh i place) k) ts
fresh_last inside.Program place k ts x = x
fresh_last inside.Block place k ts x = x
fresh_last inside.Parens place k ts x = x
fresh_last inside.List place k ts x = no_more x
fresh_last inside.Merge place k ts x = no_more x
fresh_last inside.Pattern place k ts x = no_more x
fresh_last inside.HeaderPattern place k ts x = no_more x

pub fresh_at : (n : ℕ) (c : Bool) (i : Inside) (place : Place) (rest : List Token) → Within rest n → At n c i (fresh i place) rest rest
fresh_at n c i place rest room =
    waiting n c i (fresh i place) rest rest (record { kept = fresh_kept n i place; next = λ (k : List Sign) (x : Fits (gap_in i k) rest). fresh_next i place k rest x; last = λ (k : List Sign) (x : Fits (gap_in i k) rest). fresh_last i place k rest x; room = room; behind = suffix_all rest }) refl refl

if_either : (P : Inside → Type 0) (b : Bool) (x y : Inside) → P x → P y → P (if b then x else y)
if_either P true x y p q = p
if_either P false x y p q = q

list_is : (P : Inside → Type 0) (a : Ahead) (i : Inside) (at_head : Bool) → P inside.Pattern → P inside.HeaderPattern → P inside.List → P (list_inside a i at_head)
list_is P a inside.Pattern at_head p h l = p
list_is P a inside.HeaderPattern at_head p h l = if_either P a.arrow inside.Pattern inside.HeaderPattern p h
list_is P a inside.Block true p h l = if_either P a.arrow inside.Pattern (if a.colon then inside.HeaderPattern else inside.List) p (if_either P a.colon inside.HeaderPattern inside.List h l)
list_is P a _ at_head p h l = if_either P a.arrow inside.Pattern inside.List p l

opened_by : (b : Bracket) (a : Ahead) (l : OpenBracket) (t : Token) → sort_of t.kind ≡ Opens b → OpenedBy (inside_of b a l) t.place t
opened_by Round a l t e = mark_of t.kind (Opens Round) e tt
opened_by Square a l t e = mark_of t.kind (Opens Square) e tt
opened_by Curly a l t e = token_at t punctuation.open_curly (mark_of t.kind (Opens Curly) e tt)
opened_by Angle a l t e = let m = mark_of t.kind (Opens Angle) e tt in list_is (λ (i : Inside). OpenedBy i t.place t) a l.inside (is_first_piece l.header l.statements) m m m

block_list : (arrow colon : Bool) → ListMay (if arrow then inside.Pattern else if colon then inside.HeaderPattern else inside.List) colon
block_list true colon = tt
block_list false true = refl
block_list false false = tt

plain_list : (arrow literals : Bool) → ListMay (if arrow then inside.Pattern else inside.List) literals
plain_list true literals = tt
plain_list false literals = tt

header_list : (arrow : Bool) → ListMay (if arrow then inside.Pattern else inside.HeaderPattern) true
header_list true = tt
header_list false = refl

list_may : (a : Ahead) (i : Inside) (at_head : Bool) → ListMay (list_inside a i at_head) (literals_in i a.colon)
list_may a inside.Pattern at_head = tt
list_may a inside.HeaderPattern at_head = header_list a.arrow
list_may a inside.Block true = block_list a.arrow a.colon
list_may a inside.Block false = plain_list a.arrow a.colon
list_may a _ at_head = plain_list a.arrow false

group_may : (b : Bracket) (a : Ahead) (l : OpenBracket) → ListMay (inside_of b a l) (literals_in l.inside a.colon)
group_may Round a l = tt
group_may Square a l = tt
group_may Curly a l = tt
group_may Angle a l = list_may a l.inside (is_first_piece l.header l.statements)

if_ok : (b : Bool) (x next : OpenBrackets) (r : Refusal) (y : Result OpenBrackets Refusal) → y ≡ Err r → (if b then Ok x else y) ≡ Ok next → x ≡ next
if_ok true x next r y e h = cc
if_ok false x next r y e h = absurd (cc)

pub opened_ok : (i : Inside) (tokens : List Token) (place : Place) (so next : OpenBrackets) → opened i tokens place so ≡ Ok next → open_brackets (fresh i place) (begun tokens so.inner ∷ so.outer) ≡ next
opened_ok i tokens place so next h = if_ok (nat_lt (length so.outer) 128) (open_brackets (fresh i place) (begun tokens so.inner ∷ so.outer)) next (refusal.TooNested place) (Err (refusal.TooNested place)) refl h

pub opened_step : (all : List Token) (n : ℕ) (b : Bracket) (l : Looks) (so next : OpenBrackets) (start : List Token) (t : Token) (rest : List Token) → sort_of t.kind ≡ Opens b → WithinAt (Opens b) (Within rest) n → At n (first_of l.outer).colon so.inner.inside so.inner start (t ∷ rest) → Around all n (rest_of l.outer) so.inner.inside so.inner.opened so.outer start → opened (inside_of b (first_of l.outer) so.inner) (t ∷ rest) t.place so ≡ Ok next → Stepped all l next rest
opened_step all zero b l so next start t rest e room at around h = elim room [ ]
opened_step all (suc n) b l so next start t rest e room at around h =
    let i = inside_of b (first_of l.outer) so.inner in
    subst (λ (y : OpenBrackets). Stepped all l y rest) (opened_ok i (t ∷ rest) t.place so next h) (record {
      room = n;
      state = record {
        start = rest;
        at = fresh_at n l.here.colon i t.place rest room;
        around = (start, record { bracket = t; opened_by = opened_by b (first_of l.outer) so.inner t e; list_may = group_may b (first_of l.outer) so.inner; outer = outer_only (suc n) (first_of l.outer).colon so.inner.inside so.inner start (t ∷ rest) at }, around);
      };
    })

-- Closing.

whole_of_ok : (place : Place) (r : Result OpenBracket Refusal) (x : Element) → whole_of place r ≡ Ok x → (l : OpenBracket) × (r ≡ Ok l) × (whole l.inside place l ≡ Ok x)
whole_of_ok place (Ok l) x h = (l, refl, h)
whole_of_ok place (Err r) x h = absurd (cc)

pub record Handed (place : Place) (r : Result Element Refusal) (outer : List OpenBracket) (next : OpenBrackets) : Type 0 where
  pub element : Element
  pub around : OpenBracket
  pub rest : List OpenBracket
  pub found : r ≡ Ok element
  pub outer_is : outer ≡ around ∷ rest
  pub next_is : open_brackets (and_item (Standing element) around) rest ≡ next

pub handed_ok : (place : Place) (r : Result Element Refusal) (outer : List OpenBracket) (next : OpenBrackets) → handed place r outer ≡ Ok next → Handed place r outer next
handed_ok place (Ok x) (around ∷ outer) next h = record { element = x; around = around; rest = outer; found = refl; outer_is = refl; next_is = cc }
handed_ok place (Ok x) [] next h = absurd (cc)
handed_ok place (Err r) outer next h = absurd (cc)

pub closed_ok : (b : Bool) (place : Place) (so next : OpenBrackets) → closed b place so ≡ Ok next → (b ≡ true) × Handed place (whole_of place (ended place so.inner)) so.outer next
closed_ok true place so next h = (refl, handed_ok place (whole_of place (ended place so.inner)) so.outer next h)
closed_ok false place so next h = absurd (cc)

group_only : (ps : Pieces) (n : ℕ) (literals : Bool) (b : Bracket) (l : OpenBracket) (place : Place) (x : Element) (bracket t : Token) (start rest : List Token) → sort_of t.kind ≡ Closes b → closes b l.inside ≡ true → At n false l.inside l start (t ∷ rest) → OpenedBy l.inside l.opened bracket → ListMay l.inside literals → whole_of place (ended place l) ≡ Ok x → Spelling (suc n) literals (Standing x) (bracket ∷ start) rest
group_only ps n literals b l place x bracket t start rest e c at o may h =
    let m = whole_of_ok place (ended place l) x h in
    let f = ended_only ps n l m.0 start (t ∷ rest) place at m.1 in
    let close = mark_of t.kind (Closes b) e tt ∙ ap (λ (z : ℕ). kind.Punct z) (closing_code b l.inside c) in
    let g = whole_only n literals l.inside m.0 place x bracket t start rest f.ended (subst (λ (p : Place). OpenedBy l.inside p bracket) (sym f.opened) o) may close (subst (λ (i : Inside). whole i place m.0 ≡ Ok x) f.inside m.2) in
    record { good = g.good; deep = g.deep; fits = λ (clean : CleanItem (Standing x)) (k : List Sign) (y : Fits k rest). g.fits k y; behind = suffix_more (bracket ∷ start) start rest (suffix_one bracket start) (suffix_more start (t ∷ rest) rest f.ended.behind (suffix_one t rest)) }

pub closed_step : (ps : Pieces) (all : List Token) (n : ℕ) (b : Bracket) (l : Looks) (so next : OpenBrackets) (start : List Token) (t : Token) (rest : List Token) (place : Place) → sort_of t.kind ≡ Closes b → At n false so.inner.inside so.inner start (t ∷ rest) → Around all n (l.here ∷ l.outer) so.inner.inside so.inner.opened so.outer start → closed (closes b so.inner.inside) place so ≡ Ok next → Stepped all l next rest
closed_step ps all n b l so next start t rest place e at around h =
    let c = closed_ok (closes b so.inner.inside) place so next h in
    let a = subst (λ (outer : List OpenBracket). Around all n (l.here ∷ l.outer) so.inner.inside so.inner.opened outer start) c.1.outer_is around in
    let s = group_only ps n (literals_in c.1.around.inside l.here.colon) b so.inner place c.1.element a.1.bracket t start rest e c.0 at a.1.opened_by a.1.list_may c.1.found in
    subst (λ (y : OpenBrackets). Stepped all l y rest) c.1.next_is (record { room = suc n; state = record { start = a.0; at = handed_only (suc n) l.here.colon c.1.around.inside c.1.around a.0 (a.1.bracket ∷ start) rest (Standing c.1.element) a.1.outer s; around = a.2 } })
