-- How the walk goes over single tokens, separators and brackets.
use Rattle.std.proofs.Common.{◌≡◌, ◌<◌, ℕ, Bool, true, false, List, [], ◌∷◌, ◌++◌, length, Option, Some, None, Result, Ok, Err, ◌⊎◌, inl, inr, arith, refl, sym, ap, ◌∙◌, subst, append_assoc}
use Rattle.std.specs.Prelude.{nat_lt, if◌then◌else◌}
use Rattle.bqn_base.specs.declared.place.Place.{Place}
use Rattle.bqn_base.specs.declared.refusal.Refusal.{Refusal}
use Rattle.bqn_base.specs.declared.refusal.Refusal.TheVariants as refusal
use Rattle.bqn_syntax.specs.declared.token.Token.{Token}
use Rattle.bqn_syntax.specs.declared.sort.Bracket.{Bracket}
use Rattle.bqn_syntax.specs.declared.sort.Sort.{Sort}
use Rattle.bqn_syntax.specs.declared.sort.Sort.TheVariants.{Opens, Closes, Separates}
use Rattle.bqn_syntax.specs.declared.sort.Inside.{Inside}
use Rattle.bqn_syntax.specs.declared.sort.Inside.TheVariants as inside
use Rattle.bqn_syntax.specs.grammar.Sorts.{sort_of, punct_sort}
use Rattle.bqn_syntax.specs.grammar.Looks.{Ahead, behind_group}
use Rattle.bqn_syntax.specs.grammar.Items.{Element, Item, Standing}
use Rattle.bqn_syntax.specs.grammar.Parsing.{OpenBracket, OpenBrackets, open_brackets, fresh, or_first, begun, and_item, no_piece, ended, inside_of, closes, whole, whole_of, handed, go_on, taken, opened, closed, separated, step, walk}
use Rattle.bqn_syntax.specs.grammar.Spells.{Sign, Exact, Mark, Apart, Gap, Fits, one_more, no_more}
use Rattle.bqn_syntax.specs.grammar.Trees.{Stmts}
use Rattle.bqn_grammar.proofs.walked.Looks.{exact_is, mark_is, apart_is, mark_sort}

abbrev pub walked : Result OpenBrackets Refusal → List Token → Result Stmts Refusal
walked (Err r) ts = Err r
walked (Ok next) ts = walk next ts

pub walk_cons : (so : OpenBrackets) (t : Token) (ts : List Token) → walk so (t ∷ ts) ≡ walked (step (sort_of t.kind) (behind_group ts) t (t ∷ ts) so) ts
walk_cons so t ts = go (step (sort_of t.kind) (behind_group ts) t (t ∷ ts) so)
  where
    go : (r : Result OpenBrackets Refusal) → (elim r as (λ _. Result Stmts Refusal) [ Ok next ↦ walk next ts | Err e ↦ Err e ]) ≡ walked r ts
    go (Err e) = refl
    go (Ok next) = refl

-- one token
pub walk_step : (so next : OpenBrackets) (q : Sort) (t : Token) (ts rest : List Token) → ts ≡ t ∷ rest → sort_of t.kind ≡ q → step q (behind_group rest) t (t ∷ rest) so ≡ Ok next → walk so ts ≡ walk next rest
walk_step so next q t ts rest is e s =
    ap (λ (l : List Token). walk so l) is ∙ walk_cons so t rest
    ∙ ap (λ (x : Sort). walked (step x (behind_group rest) t (t ∷ rest) so) rest) e
    ∙ ap (λ (r : Result OpenBrackets Refusal). walked r rest) s

-- an open bracket with further items, whose piece began there
abbrev pub having : OpenBracket → List Item → Option (List Token) → OpenBracket
having l is f = record { inside = l.inside; opened = l.opened; first = f; items = l.items ++ is; expressions = l.expressions; targets = l.targets; header = l.header; statements = l.statements; done = l.done }

-- between pieces
abbrev pub clean : OpenBracket → OpenBracket
clean l = record { inside = l.inside; opened = l.opened; first = None; items = []; expressions = l.expressions; targets = l.targets; header = l.header; statements = l.statements; done = l.done }

pub having_twice : (l : OpenBracket) (is js : List Item) (f g : Option (List Token)) → having (having l is f) js g ≡ having l (is ++ js) g
having_twice l is js f g = ap (λ (all : List Item). record { inside = l.inside; opened = l.opened; first = g; items = all; expressions = l.expressions; targets = l.targets; header = l.header; statements = l.statements; done = l.done }) (append_assoc l.items is js)

pub or_first_twice : (f : Option (List Token)) (a b : List Token) → or_first (or_first f a) b ≡ or_first f a
or_first_twice None a b = refl
or_first_twice (Some first) a b = refl

-- the piece began at these tokens, if it had not before; or nothing was taken
abbrev pub Began : Option (List Token) → Option (List Token) → List Token → List Token → Type 0
Began old new ts rest = (new ≡ or_first old ts) ⊎ ((new ≡ old) × (rest ≡ ts))

pub began_twice : (f g h : Option (List Token)) (ts r s : List Token) → Began f g ts r → Began g h r s → Began f h ts s
began_twice f g h ts r s (inl e) (inl d) = inl (d ∙ ap (λ (x : Option (List Token)). or_first x r) e ∙ or_first_twice f ts r)
began_twice f g h ts r s (inl e) (inr d) = inl (d.0 ∙ e)
began_twice f g h ts r s (inr e) (inl d) = inl (d ∙ ap (λ (x : Option (List Token)). or_first x r) e.0 ∙ ap (λ (x : List Token). or_first f x) e.1)
began_twice f g h ts r s (inr e) (inr d) = inr (d.0 ∙ e.0, d.1 ∙ e.1)

-- tokens are walked to these items more, and to tokens that fit the rest of the signs
pub record Arrives (so : OpenBrackets) (is : List Item) (k : List Sign) (ts : List Token) : Type 0 where
  pub rest : List Token
  pub first : Option (List Token)
  pub fits : Fits k rest
  pub began : Began so.inner.first first ts rest
  pub walks : walk so ts ≡ walk (open_brackets (having so.inner is first) so.outer) rest

pub nothing_more : (so : OpenBrackets) (k : List Sign) (ts : List Token) → Fits k ts → Arrives so [] k ts
nothing_more so k ts f = record { rest = ts; first = so.inner.first; fits = f; began = inr (refl, refl); walks = ap (λ (l : OpenBracket). walk (open_brackets l so.outer) ts) (same so.inner) }
  where
    all : (is : List Item) → is ≡ is ++ []
    all [] = refl
    all (i ∷ is) = ap (λ (l : List Item). i ∷ l) (all is)

    same : (l : OpenBracket) → l ≡ having l [] l.first
    same l = ap (λ (is : List Item). record { inside = l.inside; opened = l.opened; first = l.first; items = is; expressions = l.expressions; targets = l.targets; header = l.header; statements = l.statements; done = l.done }) (all l.items)

-- one after the other
abbrev pub and_then : {so : OpenBrackets} {is js : List Item} {a k : List Sign} {ts : List Token} → Arrives so is a ts → ((f : Option (List Token)) (rest : List Token) → Fits a rest → Arrives (open_brackets (having so.inner is f) so.outer) js k rest) → Arrives so (is ++ js) k ts
and_then {so = so} {is = is} {js = js} {ts = ts} x go =
    let y = go x.first x.rest x.fits in
    record {
      rest = y.rest;
      first = y.first;
      fits = y.fits;
      began = began_twice so.inner.first x.first y.first ts x.rest y.rest x.began y.began;
      walks = x.walks ∙ y.walks ∙ ap (λ (l : OpenBracket). walk (open_brackets l so.outer) y.rest) (having_twice so.inner is js x.first y.first);
    }

pub to_items : {so : OpenBrackets} {is js : List Item} {k : List Sign} {ts : List Token} → is ≡ js → Arrives so is k ts → Arrives so js k ts
to_items {so = so} {k = k} {ts = ts} e x = subst (λ (l : List Item). Arrives so l k ts) e x

-- one token that is one item
abbrev pub take_one : (so : OpenBrackets) (q : Sort) (i : Item) (t : Token) (k : List Sign) (ts rest : List Token) → ts ≡ t ∷ rest → sort_of t.kind ≡ q → ((a : Ahead) → step q a t (t ∷ rest) so ≡ taken i (t ∷ rest) so) → Fits k rest → Arrives so (i ∷ []) k ts
take_one so q i t k ts rest is e s f = record {
  rest = rest;
  first = or_first so.inner.first ts;
  fits = f;
  began = inl refl;
  walks = walk_step so (open_brackets (having so.inner (i ∷ []) (or_first so.inner.first (t ∷ rest))) so.outer) q t ts rest is e (s (behind_group rest)) ∙ ap (λ (l : List Token). walk (open_brackets (having so.inner (i ∷ []) (or_first so.inner.first l)) so.outer) rest) (sym is);
}

abbrev pub take_exact : (so : OpenBrackets) (q : Sort) (i : Item) (t : Token) (k : List Sign) (ts : List Token) → sort_of t.kind ≡ q → ((a : Ahead) (rest : List Token) → step q a t (t ∷ rest) so ≡ taken i (t ∷ rest) so) → Fits (Exact t ∷ k) ts → Arrives so (i ∷ []) k ts
take_exact so q i t k ts e s f = let x = exact_is f in take_one so q i t k ts x.0 x.1 e (λ a. s a x.0) x.2

pub take_mark : (so : OpenBrackets) (q : Sort) (i : Item) (c : ℕ) (k : List Sign) (ts : List Token) → punct_sort c ≡ q → ((a : Ahead) (t : Token) (rest : List Token) → step q a t (t ∷ rest) so ≡ taken i (t ∷ rest) so) → Fits (Mark c ∷ k) ts → Arrives so (i ∷ []) k ts
take_mark so q i c k ts p s f = let x = mark_is f in take_one so q i x.0 k ts x.1 x.2 (mark_sort x.0 c q x.3 p) (λ a. s a x.0 x.1) x.4

-- Separators.

-- what holds many pieces
abbrev pub Many : Inside → Type 0
Many inside.Parens = ⊥
Many _ = Unit {0}

no_piece_is : (i : Inside) (place : Place) (l : OpenBracket) → Many i → no_piece i place l ≡ Ok l
no_piece_is inside.Program place l m = refl
no_piece_is inside.List place l m = refl
no_piece_is inside.Pattern place l m = refl
no_piece_is inside.HeaderPattern place l m = refl
no_piece_is inside.Merge place l m = refl
no_piece_is inside.Block place l m = refl
no_piece_is inside.Parens place l m = elim m [ ]

separated_is : (i : Inside) (tokens : List Token) (place : Place) (so : OpenBrackets) → Many i → separated i tokens place so ≡ go_on so.outer (ended place so.inner)
separated_is inside.Program tokens place so m = refl
separated_is inside.List tokens place so m = refl
separated_is inside.Pattern tokens place so m = refl
separated_is inside.HeaderPattern tokens place so m = refl
separated_is inside.Merge tokens place so m = refl
separated_is inside.Block tokens place so m = refl
separated_is inside.Parens tokens place so m = elim m [ ]

pub clean_ends : (l : OpenBracket) (place : Place) → Many l.inside → ended place (clean l) ≡ Ok (clean l)
clean_ends l place m = no_piece_is l.inside place (clean l) m

skip_step : (l : OpenBracket) (outer : List OpenBracket) (a : Ahead) (t : Token) (rest : List Token) → Many l.inside → step Separates a t (t ∷ rest) (open_brackets (clean l) outer) ≡ Ok (open_brackets (clean l) outer)
skip_step l outer a t rest m =
    separated_is l.inside (t ∷ rest) t.place (open_brackets (clean l) outer) m
    ∙ ap (λ (r : Result OpenBracket Refusal). go_on outer r) (clean_ends l t.place m)

-- separators between pieces
pub gap_walks : (l : OpenBracket) (outer : List OpenBracket) (k : List Sign) (ts : List Token) → Many l.inside → Fits (Gap ∷ k) ts → (rest : List Token) × Fits k rest × (walk (open_brackets (clean l) outer) ts ≡ walk (open_brackets (clean l) outer) rest)
gap_walks l outer k ts m (no_more f) = (ts, f, refl)
gap_walks l outer k all m (one_more {t = t} {ts = ts} e f) =
    let n = gap_walks l outer k ts m f in
    (n.0, n.1, walk_step (open_brackets (clean l) outer) (open_brackets (clean l) outer) Separates t (t ∷ ts) ts refl e (skip_step l outer (behind_group ts) t ts m) ∙ n.2)

-- a piece of these items, which the bracket ends as the next one
abbrev pub Completes : OpenBracket → List Item → OpenBracket → Type 0
Completes l is next = (place : Place) (f : Option (List Token)) → ended place (having (clean l) is f) ≡ Ok next

pub separator_ends : (l next : OpenBracket) (is : List Item) (f : Option (List Token)) (outer : List OpenBracket) (t : Token) (rest : List Token) → Many l.inside → Completes l is next → sort_of t.kind ≡ Separates → walk (open_brackets (having (clean l) is f) outer) (t ∷ rest) ≡ walk (open_brackets next outer) rest
separator_ends l next is f outer t rest m c e =
    walk_step (open_brackets (having (clean l) is f) outer) (open_brackets next outer) Separates t (t ∷ rest) rest refl e
    (separated_is l.inside (t ∷ rest) t.place (open_brackets (having (clean l) is f) outer) m ∙ ap (λ (r : Result OpenBracket Refusal). go_on outer r) (c t.place f))

-- a separator that ends a piece, and those after it
pub apart_walks : (l next : OpenBracket) (is : List Item) (f : Option (List Token)) (outer : List OpenBracket) (k : List Sign) (ts : List Token) → Many l.inside → Many next.inside → Completes l is (clean next) → Fits (Apart ∷ Gap ∷ k) ts → (rest : List Token) × Fits k rest × (walk (open_brackets (having (clean l) is f) outer) ts ≡ walk (open_brackets (clean next) outer) rest)
apart_walks l next is f outer k ts m n c g =
    let x = apart_is g in
    let y = gap_walks next outer k x.1 n x.4 in
    (y.0, y.1, ap (λ (z : List Token). walk (open_brackets (having (clean l) is f) outer) z) x.2 ∙ separator_ends l (clean next) is f outer x.0 x.1 m c x.3 ∙ y.2)

-- Closing brackets.

-- what an open bracket is in the bracket around, once it ends
abbrev pub Makes : OpenBracket → Element → Type 0
Makes l x = (place : Place) → whole l.inside place l ≡ Ok x

closed_is : (b : Bool) (place : Place) (so : OpenBrackets) → b ≡ true → closed b place so ≡ handed place (whole_of place (ended place so.inner)) so.outer
closed_is true place so e = refl
closed_is false place so e = absurd (cc)

-- the closing bracket after a piece, or after none
pub close_step : (b : Bracket) (l next around : OpenBracket) (x : Element) (outer : List OpenBracket) (t : Token) (ts rest : List Token) → ts ≡ t ∷ rest → sort_of t.kind ≡ Closes b → closes b l.inside ≡ true → ended t.place l ≡ Ok next → Makes next x → walk (open_brackets l (around ∷ outer)) ts ≡ walk (open_brackets (and_item (Standing x) around) outer) rest
close_step b l next around x outer t ts rest is e c d m =
    walk_step (open_brackets l (around ∷ outer)) (open_brackets (and_item (Standing x) around) outer) (Closes b) t ts rest is e
    (closed_is (closes b l.inside) t.place (open_brackets l (around ∷ outer)) c
    ∙ ap (λ (r : Result OpenBracket Refusal). handed t.place (whole_of t.place r) (around ∷ outer)) d
    ∙ ap (λ (r : Result Element Refusal). handed t.place r (around ∷ outer)) (m t.place))

-- after a piece: separators, if any, and the closing bracket
pub close_after : (b : Bracket) (c : ℕ) (l next around : OpenBracket) (x : Element) (is : List Item) (f : Option (List Token)) (outer : List OpenBracket) (k : List Sign) (ts : List Token) → punct_sort c ≡ Closes b → closes b l.inside ≡ true → closes b next.inside ≡ true → Many l.inside → Many next.inside → Completes l is (clean next) → Makes (clean next) x → Fits (Gap ∷ Mark c ∷ k) ts → (rest : List Token) × Fits k rest × (walk (open_brackets (having (clean l) is f) (around ∷ outer)) ts ≡ walk (open_brackets (and_item (Standing x) around) outer) rest)
close_after b c l next around x is f outer k ts p cl cn m n d w (no_more g) =
    let y = mark_is g in
    (y.1, y.4, close_step b (having (clean l) is f) (clean next) around x outer y.0 ts y.1 y.2 (mark_sort y.0 c (Closes b) y.3 p) cl (d y.0.place f) w)
close_after b c l next around x is f outer k all p cl cn m n d w (one_more {t = t} {ts = ts} e g) =
    let z = gap_walks next (around ∷ outer) (Mark c ∷ k) ts n g in
    let y = mark_is z.1 in
    (y.1, y.4, separator_ends l (clean next) is f (around ∷ outer) t ts m d e ∙ z.2 ∙ close_step b (clean next) (clean next) around x outer y.0 z.0 y.1 y.2 (mark_sort y.0 c (Closes b) y.3 p) cn (clean_ends next y.0.place n) w)

-- after no piece
pub close_empty : (b : Bracket) (c : ℕ) (l around : OpenBracket) (x : Element) (outer : List OpenBracket) (k : List Sign) (ts : List Token) → punct_sort c ≡ Closes b → closes b l.inside ≡ true → Many l.inside → Makes (clean l) x → Fits (Gap ∷ Mark c ∷ k) ts → (rest : List Token) × Fits k rest × (walk (open_brackets (clean l) (around ∷ outer)) ts ≡ walk (open_brackets (and_item (Standing x) around) outer) rest)
close_empty b c l around x outer k ts p cl m w g =
    let z = gap_walks l (around ∷ outer) (Mark c ∷ k) ts m g in
    let y = mark_is z.1 in
    (y.1, y.4, z.2 ∙ close_step b (clean l) (clean l) around x outer y.0 z.0 y.1 y.2 (mark_sort y.0 c (Closes b) y.3 p) cl (clean_ends l y.0.place m) w)

-- Opening brackets.

lt_true : (n : ℕ) → n < 128 → nat_lt n 128 ≡ true
lt_true n h = grind arith

-- a bracket opens where fewer than 128 are around it
pub open_step : (b : Bracket) (so : OpenBrackets) (t : Token) (ts rest : List Token) (i : Inside) → ts ≡ t ∷ rest → sort_of t.kind ≡ Opens b → length so.outer < 128 → inside_of b (behind_group rest) so.inner ≡ i → walk so ts ≡ walk (open_brackets (clean (fresh i t.place)) (having so.inner [] (or_first so.inner.first ts) ∷ so.outer)) rest
open_step b so t ts rest i is e h n =
    walk_step so (open_brackets (fresh i t.place) (begun (t ∷ rest) so.inner ∷ so.outer)) (Opens b) t ts rest is e
    (ap (λ (j : Inside). opened j (t ∷ rest) t.place so) n
    ∙ ap (λ (x : Bool). if x then Ok (open_brackets (fresh i t.place) (begun (t ∷ rest) so.inner ∷ so.outer)) else Err (refusal.TooNested t.place)) (lt_true (length so.outer) h))
    ∙ ap (λ (l : OpenBracket). walk (open_brackets (fresh i t.place) (l ∷ so.outer)) rest) (same so.inner (t ∷ rest))
    ∙ ap (λ (l : List Token). walk (open_brackets (fresh i t.place) (having so.inner [] (or_first so.inner.first l) ∷ so.outer)) rest) (sym is)
  where
    all : (is : List Item) → is ≡ is ++ []
    all [] = refl
    all (x ∷ xs) = ap (λ (l : List Item). x ∷ l) (all xs)

    same : (l : OpenBracket) (tokens : List Token) → begun tokens l ≡ having l [] (or_first l.first tokens)
    same l tokens = ap (λ (items : List Item). record { inside = l.inside; opened = l.opened; first = or_first l.first tokens; items = items; expressions = l.expressions; targets = l.targets; header = l.header; statements = l.statements; done = l.done }) (all l.items)

-- a whole bracket group is one item
pub group_arrives : (so : OpenBrackets) (x : Element) (k : List Sign) (ts rest : List Token) (inner : OpenBrackets) (tokens : List Token) → walk so ts ≡ walk inner tokens → walk inner tokens ≡ walk (open_brackets (and_item (Standing x) (having so.inner [] (or_first so.inner.first ts))) so.outer) rest → Fits k rest → Arrives so (Standing x ∷ []) k ts
group_arrives so x k ts rest inner tokens e d f = record {
  rest = rest;
  first = or_first so.inner.first ts;
  fits = f;
  began = inl refl;
  walks = e ∙ d ∙ ap (λ (l : OpenBracket). walk (open_brackets l so.outer) rest) (having_twice so.inner [] (Standing x ∷ []) (or_first so.inner.first ts) (or_first so.inner.first ts));
}
