-- Terms that are bound as they come give the units of the piece.
use Rattle.std.proofs.Common.{◌≡◌, Bool, true, false, List, [], ◌∷◌, ◌++◌, length, reverse, Option, Some, None, refl, sym, ap, ◌∙◌, arith}
use Rattle.std.proofs.lemmas.List.{reverse-append, reverse-reverse}
use Rattle.std.specs.Option.{option_map, option_and_then}
use Rattle.bqn_syntax.specs.declared.token.Token.{Token}
use Rattle.bqn_syntax.specs.declared.tree.Arrow.{Arrow}
use Rattle.bqn_syntax.specs.declared.sort.Tag.TheVariants as tags
use Rattle.bqn_syntax.specs.grammar.Expressions.{units_in}
use Rattle.bqn_syntax.specs.grammar.Items as plain
use Rattle.bqn_syntax.specs.grammar.Items.{Element, OfPart, OfList, Item, Standing, Drawn, Joining, Selecting, Wrong, Term, Draw, Terms, Reading, Between, At, Joined, Selected, reads, puts, finished, plain_term, aimed_term, with_name}
use Rattle.bqn_syntax.specs.grammar.Trees.{Part, Leaf, Elements, Merge, Paren, Block, Field, Strand, Nothing}
use Rattle.bqn_syntax.specs.grammar.Sorts.{tag, same_tag, is_word}
use Rattle.bqn_syntax.specs.grammar.Units.{Unit', Row, row, Free, bind, binds, bound}
use Rattle.bqn_parse.specs.Fused as fused
use Rattle.bqn_parse.specs.Fused.{Piece, piece, with_term, next_at, drawn, put, ended, units_if, units_with}
use Rattle.bqn_parse.specs.Following.{behind_of, ends_before}
use Rattle.bqn_parse.specs.declared.reading.following.Behind.TheVariants.{Draws, Else}
use Rattle.bqn_parse.specs.declared.item.Item.{Item as CodeItem}
use Rattle.bqn_parse.specs.Views.{item_of, items_of, when}

nothing : {A B : Type 0} (o : Option A) → ◌≡◌ {A = Option B} None (option_and_then (λ (x : A). None) o)
nothing None = refl
nothing (Some x) = refl

-- One more term.

and-some : {A : Type 0} (o : Option A) → option_and_then (λ (x : A). Some x) o ≡ o
and-some None = refl
and-some (Some x) = refl

binds-snoc : (so : Row) (terms : List Term) (term : Term) → binds so (terms ++ term ∷ []) ≡ option_and_then (λ next. bind next term) (binds so terms)
binds-snoc so [] term = and-some (bind so term)
binds-snoc so (t ∷ terms) term = at (bind so t) (λ next. binds-snoc next terms term)
  where
    at : (o : Option Row) → ((next : Row) → binds next (terms ++ term ∷ []) ≡ option_and_then (λ n. bind n term) (binds next terms))
        → option_and_then (λ next. binds next (terms ++ term ∷ [])) o ≡ option_and_then (λ n. bind n term) (option_and_then (λ next. binds next terms) o)
    at None more = refl
    at (Some next) more = more next

-- The items that are left.

-- the units of the terms so far and of the items that follow
abbrev all_units : Row → List Term → Reading → List Item → Option (List Unit')
all_units first terms reading items = option_and_then (λ ts. option_and_then bound (binds first ts)) (option_and_then finished (puts (reads terms reading) items))

-- the same, where the terms so far are bound
abbrev units_behind : Row → List Term → Reading → List Item → Option (List Unit')
units_behind first terms reading items = option_and_then (λ so. units_with (piece so reading) items) (binds first terms)

abbrev Agrees : Row → List Item → Type 0
Agrees first items = (terms : List Term) (reading : Reading) → all_units first terms reading items ≡ units_behind first terms reading items

-- a term is bound, and then what is next is being read
abbrev bound_before : List Item → Reading → Option Row → Option (List Unit')
bound_before items reading next = option_and_then (λ p. units_with p items) (next_at reading next)

behind-term : (first : Row) (terms : List Term) (term : Term) (reading : Reading) (items : List Item)
    → units_behind first (terms ++ term ∷ []) reading items ≡ option_and_then (λ so. bound_before items reading (bind so term)) (binds first terms)
behind-term first terms term reading items = ap (λ (o : Option Row). option_and_then (λ so. units_with (piece so reading) items) o) (binds-snoc first terms term) ∙ at (binds first terms)
  where
    one : (o : Option Row) → option_and_then (λ so. units_with (piece so reading) items) o ≡ bound_before items reading o
    one None = refl
    one (Some so) = refl

    at : (o : Option Row) → option_and_then (λ so. units_with (piece so reading) items) (option_and_then (λ next. bind next term) o) ≡ option_and_then (λ so. bound_before items reading (bind so term)) o
    at None = refl
    at (Some so) = one (bind so term)

stand-behind : (first : Row) (items : List Item) → Agrees first items → (terms : List Term) (y : Element) (term : Option Term)
    → option_and_then (λ ts. option_and_then bound (binds first ts)) (option_and_then finished (option_and_then (λ (next : Terms). puts next items) (option_map (λ t. reads (terms ++ t ∷ []) (At [] y)) term)))
    ≡ option_and_then (λ so. bound_before items (At [] y) (with_term so term)) (binds first terms)
stand-behind first items more terms y None = nothing (binds first terms)
stand-behind first items more terms y (Some term) = more (terms ++ term ∷ []) (At [] y) ∙ behind-term first terms term (At [] y) items

name-behind : (first : Row) (items : List Item) → Agrees first items → (terms : List Term) (joined : List Element) (x : Part) (t : Token) (word : Bool)
    → option_and_then (λ ts. option_and_then bound (binds first ts)) (option_and_then finished (option_and_then (λ (next : Terms). puts next items) (plain.selected word terms joined x t)))
    ≡ option_and_then (λ so. option_and_then (λ p. units_with p items) (fused.selected word so joined x t)) (binds first terms)
name-behind first items more terms joined x t true = more terms (At joined (OfPart (with_name x t)))
name-behind first items more terms joined x t false = nothing (binds first terms)

standing : (first : Row) (items : List Item) → Agrees first items → (terms : List Term) (reading : Reading) (y : Element) → all_units first terms reading (Standing y ∷ items) ≡ units_behind first terms reading (Standing y ∷ items)
standing first items more terms Between y = more terms (At [] y)
standing first items more terms (At joined x) y = stand-behind first items more terms y (plain_term joined x)
standing first items more terms (Joined joined) y = more terms (At joined y)
standing first items more terms (Selected joined x) (OfPart (Leaf t)) = name-behind first items more terms joined x t (is_word t.kind)
standing first items more terms (Selected joined x) (OfPart (Elements es)) = nothing (binds first terms)
standing first items more terms (Selected joined x) (OfPart (Merge es)) = nothing (binds first terms)
standing first items more terms (Selected joined x) (OfPart (Paren e)) = nothing (binds first terms)
standing first items more terms (Selected joined x) (OfPart (Block b)) = nothing (binds first terms)
standing first items more terms (Selected joined x) (OfPart (Field b ns)) = nothing (binds first terms)
standing first items more terms (Selected joined x) (OfPart (Strand ps)) = nothing (binds first terms)
standing first items more terms (Selected joined x) (OfPart (Nothing p)) = nothing (binds first terms)
standing first items more terms (Selected joined x) (OfList q) = nothing (binds first terms)

joining : (first : Row) (items : List Item) → Agrees first items → (terms : List Term) (reading : Reading) → all_units first terms reading (Joining ∷ items) ≡ units_behind first terms reading (Joining ∷ items)
joining first items more terms Between = nothing (binds first terms)
joining first items more terms (At joined x) = more terms (Joined (joined ++ x ∷ []))
joining first items more terms (Joined joined) = nothing (binds first terms)
joining first items more terms (Selected joined x) = nothing (binds first terms)

subject-behind : (first : Row) (items : List Item) → Agrees first items → (terms : List Term) (joined : List Element) (x : Part) (subject : Bool)
    → option_and_then (λ ts. option_and_then bound (binds first ts)) (option_and_then finished (option_and_then (λ (next : Terms). puts next items) (plain.select_of subject terms joined x)))
    ≡ option_and_then (λ so. option_and_then (λ p. units_with p items) (fused.select_of subject so joined x)) (binds first terms)
subject-behind first items more terms joined x true = more terms (Selected joined x)
subject-behind first items more terms joined x false = nothing (binds first terms)

selecting : (first : Row) (items : List Item) → Agrees first items → (terms : List Term) (reading : Reading) → all_units first terms reading (Selecting ∷ items) ≡ units_behind first terms reading (Selecting ∷ items)
selecting first items more terms Between = nothing (binds first terms)
selecting first items more terms (At joined (OfPart x)) = subject-behind first items more terms joined x (same_tag tags.Subject (tag x))
selecting first items more terms (At joined (OfList q)) = nothing (binds first terms)
selecting first items more terms (Joined joined) = nothing (binds first terms)
selecting first items more terms (Selected joined x) = nothing (binds first terms)

draw-behind : (first : Row) (items : List Item) → Agrees first items → (terms : List Term) (a : Arrow) (term : Option Term)
    → option_and_then (λ ts. option_and_then bound (binds first ts)) (option_and_then finished (option_and_then (λ (next : Terms). puts next items) (option_map (λ ts. reads (ts ++ Draw a ∷ []) Between) (option_map (λ t. terms ++ t ∷ []) term))))
    ≡ option_and_then (λ so. bound_before items Between (option_and_then (λ next. drawn a next) (with_term so term))) (binds first terms)
draw-behind first items more terms a None = nothing (binds first terms)
draw-behind first items more terms a (Some term) =
    more ((terms ++ term ∷ []) ++ Draw a ∷ []) Between
    ∙ behind-term first (terms ++ term ∷ []) (Draw a) Between items
    ∙ ap (λ (o : Option Row). option_and_then (λ so. bound_before items Between (drawn a so)) o) (binds-snoc first terms term)
    ∙ at (binds first terms)
  where
    one : (o : Option Row) → option_and_then (λ so. bound_before items Between (drawn a so)) o ≡ bound_before items Between (option_and_then (λ next. drawn a next) o)
    one None = refl
    one (Some so) = refl

    at : (o : Option Row) → option_and_then (λ so. bound_before items Between (drawn a so)) (option_and_then (λ next. bind next term) o) ≡ option_and_then (λ so. bound_before items Between (option_and_then (λ next. drawn a next) (bind so term))) o
    at None = refl
    at (Some so) = one (bind so term)

drawing : (first : Row) (items : List Item) → Agrees first items → (terms : List Term) (reading : Reading) (a : Arrow) → all_units first terms reading (Drawn a ∷ items) ≡ units_behind first terms reading (Drawn a ∷ items)
drawing first items more terms Between a = more (terms ++ Draw a ∷ []) Between ∙ behind-term first terms (Draw a) Between items
drawing first items more terms (At joined x) a = draw-behind first items more terms a (aimed_term joined x)
drawing first items more terms (Joined joined) a = nothing (binds first terms)
drawing first items more terms (Selected joined x) a = nothing (binds first terms)

end-behind : (first : Row) (terms : List Term) (term : Option Term)
    → option_and_then (λ ts. option_and_then bound (binds first ts)) (option_map (λ t. terms ++ t ∷ []) term) ≡ option_and_then (λ so. option_and_then (λ next. bound next) (with_term so term)) (binds first terms)
end-behind first terms None = nothing (binds first terms)
end-behind first terms (Some term) = ap (λ (o : Option Row). option_and_then bound o) (binds-snoc first terms term) ∙ at (binds first terms)
  where
    at : (o : Option Row) → option_and_then bound (option_and_then (λ next. bind next term) o) ≡ option_and_then (λ so. option_and_then (λ next. bound next) (bind so term)) o
    at None = refl
    at (Some so) = refl

ends : (first : Row) (terms : List Term) (reading : Reading) → all_units first terms reading [] ≡ units_behind first terms reading []
ends first terms Between = refl
ends first terms (At joined x) = end-behind first terms (plain_term joined x)
ends first terms (Joined joined) = nothing (binds first terms)
ends first terms (Selected joined x) = nothing (binds first terms)

agrees : (first : Row) (items : List Item) → Agrees first items
agrees first [] = λ terms reading. ends first terms reading
agrees first (Standing y ∷ items) = λ terms reading. standing first items (agrees first items) terms reading y
agrees first (Drawn a ∷ items) = λ terms reading. drawing first items (agrees first items) terms reading a
agrees first (Joining ∷ items) = λ terms reading. joining first items (agrees first items) terms reading
agrees first (Selecting ∷ items) = λ terms reading. selecting first items (agrees first items) terms reading
agrees first (Wrong ∷ items) = λ terms reading. nothing (binds first terms)

pub units_with-all : (items : List Item) → units_with (piece (row [] Free) Between) items ≡ units_in items
units_with-all items = sym (agrees (row [] Free) items [] Between)

-- The steps of the loop.

pub units_with-more : (so next : Piece) (item : Item) (items : List Item) → Some next ≡ put so item → units_with so (item ∷ items) ≡ units_with next items
units_with-more so next item items e = ap (λ (r : Option Piece). option_and_then (λ (p : Piece). units_with p items) r) (sym e)

pub units_with-stuck : (so : Piece) (item : Item) (items : List Item) → None ≡ put so item → units_with so (item ∷ items) ≡ None
units_with-stuck so item items e = ap (λ (r : Option Piece). option_and_then (λ (p : Piece). units_with p items) r) (sym e)

-- what a row is, a piece is
pub when-at : (fine : Bool) (reading : Reading) (next : Row) (given : Option Row) → when fine next ≡ given → when fine (piece next reading) ≡ next_at reading given
when-at true reading next given e = ap (λ (o : Option Row). next_at reading o) e
when-at false reading next given e = ap (λ (o : Option Row). next_at reading o) e

pub ruleset draw_laws = (when-at)

-- An element that is bound at once.

pub units_if-next : (fine : Bool) (next : Piece) (given : Option Piece) (items : List Item) → when fine next ≡ given → units_if fine next items ≡ option_and_then (λ (p : Piece). units_with p items) given
units_if-next true next given items e = ap (λ (o : Option Piece). option_and_then (λ (p : Piece). units_with p items) o) e
units_if-next false next given items e = ap (λ (o : Option Piece). option_and_then (λ (p : Piece). units_with p items) o) e

pub units_if-row : (fine : Bool) (next : Row) (given : Option Row) (items : List Item) → when fine next ≡ given → units_if fine (piece next Between) items ≡ option_and_then (λ (n : Row). units_with (piece n Between) items) given
units_if-row true next given items e = ap (λ (o : Option Row). option_and_then (λ (n : Row). units_with (piece n Between) items) o) e
units_if-row false next given items e = ap (λ (o : Option Row). option_and_then (λ (n : Row). units_with (piece n Between) items) o) e

-- where no joiner, dot or arrow follows, an element ends with the item before which it stands
pub plain-now : (row : Row) (y : Element) (items : List Item) → behind_of items ≡ Else
    → option_and_then (λ (n : Row). units_with (piece n Between) items) (with_term row (plain_term [] y)) ≡ units_with (piece row Between) (Standing y ∷ items)
plain-now row y [] e = refl
plain-now row y (Standing z ∷ items) e = at (with_term row (plain_term [] y))
  where
    at : (o : Option Row) → option_and_then (λ (n : Row). units_with (piece n Between) (Standing z ∷ items)) o ≡ option_and_then (λ (p : Piece). units_with p items) (next_at (At [] z) o)
    at None = refl
    at (Some n) = refl
plain-now row y (Wrong ∷ items) e = sym (nothing (with_term row (plain_term [] y)))
plain-now row y (Drawn a ∷ items) e = absurd (cc)
plain-now row y (Joining ∷ items) e = absurd (cc)
plain-now row y (Selecting ∷ items) e = absurd (cc)

pub aimed-now : (row : Row) (y : Element) (items : List Item) → behind_of items ≡ Draws
    → option_and_then (λ (n : Row). units_with (piece n Between) items) (with_term row (aimed_term [] y)) ≡ units_with (piece row Between) (Standing y ∷ items)
aimed-now row y (Drawn a ∷ items) e = at (with_term row (aimed_term [] y))
  where
    at : (o : Option Row) → option_and_then (λ (n : Row). units_with (piece n Between) (Drawn a ∷ items)) o ≡ option_and_then (λ (p : Piece). units_with p items) (next_at Between (option_and_then (λ (next : Row). drawn a next) o))
    at None = refl
    at (Some n) = refl
aimed-now row y [] e = absurd (cc)
aimed-now row y (Standing z ∷ items) e = absurd (cc)
aimed-now row y (Wrong ∷ items) e = absurd (cc)
aimed-now row y (Joining ∷ items) e = absurd (cc)
aimed-now row y (Selecting ∷ items) e = absurd (cc)

pub units_if-plain : (fine : Bool) (row next : Row) (y : Element) (items : List Item) → behind_of items ≡ Else → when fine next ≡ with_term row (plain_term [] y) → units_if fine (piece next Between) items ≡ units_with (piece row Between) (Standing y ∷ items)
units_if-plain fine row next y items e f = units_if-row fine next (with_term row (plain_term [] y)) items f ∙ plain-now row y items e

pub units_if-aimed : (fine : Bool) (row next : Row) (y : Element) (items : List Item) → behind_of items ≡ Draws → when fine next ≡ with_term row (aimed_term [] y) → units_if fine (piece next Between) items ≡ units_with (piece row Between) (Standing y ∷ items)
units_if-aimed fine row next y items e f = units_if-row fine next (with_term row (aimed_term [] y)) items f ∙ aimed-now row y items e

pub units_if-drawn : (fine : Bool) (row next : Row) (a : Arrow) (items : List Item) → when fine next ≡ drawn a row → units_if fine (piece next Between) items ≡ units_with (piece row Between) (Drawn a ∷ items)
units_if-drawn fine row next a items f = units_if-row fine next (drawn a row) items f ∙ at (drawn a row)
  where
    at : (o : Option Row) → option_and_then (λ (n : Row). units_with (piece n Between) items) o ≡ option_and_then (λ (p : Piece). units_with p items) (next_at Between o)
    at None = refl
    at (Some n) = refl

pub ruleset eager_laws = (units_if-next, units_if-plain, units_if-aimed, units_if-drawn)

-- The loop over the items, which are taken from the end of the list that is turned round.

pub items-last : (left rest : List CodeItem) (item : CodeItem) → left ≡ rest ++ item ∷ [] → items_of (reverse left) ≡ item_of item ∷ items_of (reverse rest)
items-last left rest item e = ap (λ (xs : List CodeItem). items_of (reverse xs)) e ∙ ap (λ (xs : List CodeItem). items_of xs) (reverse-append rest (item ∷ []))

pub items-turned : (all left : List CodeItem) → left ≡ reverse all → items_of (reverse left) ≡ items_of all
items-turned all left e = ap (λ (xs : List CodeItem). items_of (reverse xs)) e ∙ ap (λ (xs : List CodeItem). items_of xs) (reverse-reverse all)

pub ruleset turn_laws = (items-last, items-turned)

-- What stands after an item.

pub behind-none : (left : List CodeItem) → length left ≡ 0 → behind_of (items_of (reverse left)) ≡ Else
behind-none [] e = refl
behind-none (x ∷ left) e = absurd (omega arith)

pub ends-none : (left : List CodeItem) → length left ≡ 0 → ends_before (items_of (reverse left)) ≡ true
ends-none [] e = refl
ends-none (x ∷ left) e = absurd (omega arith)

pub ruleset behind_laws = (behind-none, ends-none, items-last)

pub ruleset loop_laws = (units_with-more, units_with-stuck, units_with-all)
