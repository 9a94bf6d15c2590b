-- Groups of joined elements.
use Rattle.std.proofs.Common.{◌≡◌, ◌≤◌, List, [], ◌∷◌, ◌++◌, length, reverse, Bool, Option, Some, None, refl, sym, ap, ◌∙◌, arith}
use Rattle.std.specs.Option.{option_map, option_and_then}
use Rattle.bqn_syntax.specs.declared.tree.Arrow.{Arrow}
use Rattle.bqn_syntax.specs.grammar.Items.{Element, Item, Standing, Drawn, Joining, Selecting, Wrong, each, element_pattern, group_pattern, onto_first, groups, only_group, piece_pattern}
use Rattle.bqn_syntax.specs.grammar.Trees.{Pattern, StrandPattern, patterns}
use Rattle.bqn_parse.specs.declared.item.Item.{Item as CodeItem}
use Rattle.bqn_parse.specs.Views.{items_of}
use Rattle.bqn_parse.specs.Strands.{Strung, one_more, strung, behind_last, spelled, spelt, ended}

strung-more : (xs : List Element) (x : Element) (items : List Item) → strung xs (Standing x ∷ Joining ∷ items) ≡ strung (xs ++ x ∷ []) items
strung-more [] x items = refl
strung-more (y ∷ ys) x items = ap (λ (l : List Item). Standing y ∷ Joining ∷ l) (strung-more ys x items)

-- the groups, where these elements stand before the first one
abbrev strung_groups : List Element → Option (List (List Element)) → Option (List (List Element))
strung_groups [] gs = gs
strung_groups (x ∷ xs) gs = onto_first x (strung_groups xs gs)

groups-strung : (xs : List Element) (items : List Item) → groups (strung xs items) ≡ strung_groups xs (groups items)
groups-strung [] items = refl
groups-strung (x ∷ xs) items = ap (λ (gs : Option (List (List Element))). onto_first x gs) (groups-strung xs items)

strung-one : (xs ys : List Element) → strung_groups xs (Some (ys ∷ [])) ≡ Some ((xs ++ ys) ∷ [])
strung-one [] ys = refl
strung-one (x ∷ xs) ys = ap (λ (gs : Option (List (List Element))). onto_first x gs) (strung-one xs ys)

piece-end : (literals : Bool) (xs : List Element) (x : Element) → piece_pattern literals (strung xs (Standing x ∷ [])) ≡ group_pattern literals (xs ++ x ∷ [])
piece-end literals xs x = ap (λ (gs : Option (List (List Element))). option_and_then (only_group literals) gs) (groups-strung xs (Standing x ∷ []) ∙ strung-one xs (x ∷ []))

piece-more : (literals : Bool) (xs : List Element) (x : Element) (items : List Item) → piece_pattern literals (strung xs (Standing x ∷ Joining ∷ items)) ≡ piece_pattern literals (strung (xs ++ x ∷ []) items)
piece-more literals xs x items = ap (λ (l : List Item). piece_pattern literals l) (strung-more xs x items)

-- there is not exactly one group
abbrev NotOne : Option (List (List Element)) → Type 0
NotOne None = Unit {0}
NotOne (Some []) = Unit {0}
NotOne (Some (g ∷ [])) = ⊥
NotOne (Some (g ∷ h ∷ gs)) = Unit {0}

abbrev NotEmpty : Option (List (List Element)) → Type 0
NotEmpty None = Unit {0}
NotEmpty (Some []) = ⊥
NotEmpty (Some (g ∷ gs)) = Unit {0}

not_one-none : (literals : Bool) (gs : Option (List (List Element))) → NotOne gs → option_and_then (only_group literals) gs ≡ None
not_one-none literals None n = refl
not_one-none literals (Some []) n = refl
not_one-none literals (Some (g ∷ [])) n = absurd n
not_one-none literals (Some (g ∷ h ∷ gs)) n = refl

not_one-onto : (x : Element) (gs : Option (List (List Element))) → NotOne gs → NotOne (onto_first x gs)
not_one-onto x None n = tt
not_one-onto x (Some []) n = tt
not_one-onto x (Some (g ∷ [])) n = n
not_one-onto x (Some (g ∷ h ∷ gs)) n = tt

not_one-strung : (xs : List Element) (gs : Option (List (List Element))) → NotOne gs → NotOne (strung_groups xs gs)
not_one-strung [] gs n = n
not_one-strung (x ∷ xs) gs n = not_one-onto x (strung_groups xs gs) (not_one-strung xs gs n)

piece-none : (literals : Bool) (xs : List Element) (items : List Item) → NotOne (groups items) → piece_pattern literals (strung xs items) ≡ None
piece-none literals xs items n =
    ap (λ (gs : Option (List (List Element))). option_and_then (only_group literals) gs) (groups-strung xs items)
    ∙ not_one-none literals (strung_groups xs (groups items)) (not_one-strung xs (groups items) n)

-- an element begins a group
not_empty-onto : (x : Element) (gs : Option (List (List Element))) → NotEmpty (onto_first x gs)
not_empty-onto x None = tt
not_empty-onto x (Some []) = tt
not_empty-onto x (Some (g ∷ gs)) = tt

not_empty-before : (x : Element) (gs : Option (List (List Element))) → NotEmpty (option_map (λ gs. (x ∷ []) ∷ gs) gs)
not_empty-before x None = tt
not_empty-before x (Some gs) = tt

not_empty-standing : (x : Element) (items : List Item) → NotEmpty (groups (Standing x ∷ items))
not_empty-standing x [] = tt
not_empty-standing x (Joining ∷ items) = not_empty-onto x (groups items)
not_empty-standing x (Standing y ∷ items) = not_empty-before x (groups (Standing y ∷ items))
not_empty-standing x (Drawn a ∷ items) = tt
not_empty-standing x (Selecting ∷ items) = tt
not_empty-standing x (Wrong ∷ items) = tt

not_one-before : (x : Element) (gs : Option (List (List Element))) → NotEmpty gs → NotOne (option_map (λ gs. (x ∷ []) ∷ gs) gs)
not_one-before x None n = tt
not_one-before x (Some []) n = absurd n
not_one-before x (Some (g ∷ gs)) n = tt

-- where an element is wanted

wanted-end : (literals : Bool) (xs : List Element) → piece_pattern literals (strung xs []) ≡ None
wanted-end literals xs = piece-none literals xs [] tt

wanted-drawn : (literals : Bool) (xs : List Element) (a : Arrow) (items : List Item) → piece_pattern literals (strung xs (Drawn a ∷ items)) ≡ None
wanted-drawn literals xs a items = piece-none literals xs (Drawn a ∷ items) tt

wanted-joining : (literals : Bool) (xs : List Element) (items : List Item) → piece_pattern literals (strung xs (Joining ∷ items)) ≡ None
wanted-joining literals xs items = piece-none literals xs (Joining ∷ items) tt

wanted-selecting : (literals : Bool) (xs : List Element) (items : List Item) → piece_pattern literals (strung xs (Selecting ∷ items)) ≡ None
wanted-selecting literals xs items = piece-none literals xs (Selecting ∷ items) tt

wanted-wrong : (literals : Bool) (xs : List Element) (items : List Item) → piece_pattern literals (strung xs (Wrong ∷ items)) ≡ None
wanted-wrong literals xs items = piece-none literals xs (Wrong ∷ items) tt

-- after an element

behind-standing : (literals : Bool) (xs : List Element) (x y : Element) (items : List Item) → piece_pattern literals (strung xs (Standing x ∷ Standing y ∷ items)) ≡ None
behind-standing literals xs x y items = piece-none literals xs (Standing x ∷ Standing y ∷ items) (not_one-before x (groups (Standing y ∷ items)) (not_empty-standing y items))

behind-drawn : (literals : Bool) (xs : List Element) (x : Element) (a : Arrow) (items : List Item) → piece_pattern literals (strung xs (Standing x ∷ Drawn a ∷ items)) ≡ None
behind-drawn literals xs x a items = piece-none literals xs (Standing x ∷ Drawn a ∷ items) tt

behind-selecting : (literals : Bool) (xs : List Element) (x : Element) (items : List Item) → piece_pattern literals (strung xs (Standing x ∷ Selecting ∷ items)) ≡ None
behind-selecting literals xs x items = piece-none literals xs (Standing x ∷ Selecting ∷ items) tt

behind-wrong : (literals : Bool) (xs : List Element) (x : Element) (items : List Item) → piece_pattern literals (strung xs (Standing x ∷ Wrong ∷ items)) ≡ None
behind-wrong literals xs x items = piece-none literals xs (Standing x ∷ Wrong ∷ items) tt

one_more-is : (literals : Bool) (xs : List Element) (last : Option Element) (item : Item) (items : List Item) → piece_pattern literals (strung xs (behind_last last (item ∷ items))) ≡ option_and_then (λ (next : Strung). piece_pattern literals (spelled next items)) (one_more (record { elements = xs; last = last }) item)
one_more-is literals xs None (Standing y) items = refl
one_more-is literals xs None (Drawn a) items = wanted-drawn literals xs a items
one_more-is literals xs None Joining items = wanted-joining literals xs items
one_more-is literals xs None Selecting items = wanted-selecting literals xs items
one_more-is literals xs None Wrong items = wanted-wrong literals xs items
one_more-is literals xs (Some x) (Standing y) items = behind-standing literals xs x y items
one_more-is literals xs (Some x) (Drawn a) items = behind-drawn literals xs x a items
one_more-is literals xs (Some x) Joining items = piece-more literals xs x items
one_more-is literals xs (Some x) Selecting items = behind-selecting literals xs x items
one_more-is literals xs (Some x) Wrong items = behind-wrong literals xs x items

pub put-more : (literals : Bool) (so next : Strung) (item : Item) (items : List Item) → Some next ≡ one_more so item → spelt literals so (item ∷ items) ≡ spelt literals next items
unfolding spelt
put-more literals so next item items e =
    one_more-is literals so.elements so.last item items
    ∙ ap (λ (r : Option Strung). option_and_then (λ (t : Strung). piece_pattern literals (spelled t items)) r) (sym e)

pub put-stuck : (literals : Bool) (so : Strung) (item : Item) (items : List Item) → None ≡ one_more so item → spelt literals so (item ∷ items) ≡ None
unfolding spelt
put-stuck literals so item items e =
    one_more-is literals so.elements so.last item items
    ∙ ap (λ (r : Option Strung). option_and_then (λ (t : Strung). piece_pattern literals (spelled t items)) r) (sym e)

pub put-start : (literals : Bool) (xs : List Element) (items : List Item) → [] ≡ xs → spelt literals (record { elements = xs; last = None }) items ≡ piece_pattern literals items
unfolding spelt
put-start literals xs items e = ap (λ (ys : List Element). piece_pattern literals (strung ys items)) (sym e)

ends : (literals : Bool) (xs : List Element) (last : Option Element) → piece_pattern literals (strung xs (behind_last last [])) ≡ ended literals xs last
ends literals xs None = wanted-end literals xs
ends literals xs (Some x) = piece-end literals xs x

pub put-end : (literals : Bool) (so : Strung) (left : List CodeItem) → length left ≡ 0 → spelt literals so (items_of (reverse left)) ≡ ended literals so.elements so.last
unfolding spelt
put-end literals so [] none = ends literals so.elements so.last
put-end literals so (item ∷ left) none = absurd (omega arith)

pub ruleset piece_laws = (put-more, put-stuck, put-start, put-end)

-- several elements
pub group-several : (literals : Bool) (xs : List Element) → 2 ≤ length xs → group_pattern literals xs ≡ option_map (λ (qs : List Pattern). StrandPattern (patterns qs)) (each (element_pattern literals) xs)
group-several literals [] few = absurd (omega arith)
group-several literals (x ∷ []) few = absurd (omega arith)
group-several literals (x ∷ y ∷ xs) few = refl

pub ruleset group_laws = (group-several)
