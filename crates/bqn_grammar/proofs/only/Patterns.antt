-- A pattern is read from what spells it alone.
use Rattle.std.proofs.Common.{◌≡◌, Bool, List, [], ◌∷◌, ◌++◌, Option, Some, None, refl, sym, ap, ◌∙◌, subst, append-nil}
use Rattle.std.specs.Option.{option_map}
use Rattle.bqn_syntax.specs.grammar.Items.{Element, Item, Standing, Joining, each, element_pattern, group_pattern, onto_first, groups, only_group, piece_pattern}
use Rattle.bqn_syntax.specs.grammar.Well.{WellPattern}
use Rattle.bqn_syntax.specs.grammar.Trees.{Pattern, StrandPattern, patterns}
use Rattle.bqn_grammar.proofs.TreeItems.{pattern_items, GoodItems}
use Rattle.bqn_grammar.proofs.only.Elements.{map_some, and_then_some, element_items, more_elements, elements_items, Good, Goods, element_good, element_one, pattern_is, patterns_are, each_two, two_patterns}

pub record ReadPattern (literals : Bool) (items : List Item) (q : Pattern) : Type 0 where
  pub written : pattern_items q ≡ items
  pub well : WellPattern literals q

abbrev IsSomeGroup : List Element → Type 0
IsSomeGroup [] = ⊥
IsSomeGroup (x ∷ xs) = Unit {0}

abbrev good_groups_items : List (List Element) → List Item
good_groups_items [] = []
good_groups_items (g ∷ gs) = elements_items g ++ good_groups_items gs

abbrev GoodGroups : Bool → List (List Element) → Type 0
GoodGroups b [] = Unit {0}
GoodGroups b (g ∷ gs) = IsSomeGroup g × Goods b g × GoodGroups b gs

record Grouped (b : Bool) (items : List Item) (gs : List (List Element)) : Type 0 where
  pub written : good_groups_items gs ≡ items
  pub good : GoodGroups b gs

some_more : (xs : List Element) → IsSomeGroup xs → more_elements xs ≡ Joining ∷ elements_items xs
some_more [] s = elim s [ ]
some_more (x ∷ xs) s = refl

onto_grouped : (b : Bool) (x : Element) (items : List Item) (o : Option (List (List Element))) (gs : List (List Element)) → Good b x → element_items x ≡ Standing x ∷ [] → ((hs : List (List Element)) → o ≡ Some hs → Grouped b items hs) → onto_first x o ≡ Some gs → Grouped b (Standing x ∷ Joining ∷ items) gs
onto_grouped b x items None gs g one k e = absurd (cc)
onto_grouped b x items (Some []) gs g one k e = absurd (cc)
onto_grouped b x items (Some (h ∷ hs)) gs g one k e =
    let q : (x ∷ h) ∷ hs ≡ gs = cc in
    let r = k (h ∷ hs) refl in
    let w : (element_items x ++ more_elements h) ++ good_groups_items hs ≡ Standing x ∷ Joining ∷ items =
    ap (λ (l : List Item). (element_items x ++ l) ++ good_groups_items hs) (some_more h r.good.0)
    ∙ ap (λ (l : List Item). (l ++ Joining ∷ elements_items h) ++ good_groups_items hs) one
    ∙ ap (λ (l : List Item). Standing x ∷ Joining ∷ l) r.written in
    subst (λ (l : List (List Element)). Grouped b (Standing x ∷ Joining ∷ items) l) q (record { written = w; good = (tt, (g, r.good.1), r.good.2) })

alone_grouped : (b : Bool) (x : Element) (items : List Item) (o : Option (List (List Element))) (gs : List (List Element)) → Good b x → element_items x ≡ Standing x ∷ [] → ((hs : List (List Element)) → o ≡ Some hs → Grouped b items hs) → option_map (λ (hs : List (List Element)). (x ∷ []) ∷ hs) o ≡ Some gs → Grouped b (Standing x ∷ items) gs
alone_grouped b x items None gs g one k e = absurd (cc)
alone_grouped b x items (Some hs) gs g one k e =
    let q : (x ∷ []) ∷ hs ≡ gs = cc in
    let r = k hs refl in
    let w : (element_items x ++ []) ++ good_groups_items hs ≡ Standing x ∷ items =
    ap (λ (l : List Item). (l ++ []) ++ good_groups_items hs) one
    ∙ ap (λ (l : List Item). Standing x ∷ l) r.written in
    subst (λ (l : List (List Element)). Grouped b (Standing x ∷ items) l) q (record { written = w; good = (tt, (g, tt), r.good) })

grouped : (b : Bool) (items : List Item) (gs : List (List Element)) → GoodItems b items → groups items ≡ Some gs → Grouped b items gs
grouped b [] gs g e = let q : [] ≡ gs = cc in subst (λ (l : List (List Element)). Grouped b [] l) q (record { written = refl; good = tt })
grouped b (Standing x ∷ Joining ∷ items) gs g e = onto_grouped b x items (groups items) gs (element_good b x g.0) (element_one b x g.0) (λ hs h. grouped b items hs g.1.1 h) e
grouped b (Standing x ∷ items) gs g e = alone_grouped b x items (groups items) gs (element_good b x g.0) (element_one b x g.0) (λ hs h. grouped b items hs g.1 h) e
grouped b _ gs g e = absurd (cc)

group_is : (b : Bool) (xs : List Element) (q : Pattern) → Goods b xs → group_pattern b xs ≡ Some q → ReadPattern b (elements_items xs) q
group_is b [] q g e = absurd (cc)
group_is b (x ∷ []) q g e = let k = pattern_is b x q g.0 e in record { written = k.written ∙ sym (append-nil (element_items x)); well = k.well }
group_is b (x ∷ y ∷ xs) q g e =
    let m = map_some (λ (qs : List Pattern). StrandPattern (patterns qs)) (each (element_pattern b) (x ∷ y ∷ xs)) q e in
    let k = patterns_are b (x ∷ y ∷ xs) m.0 g m.1 in
    subst (λ (p : Pattern). ReadPattern b (elements_items (x ∷ y ∷ xs)) p) m.2 (record { written = k.written; well = (two_patterns m.0 (each_two (element_pattern b) x y xs m.0 m.1), k.well) })

only_is : (b : Bool) (items : List Item) (gs : List (List Element)) (q : Pattern) → Grouped b items gs → only_group b gs ≡ Some q → ReadPattern b items q
only_is b items [] q r e = absurd (cc)
only_is b items (g ∷ h ∷ gs) q r e = absurd (cc)
only_is b items (g ∷ []) q r e = let k = group_is b g q r.good.1 e in record { written = k.written ∙ sym (append-nil (elements_items g)) ∙ r.written; well = k.well }

pub pattern_only : (literals : Bool) (items : List Item) (q : Pattern) → GoodItems literals items → piece_pattern literals items ≡ Some q → ReadPattern literals items q
pattern_only b items q g e = let m = and_then_some (only_group b) (groups items) q e in only_is b items m.0 q (grouped b items m.0 g m.1) m.2
