-- Elements that are joined, and what they are: a pattern, or a term.
use Rattle.std.proofs.Common.{◌≡◌, Bool, true, false, List, [], ◌∷◌, ◌++◌, Option, Some, None, refl, sym, ap, ◌∙◌, subst, append_assoc, append-nil}
use Rattle.bqn_syntax.specs.declared.token.Kind.{Kind}
use Rattle.bqn_syntax.specs.declared.token.Kind.TheVariants as kind
use Rattle.bqn_syntax.specs.declared.token.Token.{Token}
use Rattle.bqn_syntax.specs.grammar.Sorts.{is_word}
use Rattle.bqn_syntax.specs.grammar.Items.{Element, OfPart, OfList, Item, Standing, Joining, both, each, leaf_pattern, element_pattern, element_part}
use Rattle.bqn_syntax.specs.grammar.Well.{WellPart, WellParts, WellPattern, WellJoined, IsNoStrand, IsLiteral, AreTwo, AreTwoParts, IsElement}
use Rattle.bqn_syntax.specs.grammar.Trees.{Pattern, Name, Skip, Literal, ListPattern, StrandPattern, patterns, Part, Leaf, Field, Strand, Nothing, parts}
use Rattle.bqn_grammar.proofs.TreeItems.{part_item, part_items, parts_items, parts_more_items, pattern_items, joined_items, joined_more_items, IsOne, IsList, GoodElement}
pub use Rattle.bqn_grammar.proofs.Options.{and_then_some, map_some}

both_some : {A : Type 0} (o : Option A) (os : Option (List A)) (l : List A) → both o os ≡ Some l → (x : A) × (xs : List A) × (o ≡ Some x) × (os ≡ Some xs) × (l ≡ x ∷ xs)
both_some None os l e = absurd (cc)
both_some (Some x) None l e = absurd (cc)
both_some (Some x) (Some xs) l e = (x, xs, refl, refl, (cc))

-- The items of elements.

abbrev pub element_items : Element → List Item
element_items (OfPart x) = part_items x
element_items (OfList q) = pattern_items q

abbrev pub more_elements : List Element → List Item
more_elements [] = []
more_elements (x ∷ xs) = Joining ∷ (element_items x ++ more_elements xs)

abbrev pub elements_items : List Element → List Item
elements_items [] = []
elements_items (x ∷ xs) = element_items x ++ more_elements xs

-- each before a joiner
abbrev pub joins : List Element → List Item
joins [] = []
joins (x ∷ xs) = element_items x ++ Joining ∷ joins xs

more_is : (ys : List Element) (x : Element) → more_elements (ys ++ x ∷ []) ≡ Joining ∷ elements_items (ys ++ x ∷ [])
more_is [] x = refl
more_is (y ∷ ys) x = refl

pub joins_last : (ys : List Element) (x : Element) → elements_items (ys ++ x ∷ []) ≡ joins ys ++ element_items x
joins_last [] x = append-nil (element_items x)
joins_last (y ∷ ys) x =
    ap (λ (l : List Item). element_items y ++ l) (more_is ys x ∙ ap (λ (l : List Item). Joining ∷ l) (joins_last ys x))
    ∙ sym (append_assoc (element_items y) (Joining ∷ joins ys) (element_items x))

-- What is kept of an element: a field, or one item.

abbrev pub IsNoStrandPart : Part → Type 0
IsNoStrandPart (Strand ps) = ⊥
IsNoStrandPart _ = Unit {0}

abbrev pub GoodPart : Part → Type 0
GoodPart x = IsNoStrandPart x × WellPart x

abbrev pub Good : Bool → Element → Type 0
Good literals (OfPart x) = GoodPart x
Good literals (OfList q) = IsList q × WellPattern literals q

abbrev pub Goods : Bool → List Element → Type 0
Goods literals [] = Unit {0}
Goods literals (x ∷ xs) = Good literals x × Goods literals xs

pub goods_last : (b : Bool) (xs : List Element) (x : Element) → Goods b xs → Good b x → Goods b (xs ++ x ∷ [])
goods_last b [] x g h = (h, tt)
goods_last b (y ∷ xs) x g h = (g.0, goods_last b xs x g.1 h)

no_strand : (x : Part) → IsOne x → IsNoStrandPart x
no_strand (Strand ps) o = elim o [ ]
no_strand _ o = tt

pub element_good : (b : Bool) (x : Element) → GoodElement b x → Good b x
element_good b (OfPart x) g = (no_strand x g.0, g.1)
element_good b (OfList q) g = g

one_part : (x : Part) → IsOne x → part_items x ≡ part_item x ∷ []
one_part (Strand ps) o = elim o [ ]
one_part (Field x names) o = elim o [ ]
one_part _ o = refl

one_list : (q : Pattern) → IsList q → pattern_items q ≡ Standing (OfList q) ∷ []
one_list (ListPattern qs) o = refl
one_list (Name t) o = elim o [ ]
one_list (Skip p) o = elim o [ ]
one_list (Literal t) o = elim o [ ]
one_list (StrandPattern qs) o = elim o [ ]

pub element_one : (b : Bool) (x : Element) → GoodElement b x → element_items x ≡ Standing x ∷ []
element_one b (OfPart x) g = one_part x g.0
element_one b (OfList q) g = one_list q g.0

-- Elements of strands.

pub record PartOf (x : Element) (p : Part) : Type 0 where
  pub written : part_items p ≡ element_items x
  pub element : IsElement p
  pub well : WellPart p

element_is : (b : Bool) (x : Element) (p : Part) → Good b x → element_part x ≡ Some p → PartOf x p
element_is b (OfList q) p g e = absurd (cc)
element_is b (OfPart (Nothing place)) p g e = absurd (cc)
element_is b (OfPart (Strand ps)) p g e = elim g.0 [ ]
element_is b (OfPart y) p g e = let q : y ≡ p = cc in subst (λ (z : Part). PartOf (OfPart y) z) q (record { written = refl; element = tt; well = g.1 })

pub record PartsOf (xs : List Element) (ps : List Part) : Type 0 where
  pub written : parts_items (parts ps) ≡ elements_items xs
  pub rest : parts_more_items (parts ps) ≡ more_elements xs
  pub well : WellParts (parts ps)

pub elements_are : (b : Bool) (xs : List Element) (ps : List Part) → Goods b xs → each element_part xs ≡ Some ps → PartsOf xs ps
elements_are b [] ps g e = let q : [] ≡ ps = cc in subst (λ (l : List Part). PartsOf [] l) q (record { written = refl; rest = refl; well = tt })
elements_are b (x ∷ xs) ps g e =
    let h = both_some (element_part x) (each element_part xs) ps e in
    let k = element_is b x h.0 g.0 h.2 in
    let r = elements_are b xs h.1 g.1 h.3 in
    let w : part_items h.0 ++ parts_more_items (parts h.1) ≡ element_items x ++ more_elements xs = ap (λ (l : List Item). l ++ parts_more_items (parts h.1)) k.written ∙ ap (λ (l : List Item). element_items x ++ l) r.rest in
    subst (λ (l : List Part). PartsOf (x ∷ xs) l) (sym h.4) (record { written = w; rest = ap (λ (l : List Item). Joining ∷ l) w; well = (k.element, k.well, r.well) })

-- Elements of patterns.

pub record PatternOf (b : Bool) (items : List Item) (q : Pattern) : Type 0 where
  pub written : pattern_items q ≡ items
  pub element : IsNoStrand q
  pub well : WellPattern b q

name_is : (b : Bool) (t : Token) (q : Pattern) → is_word t.kind ≡ true → Some (Name t) ≡ Some q → PatternOf b (part_item (Leaf t) ∷ []) q
name_is b t q w e = let n : Name t ≡ q = cc in subst (λ (p : Pattern). PatternOf b (part_item (Leaf t) ∷ []) p) n (record { written = refl; element = tt; well = w })

literal_is : (t : Token) (q : Pattern) → IsLiteral t.kind → Some (Literal t) ≡ Some q → PatternOf true (part_item (Leaf t) ∷ []) q
literal_is t q w e = let n : Literal t ≡ q = cc in subst (λ (p : Pattern). PatternOf true (part_item (Leaf t) ∷ []) p) n (record { written = refl; element = tt; well = (refl, w) })

pub leaf_is : (b : Bool) (k : Kind) (t : Token) (q : Pattern) → k ≡ t.kind → leaf_pattern b k t ≡ Some q → PatternOf b (part_item (Leaf t) ∷ []) q
leaf_is false (kind.Word name r) t q h e = name_is false t q (sym (ap is_word h)) e
leaf_is true (kind.Word name r) t q h e = name_is true t q (sym (ap is_word h)) e
leaf_is true (kind.Number z) t q h e = literal_is t q (subst IsLiteral h tt) e
leaf_is true (kind.Char c) t q h e = literal_is t q (subst IsLiteral h tt) e
leaf_is true (kind.Text s) t q h e = literal_is t q (subst IsLiteral h tt) e
leaf_is _ _ t q h e = absurd (cc)

list_no_strand : (q : Pattern) → IsList q → IsNoStrand q
list_no_strand (StrandPattern qs) o = elim o [ ]
list_no_strand _ o = tt

pub pattern_is : (b : Bool) (x : Element) (q : Pattern) → Good b x → element_pattern b x ≡ Some q → PatternOf b (element_items x) q
pattern_is b (OfPart (Leaf t)) q g e = leaf_is b t.kind t q refl e
pattern_is b (OfPart (Nothing place)) q g e = let n : Skip place ≡ q = cc in subst (λ (p : Pattern). PatternOf b (part_item (Nothing place) ∷ []) p) n (record { written = refl; element = tt; well = tt })
pattern_is b (OfList p) q g e = let n : p ≡ q = cc in subst (λ (r : Pattern). PatternOf b (pattern_items p) r) n (record { written = refl; element = list_no_strand p g.0; well = g.1 })
pattern_is b _ q g e = absurd (cc)

pub record PatternsOf (b : Bool) (xs : List Element) (qs : List Pattern) : Type 0 where
  pub written : joined_items (patterns qs) ≡ elements_items xs
  pub rest : joined_more_items (patterns qs) ≡ more_elements xs
  pub well : WellJoined b (patterns qs)

pub patterns_are : (b : Bool) (xs : List Element) (qs : List Pattern) → Goods b xs → each (element_pattern b) xs ≡ Some qs → PatternsOf b xs qs
patterns_are b [] qs g e = let q : [] ≡ qs = cc in subst (λ (l : List Pattern). PatternsOf b [] l) q (record { written = refl; rest = refl; well = tt })
patterns_are b (x ∷ xs) qs g e =
    let h = both_some (element_pattern b x) (each (element_pattern b) xs) qs e in
    let k = pattern_is b x h.0 g.0 h.2 in
    let r = patterns_are b xs h.1 g.1 h.3 in
    let w : pattern_items h.0 ++ joined_more_items (patterns h.1) ≡ element_items x ++ more_elements xs = ap (λ (l : List Item). l ++ joined_more_items (patterns h.1)) k.written ∙ ap (λ (l : List Item). element_items x ++ l) r.rest in
    subst (λ (l : List Pattern). PatternsOf b (x ∷ xs) l) (sym h.4) (record { written = w; rest = ap (λ (l : List Item). Joining ∷ l) w; well = (k.element, k.well, r.well) })

-- Strands have at least two elements.

abbrev pub AtLeastTwo : {A : Type 0} → List A → Type 0
AtLeastTwo [] = ⊥
AtLeastTwo (x ∷ []) = ⊥
AtLeastTwo (x ∷ y ∷ xs) = Unit {0}

pub each_two : {A B : Type 0} (f : A → Option B) (x y : A) (xs : List A) (l : List B) → each f (x ∷ y ∷ xs) ≡ Some l → AtLeastTwo l
each_two {A} {B} f x y xs l e =
    let h = both_some (f x) (each f (y ∷ xs)) l e in
    let k = both_some (f y) (each f xs) h.1 h.3 in
    let q : l ≡ h.0 ∷ k.0 ∷ k.1 = h.4 ∙ ap (λ (r : List B). h.0 ∷ r) k.4 in
    subst (λ (r : List B). AtLeastTwo r) (sym q) tt

pub each_joined : {A B : Type 0} (f : A → Option B) (y : A) (ys : List A) (x : A) (l : List B) → each f (y ∷ (ys ++ x ∷ [])) ≡ Some l → AtLeastTwo l
each_joined f y [] x l e = each_two f y x [] l e
each_joined f y (z ∷ ys) x l e = each_two f y z (ys ++ x ∷ []) l e

pub two_parts : (ps : List Part) → AtLeastTwo ps → AreTwoParts (parts ps)
two_parts [] a = elim a [ ]
two_parts (x ∷ []) a = elim a [ ]
two_parts (x ∷ y ∷ xs) a = tt

pub two_patterns : (qs : List Pattern) → AtLeastTwo qs → AreTwo (patterns qs)
two_patterns [] a = elim a [ ]
two_patterns (x ∷ []) a = elim a [ ]
two_patterns (x ∷ y ∷ xs) a = tt
