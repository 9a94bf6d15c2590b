-- The steps of a value and the targets of an operation are read from what spells them alone.
use Rattle.std.proofs.Common.{◌≡◌, Bool, true, false, List, [], ◌∷◌, ◌++◌, Option, Some, None, refl, sym, ap, ◌∙◌, subst, append_assoc, append-nil}
use Rattle.std.specs.Option.{option_and_then}
use Rattle.bqn_syntax.specs.declared.token.Kind.{Kind}
use Rattle.bqn_syntax.specs.declared.token.Kind.TheVariants as kind
use Rattle.bqn_syntax.specs.declared.token.Token.{Token}
use Rattle.bqn_syntax.specs.declared.tree.Arrow.{Arrow}
use Rattle.bqn_syntax.specs.declared.tree.Arrow.TheVariants as arrow
use Rattle.bqn_syntax.specs.declared.sort.Tag.{Tag}
use Rattle.bqn_syntax.specs.declared.sort.Tag.TheVariants as tag
use Rattle.bqn_syntax.specs.grammar.Sorts.{tag as tag_of, named, token_named, is_name, is_word}
use Rattle.bqn_syntax.specs.grammar.Items.{Item, Drawn}
use Rattle.bqn_syntax.specs.grammar.Units.{Unit', Subject, Function, Absent, Alone, Arrow', Aim}
use Rattle.bqn_syntax.specs.grammar.Expressions.{more, assigned, changed, steps_of, single, targets}
use Rattle.bqn_syntax.specs.grammar.Well.{WellPart, WellSteps, IsLeft, IsLast, IsTarget, BeginsWithChange, TargetsFit}
use Rattle.bqn_syntax.specs.grammar.Trees.{Pattern, Name, Skip, Literal, ListPattern, StrandPattern, Part, Leaf, Derived, derived, no_uses, and_uses, some, none, Step, Apply, Assign, Modify, Steps, no_steps, and_steps}
use Rattle.bqn_grammar.proofs.TreeItems.{part_item, part_items, pattern_items, derived_items, steps_items, target_items}
use Rattle.bqn_grammar.proofs.only.Elements.{map_some, and_then_some}
use Rattle.bqn_grammar.proofs.only.Terms.{IsAim}
use Rattle.bqn_grammar.proofs.only.Units.{unit_items, units_items, WellUnit, WellUnits}

-- Names.

token_named_is : (r : Tag) (b : Bool) (u t : Token) → is_name r u.kind ≡ b → token_named b u ≡ Some t → (Leaf u ≡ Leaf t) × (is_name r t.kind ≡ true)
token_named_is r false u t h e = absurd (cc)
token_named_is r true u t h e = let q : u ≡ t = cc in (ap (λ (v : Token). Leaf v) q, subst (λ (v : Token). is_name r v.kind ≡ true) q h)

pub named_is : (r : Tag) (x : Part) (t : Token) → named r x ≡ Some t → (x ≡ Leaf t) × (is_name r t.kind ≡ true)
named_is r (Leaf u) t e = token_named_is r (is_name r u.kind) u t refl e
named_is r _ t e = absurd (cc)

name_word : (r : Tag) (k : Kind) → is_name r k ≡ true → is_word k ≡ true
name_word r (kind.Word name role) e = refl
name_word r _ e = absurd (cc)

-- Steps.

pub record ReadSteps (units : List Unit') (ss : Steps) : Type 0 where
  pub written : steps_items ss ≡ units_items units
  pub well : WellSteps ss

more_is : (s : Step) (o : Option Steps) (ss : Steps) → more s o ≡ Some ss → (rest : Steps) × (o ≡ Some rest) × (and_steps s rest ≡ ss)
more_is s o ss e = map_some (λ (all : Steps). and_steps s all) o ss e

assigned_is : (n : Option Token) (a : Arrow) (o : Option Steps) (ss : Steps) → assigned n a o ≡ Some ss → (t : Token) × (rest : Steps) × (n ≡ Some t) × (o ≡ Some rest) × (and_steps (Assign (Name t) a) rest ≡ ss)
assigned_is None a o ss e = absurd (cc)
assigned_is (Some t) a o ss e = let m = more_is (Assign (Name t) a) o ss e in (t, m.0, refl, m.1, m.2)

pub changed_is : (n : Option Token) (f : Derived) (o : Option Steps) (ss : Steps) → changed n f o ≡ Some ss → (t : Token) × (rest : Steps) × (n ≡ Some t) × (o ≡ Some rest) × (and_steps (Modify t f) rest ≡ ss)
changed_is None f o ss e = absurd (cc)
changed_is (Some t) f o ss e = let m = more_is (Modify t f) o ss e in (t, m.0, refl, m.1, m.2)

two : (a b c d e : List Item) → a ≡ b → c ≡ d → a ++ (c ++ e) ≡ (b ++ d) ++ e
two a b c d e p q = sym (append_assoc a c e) ∙ ap (λ (l : List Item). (l ++ c) ++ e) p ∙ ap (λ (l : List Item). (b ++ l) ++ e) q

three : (a b c d e f : List Item) → a ≡ b → c ≡ d → a ++ (c ++ (e ++ f)) ≡ ((b ++ d) ++ e) ++ f
three a b c d e f p q = two a b c d (e ++ f) p q ∙ sym (append_assoc (b ++ d) e f)

with_left : (f : Derived) (x : Part) (units : List Unit') (rest ss : Steps) → WellUnit (Function f) → IsLeft (tag_of x) → WellPart x → ReadSteps units rest → and_steps (Apply f (some x)) rest ≡ ss → (steps_items ss ≡ (units_items units ++ part_items x) ++ derived_items f) × WellSteps ss
with_left f x units rest ss w i v r e =
    subst (λ (l : Steps). (steps_items l ≡ (units_items units ++ part_items x) ++ derived_items f) × WellSteps l) e
    (two (steps_items rest) (units_items units) (part_items x) (part_items x) (derived_items f) r.written refl, ((w.0, w.1, i, v), r.well))

is_left : (x : Part) (t : Tag) → IsLeft t → tag_of x ≡ t → IsLeft (tag_of x)
is_left x t i e = subst IsLeft (sym e) i

is_target : (q : Pattern) → IsAim q → IsTarget q
is_target (ListPattern qs) a = tt
is_target (StrandPattern qs) a = tt
is_target (Name t) a = elim a [ ]
is_target (Skip p) a = elim a [ ]
is_target (Literal t) a = elim a [ ]

pub steps_read : (units : List Unit') (ss : Steps) → WellUnits units → steps_of units ≡ Some ss → ReadSteps units ss
steps_read [] ss w e = let q : no_steps ≡ ss = cc in subst (λ (l : Steps). ReadSteps [] l) q (record { written = refl; well = tt })
steps_read (Function f ∷ Subject x ∷ units) ss w e =
    let m = more_is (Apply f (some x)) (steps_of units) ss e in
    let k = with_left f x units m.0 ss w.0 (is_left x tag.Subject tt w.2.0.0) w.2.0.1 (steps_read units m.0 w.2.2 m.1) m.2 in
    record { written = k.0; well = k.1 }
steps_read (Function f ∷ Absent x ∷ units) ss w e =
    let m = more_is (Apply f (some x)) (steps_of units) ss e in
    let k = with_left f x units m.0 ss w.0 (is_left x tag.Nothing tt w.2.0.0) w.2.0.1 (steps_read units m.0 w.2.2 m.1) m.2 in
    record { written = k.0; well = k.1 }
steps_read (Function f ∷ units) ss w e =
    let m = more_is (Apply f none) (steps_of units) ss e in
    let r = steps_read units m.0 w.2 m.1 in
    subst (λ (l : Steps). ReadSteps (Function f ∷ units) l) m.2 (record { written = ap (λ (l : List Item). l ++ derived_items f) r.written; well = (w.0, r.well) })
steps_read (Arrow' a ∷ Aim q ∷ units) ss w e =
    let m = more_is (Assign q a) (steps_of units) ss e in
    let r = steps_read units m.0 w.2.2 m.1 in
    subst (λ (l : Steps). ReadSteps (Arrow' a ∷ Aim q ∷ units) l) m.2 (record { written = two (steps_items m.0) (units_items units) (pattern_items q) (pattern_items q) (Drawn a ∷ []) r.written refl; well = ((is_target q w.2.0.0, w.2.0.1), r.well) })
steps_read (Arrow' a ∷ Subject x ∷ units) ss w e =
    let m = assigned_is (named tag.Subject x) a (steps_of units) ss e in
    let r = steps_read units m.1 w.2.2 m.3 in
    let n = named_is tag.Subject x m.0 m.2 in
    subst (λ (l : Steps). ReadSteps (Arrow' a ∷ Subject x ∷ units) l) m.4 (record { written = two (steps_items m.1) (units_items units) (part_item (Leaf m.0) ∷ []) (part_items x) (Drawn a ∷ []) r.written (sym (ap part_items n.0)); well = ((n.1, name_word tag.Subject m.0.kind n.1), r.well) })
steps_read (Arrow' arrow.Change ∷ Function f ∷ Subject x ∷ units) ss w e =
    let m = changed_is (named tag.Subject x) f (steps_of units) ss e in
    let r = steps_read units m.1 w.2.2.2 m.3 in
    let n = named_is tag.Subject x m.0 m.2 in
    subst (λ (l : Steps). ReadSteps (Arrow' arrow.Change ∷ Function f ∷ Subject x ∷ units) l) m.4 (record { written = three (steps_items m.1) (units_items units) (part_item (Leaf m.0) ∷ []) (part_items x) (derived_items f) (Drawn arrow.Change ∷ []) r.written (sym (ap part_items n.0)); well = ((n.1, w.2.0.0, w.1, w.2.0.1), r.well) })
steps_read _ ss w e = absurd (cc)

apply_first : (f : Derived) (o : Option Steps) (ss : Steps) → more (Apply f none) o ≡ Some ss → IsLast tag.Nothing ss
apply_first f o ss e = let m = more_is (Apply f none) o ss e in subst (λ (l : Steps). IsLast tag.Nothing l) m.2 tt

apply_first_left : (f : Derived) (x : Part) (o : Option Steps) (ss : Steps) → more (Apply f (some x)) o ≡ Some ss → IsLast tag.Nothing ss
apply_first_left f x o ss e = let m = more_is (Apply f (some x)) o ss e in subst (λ (l : Steps). IsLast tag.Nothing l) m.2 tt

pub begins_apply : (f : Derived) (units : List Unit') (ss : Steps) → steps_of (Function f ∷ units) ≡ Some ss → IsLast tag.Nothing ss
begins_apply f (Subject x ∷ units) ss e = apply_first_left f x (steps_of units) ss e
begins_apply f (Absent x ∷ units) ss e = apply_first_left f x (steps_of units) ss e
begins_apply f units ss e = apply_first f (steps_of units) ss e

pub begins_change : (n : Option Token) (f : Derived) (o : Option Steps) (ss : Steps) → changed n f o ≡ Some ss → BeginsWithChange ss
begins_change n f o ss e = let m = changed_is n f o ss e in subst (λ (l : Steps). BeginsWithChange l) m.4 tt

-- Targets.

pub single_items : (u : Unit') (x : Part) → single u ≡ Some x → unit_items u ≡ part_items x
single_items (Subject y) x e = let q : y ≡ x = cc in ap part_items q
single_items (Function (derived y no_uses)) x e = let q : y ≡ x = cc in append-nil (part_items y) ∙ ap part_items q
single_items (Function (derived y (and_uses u us))) x e = absurd (cc)
single_items (Alone y) x e = let q : y ≡ x = cc in ap part_items q
single_items (Absent y) x e = absurd (cc)
single_items (Arrow' a) x e = absurd (cc)
single_items (Aim q) x e = absurd (cc)

pub record ReadTargets (r : Tag) (items : List Item) (ts : List (Token × Arrow)) : Type 0 where
  pub written : target_items ts ≡ items
  pub fit : TargetsFit r ts

behind_more : (a u : List Item) (i j : Item) (c : List Item) → u ≡ i ∷ [] → a ++ i ∷ j ∷ c ≡ ((a ++ u) ++ j ∷ []) ++ c
behind_more a u i j c e =
    let h : a ++ i ∷ j ∷ c ≡ ((a ++ i ∷ []) ++ j ∷ []) ++ c = simp append_assoc in
    h ∙ ap (λ (l : List Item). ((a ++ l) ++ j ∷ []) ++ c) (sym e)

pub targets_read : (r : Tag) (so : List (Token × Arrow)) (units : List Unit') (ts : List (Token × Arrow)) → TargetsFit r so → targets r so units ≡ Some ts → ReadTargets r (units_items units ++ target_items so) ts
targets_read r so [] ts f e = let q : so ≡ ts = cc in subst (λ (l : List (Token × Arrow)). ReadTargets r (target_items so) l) q (record { written = refl; fit = f })
targets_read r so (Arrow' a ∷ u ∷ units) ts f e =
    let m = and_then_some (λ (t : Token). targets r ((t, a) ∷ so) units) (option_and_then (named r) (single u)) ts e in
    let n = and_then_some (named r) (single u) m.0 m.1 in
    let h = named_is r n.0 m.0 n.2 in
    let k = targets_read r ((m.0, a) ∷ so) units ts (h.1, f) m.2 in
    record { written = k.written ∙ behind_more (units_items units) (unit_items u) (part_item (Leaf m.0)) (Drawn a) (target_items so) (single_items u n.0 n.1 ∙ ap part_items h.0); fit = k.fit }
targets_read r so _ ts f e = absurd (cc)
