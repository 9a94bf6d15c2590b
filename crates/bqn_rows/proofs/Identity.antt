-- Identical values are equal, and the same values are equal without their fills.
use Rattle.std.proofs.Common.{◌≡◌, ℕ, true, ◌&&◌, nat_eq, List, [], ◌∷◌, refl, ap, subst, eqb-true, eq-eqb}
use Rattle.std.specs.Cmp.{signed_Decides, nat_eq_equiv}
use Rattle.std.proofs.lemmas.Bool.{and_parts, and_from}
use Rattle.bqn_rows.specs.Plain.{Maker, One, Two, Atop, Fork, Value, Number, Character, Array, Given, Derived, Function, Modifier1, Modifier2, Namespace, Values, none, more, Fill, unfilled, filled}
use Rattle.bqn_rows.specs.Relations.{same_maker, same_shape, identical, all_identical, identical_fill, same, all_same}
use Rattle.bqn_rows.specs.Laws.{bare, all_bare, IdenticalIsEquality}

-- ---- tests of shapes and makers

pub shape-equal : (s t : List ℕ) → same_shape s t ≡ true → s ≡ t
shape-equal [] [] h = refl
shape-equal (n ∷ s) (m ∷ t) h = let p = and_parts (nat_eq n m) (same_shape s t) h in λ i. eqb-true n m p.0 i ∷ shape-equal s t p.1 i
shape-equal _ _ h = cc

pub shape-itself : (s : List ℕ) → same_shape s s ≡ true
shape-itself [] = refl
shape-itself (n ∷ s) = and_from (nat_eq n n) (same_shape s s) (eq-eqb n n refl) (shape-itself s)

pub shape-symmetric : (s t : List ℕ) → same_shape s t ≡ same_shape t s
shape-symmetric [] [] = refl
shape-symmetric (n ∷ s) (m ∷ t) = λ i. nat_eq_equiv.symm n m i && shape-symmetric s t i
shape-symmetric _ _ = refl

-- ---- identical values

maker-equal : (m n : Maker) → same_maker m n ≡ true → m ≡ n
maker-equal (One c) (One d) h = ap One (eqb-true c d h)
maker-equal (Two c) (Two d) h = ap Two (eqb-true c d h)
maker-equal Atop Atop h = refl
maker-equal Fork Fork h = refl
maker-equal _ _ h = cc

maker-itself : (m : Maker) → same_maker m m ≡ true
maker-itself (One c) = eq-eqb c c refl
maker-itself (Two c) = eq-eqb c c refl
maker-itself Atop = refl
maker-itself Fork = refl

mutual
  pub identical-equal : (w x : Value) → identical w x ≡ true → w ≡ x
  identical-equal (Number w) (Number x) h = ap Number ((signed_Decides w x).0 h)
  identical-equal (Character w) (Character x) h = ap Character (eqb-true w x h)
  identical-equal (Array s ws f) (Array t xs g) h =
      let p = and_parts (same_shape s t) (all_identical ws xs && identical_fill f g) h in
      let q = and_parts (all_identical ws xs) (identical_fill f g) p.1 in
      λ i. Array (shape-equal s t p.0 i) (values-equal ws xs q.0 i) (fill-equal f g q.1 i)
  identical-equal (Given c) (Given d) h = ap Given (eqb-true c d h)
  identical-equal (Derived m ps) (Derived n qs) h =
      let p = and_parts (same_maker m n) (all_identical ps qs) h in
      λ i. Derived (maker-equal m n p.0 i) (values-equal ps qs p.1 i)
  identical-equal (Function b e ps) (Function c f qs) h =
      let p = and_parts (nat_eq b c) (nat_eq e f && all_identical ps qs) h in
      let q = and_parts (nat_eq e f) (all_identical ps qs) p.1 in
      λ i. Function (eqb-true b c p.0 i) (eqb-true e f q.0 i) (values-equal ps qs q.1 i)
  identical-equal (Modifier1 b e) (Modifier1 c f) h = let p = and_parts (nat_eq b c) (nat_eq e f) h in λ i. Modifier1 (eqb-true b c p.0 i) (eqb-true e f p.1 i)
  identical-equal (Modifier2 b e) (Modifier2 c f) h = let p = and_parts (nat_eq b c) (nat_eq e f) h in λ i. Modifier2 (eqb-true b c p.0 i) (eqb-true e f p.1 i)
  identical-equal (Namespace e) (Namespace f) h = ap Namespace (eqb-true e f h)
  identical-equal _ _ h = cc

  values-equal : (ws xs : Values) → all_identical ws xs ≡ true → ws ≡ xs
  values-equal none none h = refl
  values-equal (more w ws) (more x xs) h = let p = and_parts (identical w x) (all_identical ws xs) h in λ i. more (identical-equal w x p.0 i)
      (values-equal ws xs p.1 i)
  values-equal _ _ h = cc

  fill-equal : (f g : Fill) → identical_fill f g ≡ true → f ≡ g
  fill-equal unfilled unfilled h = refl
  fill-equal (filled w) (filled x) h = ap filled (identical-equal w x h)
  fill-equal _ _ h = cc

mutual
  pub identical-itself : (w : Value) → identical w w ≡ true
  identical-itself (Number w) = (signed_Decides w w).1 refl
  identical-itself (Character w) = eq-eqb w w refl
  identical-itself (Array s ws f) = and_from (same_shape s s) (all_identical ws ws && identical_fill f f) (shape-itself s)
      (and_from (all_identical ws ws) (identical_fill f f) (values-itself ws) (fill-itself f))
  identical-itself (Given c) = eq-eqb c c refl
  identical-itself (Derived m ps) = and_from (same_maker m m) (all_identical ps ps) (maker-itself m) (values-itself ps)
  identical-itself (Function b e ps) = and_from (nat_eq b b) (nat_eq e e && all_identical ps ps) (eq-eqb b b refl)
      (and_from (nat_eq e e) (all_identical ps ps) (eq-eqb e e refl) (values-itself ps))
  identical-itself (Modifier1 b e) = and_from (nat_eq b b) (nat_eq e e) (eq-eqb b b refl) (eq-eqb e e refl)
  identical-itself (Modifier2 b e) = and_from (nat_eq b b) (nat_eq e e) (eq-eqb b b refl) (eq-eqb e e refl)
  identical-itself (Namespace e) = eq-eqb e e refl

  values-itself : (ws : Values) → all_identical ws ws ≡ true
  values-itself none = refl
  values-itself (more w ws) = and_from (identical w w) (all_identical ws ws) (identical-itself w) (values-itself ws)

  fill-itself : (f : Fill) → identical_fill f f ≡ true
  fill-itself unfilled = refl
  fill-itself (filled w) = identical-itself w

-- ---- the same values

abbrev pub shape_in : Value → List ℕ
shape_in (Array shape xs f) = shape
shape_in _ = []

abbrev pub elements_in : Value → Values
elements_in (Array shape xs f) = xs
elements_in _ = none

abbrev pub head_of : Value → Values → Value
head_of v none = v
head_of v (more x xs) = x

abbrev pub rest_of : Values → Values
rest_of none = none
rest_of (more x xs) = xs

mutual
  pub same-bare : (w x : Value) → same w x ≡ true → bare w ≡ bare x
  same-bare (Array s ws f) (Array t xs g) h =
      let p = and_parts (same_shape s t) (all_same ws xs) h in
      λ i. Array (shape-equal s t p.0 i) (all-same-bare ws xs p.1 i) unfilled
  same-bare w x h = ap bare (identical-equal w x h)

  all-same-bare : (ws xs : Values) → all_same ws xs ≡ true → all_bare ws ≡ all_bare xs
  all-same-bare none none h = refl
  all-same-bare (more w ws) (more x xs) h = let p = and_parts (same w x) (all_same ws xs) h in λ i. more (same-bare w x p.0 i) (all-same-bare ws xs p.1 i)
  all-same-bare _ _ h = cc

mutual
  pub bare-same : (w x : Value) → bare w ≡ bare x → same w x ≡ true
  bare-same (Array s ws f) (Array t xs g) h =
      and_from (same_shape s t) (all_same ws xs) (subst (λ u. same_shape s u ≡ true) (ap shape_in h) (shape-itself s)) (all-bare-same ws xs (ap elements_in h))
  bare-same (Array s ws f) _ h = cc
  bare-same _ (Array t xs g) h = cc
  bare-same w x h = subst (λ v. identical w v ≡ true) h (identical-itself w)

  all-bare-same : (ws xs : Values) → all_bare ws ≡ all_bare xs → all_same ws xs ≡ true
  all-bare-same none none h = refl
  all-bare-same (more w ws) (more x xs) h = and_from (same w x) (all_same ws xs) (bare-same w x (ap (head_of (bare w)) h)) (all-bare-same ws xs (ap rest_of h))
  all-bare-same _ _ h = cc

pub identical_is_equality : IdenticalIsEquality
identical_is_equality = record {
  equal = λ w x. (identical-equal w x, λ e. subst (λ v. identical w v ≡ true) e (identical-itself w));
  equal_bare = λ w x. (same-bare w x, bare-same w x);
}

pub ruleset identity_laws = (identical_is_equality)
