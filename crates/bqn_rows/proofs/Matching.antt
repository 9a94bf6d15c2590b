-- Match finds two values equal where they are the same data.
use Rattle.std.proofs.Common.{◌≡◌, Bool, true, false, nat_eq, Result, Ok, Err, refl, ap, ◌∙◌, subst, eqb-true, eq-eqb}
use Rattle.std.specs.Cmp.{signed_Decides, int_eq_equiv, nat_eq_equiv}
use Rattle.std.specs.Ordering.{int_eq}
use Rattle.std.proofs.lemmas.Bool.{and_parts, and_from}
use Rattle.bqn_base.specs.declared.fault.Fault.{Fault}
use Rattle.bqn_base.specs.declared.fault.Fault.TheVariants.{NoCompare}
use Rattle.bqn_rows.specs.Plain.{Value, Number, Character, Array, Given, Derived, Function, Modifier1, Modifier2, Namespace, Values, none, more, unfilled, kind, kind_number}
use Rattle.bqn_rows.specs.Relations.{same_shape, same, first_unequal, where_alike, matching, all_matching}
use Rattle.bqn_rows.specs.Laws.{is_data, all_data, is_data_fill, bare, all_bare, MatchIsSameData}
use Rattle.bqn_rows.proofs.Identity.{shape-equal, shape-itself, shape-symmetric, shape_in, elements_in, head_of, rest_of, same-bare, bare-same}

-- ---- what a decided comparison says

abbrev pub decided : Bool → Result Bool Fault
decided b = Ok b

pub inside : (b : Bool) → decided b ≡ Ok true → b ≡ true
inside b h = cc

pub alike : (b : Bool) (r : Result Bool Fault) → where_alike b r ≡ Ok true → (b ≡ true) × (r ≡ Ok true)
alike true r h = (refl, h)
alike false r h = cc

pub alike-from : (b : Bool) (r : Result Bool Fault) → b ≡ true → r ≡ Ok true → where_alike b r ≡ Ok true
alike-from true r e h = h
alike-from false r e h = cc

pub first : (r s : Result Bool Fault) → first_unequal r s ≡ Ok true → (r ≡ Ok true) × (s ≡ Ok true)
first (Ok true) s h = (refl, h)
first (Ok false) s h = cc
first (Err f) s h = cc

pub first-from : (r s : Result Bool Fault) → r ≡ Ok true → s ≡ Ok true → first_unequal r s ≡ Ok true
first-from (Ok true) s e h = h
first-from (Ok false) s e h = cc
first-from (Err f) s e h = cc

pub not_compared : (b : Bool) → where_alike b (Err NoCompare) ≡ Ok true → ⊥
not_compared true h = cc
not_compared false h = cc

-- ---- a match is an equality of data

mutual
  pub match-bare : (w x : Value) → matching w x ≡ Ok true → (is_data (bare w) ≡ true) × (bare w ≡ bare x)
  match-bare (Number w) (Number x) h = (refl, ap Number ((signed_Decides w x).0 (inside (int_eq w x) h)))
  match-bare (Character w) (Character x) h = (refl, ap Character (eqb-true w x (inside (nat_eq w x) h)))
  match-bare (Array s ws f) (Array t xs g) h =
      let p = alike (same_shape s t) (all_matching ws xs) h in
      let q = all-bare ws xs p.1 in
      (q.0, λ i. Array (shape-equal s t p.0 i) (q.1 i) unfilled)
  match-bare w x h = absurd (not_compared (nat_eq (kind_number (kind w)) (kind_number (kind x))) h)

  all-bare : (ws xs : Values) → all_matching ws xs ≡ Ok true → (all_data (all_bare ws) ≡ true) × (all_bare ws ≡ all_bare xs)
  all-bare none none h = (refl, refl)
  all-bare (more w ws) (more x xs) h =
      let p = first (matching w x) (all_matching ws xs) h in
      let q = match-bare w x p.0 in
      let r = all-bare ws xs p.1 in
      (and_from (is_data (bare w)) (all_data (all_bare ws)) q.0 r.0, λ i. more (q.1 i) (r.1 i))
  all-bare _ _ h = cc

mutual
  pub bare-match : (w x : Value) → is_data (bare w) ≡ true → bare w ≡ bare x → matching w x ≡ Ok true
  bare-match (Number w) (Number x) d h = ap (λ (b : Bool). Ok b) ((signed_Decides w x).1 cc)
  bare-match (Character w) (Character x) d h = ap (λ (b : Bool). Ok b) (eq-eqb w x cc)
  bare-match (Array s ws f) (Array t xs g) d h =
      alike-from (same_shape s t) (all_matching ws xs)
      (subst (λ u. same_shape s u ≡ true) (ap shape_in h) (shape-itself s))
      (bare-all ws xs d (ap elements_in h))
  bare-match _ _ d h = cc

  bare-all : (ws xs : Values) → all_data (all_bare ws) ≡ true → all_bare ws ≡ all_bare xs → all_matching ws xs ≡ Ok true
  bare-all none none d h = refl
  bare-all (more w ws) (more x xs) d h =
      let p = and_parts (is_data (bare w)) (all_data (all_bare ws)) d in
      first-from (matching w x) (all_matching ws xs) (bare-match w x p.0 (ap (head_of (bare w)) h)) (bare-all ws xs p.1 (ap rest_of h))
  bare-all _ _ d h = cc

mutual
  data-bare : (w : Value) → is_data w ≡ true → is_data (bare w) ≡ true
  data-bare (Number n) d = refl
  data-bare (Character c) d = refl
  data-bare (Array s xs f) d = all-data-bare xs (and_parts (is_data_fill f) (all_data xs) d).1
  data-bare _ d = cc

  all-data-bare : (ws : Values) → all_data ws ≡ true → all_data (all_bare ws) ≡ true
  all-data-bare none d = refl
  all-data-bare (more w ws) d =
      let p = and_parts (is_data w) (all_data ws) d in
      and_from (is_data (bare w)) (all_data (all_bare ws)) (data-bare w p.0) (all-data-bare ws p.1)

mutual
  symmetric : (w x : Value) → matching w x ≡ matching x w
  symmetric (Number w) (Number x) = ap (λ (b : Bool). Ok b) (int_eq_equiv.symm w x)
  symmetric (Character w) (Character x) = ap (λ (b : Bool). Ok b) (nat_eq_equiv.symm w x)
  symmetric (Array s ws f) (Array t xs g) = λ i. where_alike (shape-symmetric s t i) (all-symmetric ws xs i)
  symmetric (Given c) (Number n) = ap (λ b. where_alike b (Err NoCompare)) (nat_eq_equiv.symm (kind_number (kind (Given c))) 1)
  symmetric (Derived m ps) (Number n) = refl
  symmetric (Function b e ps) (Number n) = refl
  symmetric (Modifier1 b e) (Number n) = refl
  symmetric (Modifier2 b e) (Number n) = refl
  symmetric (Namespace e) (Number n) = refl
  symmetric w x = ap (λ b. where_alike b (Err NoCompare)) (nat_eq_equiv.symm (kind_number (kind w)) (kind_number (kind x)))

  all-symmetric : (ws xs : Values) → all_matching ws xs ≡ all_matching xs ws
  all-symmetric none none = refl
  all-symmetric (more w ws) (more x xs) = λ i. first_unequal (symmetric w x i) (all-symmetric ws xs i)
  all-symmetric _ _ = refl

match-same : (w x : Value) → matching w x ≡ Ok true → (is_data (bare w) ≡ true) × (same w x ≡ true)
match-same w x h = let p = match-bare w x h in (p.0, bare-same w x p.1)

pub match_is_same_data : MatchIsSameData
match_is_same_data = record {
  exactly = λ w x. (match-same w x, λ p. bare-match w x p.0 (same-bare w x p.1));
  of_data = λ w x d. (λ h. (match-same w x h).1, λ h. bare-match w x (data-bare w d) (same-bare w x h));
  reflexive = λ x d. bare-match x x d refl;
  symmetric = symmetric;
  transitive = λ v w x h k. let p = match-bare v w h in bare-match v x p.0 (p.1 ∙ (match-bare w x k).1);
}

pub ruleset matching_laws = (match_is_same_data)
