-- What the order does not tell apart at a level matches, and what matches it does not tell apart.
use Rattle.std.proofs.Common.{◌≡◌, ℕ, suc, Bool, true, false, nat_eq, [], ◌∷◌, Ok, refl, sym, ap, arith, eq-eqb, eqb-true, Equal}
use Rattle.std.specs.Ordering.{nat_cmp, int_cmp, int_eq, is_eq}
use Rattle.std.specs.Cmp.{Equal-is, ranked, nat_cmp_is}
use Rattle.std.proofs.lemmas.Bool.{and_parts, and_from}
use Rattle.bqn_rows.specs.Plain.{Value, Number, Character, Array, Values, none, more, count, kind, kind_number}
use Rattle.bqn_rows.specs.Relations.{same_shape, matching, all_matching, Levels, no_level, only, from, raised, common, levels, all_levels, is_level, ordered, all_ordered}
use Rattle.bqn_rows.specs.Limits.{places, proper, all_proper}
use Rattle.bqn_rows.specs.Laws.{OrderIsTotal}
use Rattle.bqn_rows.proofs.Matching.{inside, alike, alike-from, first, first-from, not_compared}
use Rattle.bqn_rows.proofs.Order.{both-equal, equal-then, ordered_total}
use Rattle.bqn_rows.proofs.Proper.{whole}

-- ---- what matches is not told apart

nat-tied : (w x : ℕ) → w ≡ x → nat_cmp w x ≡ Equal
nat-tied w x e = sym (nat_cmp_is w x Equal e)

mutual
  matched : (w x : Value) → matching w x ≡ Ok true → ordered w x ≡ Equal
  matched (Number w) (Number x) h = (Equal-is (int_cmp w x)).0 (inside (int_eq w x) h)
  matched (Character w) (Character x) h = nat-tied w x (eqb-true w x (inside (nat_eq w x) h))
  matched (Array s ws f) (Array t xs g) h = all-matched ws xs (alike (same_shape s t) (all_matching ws xs) h).1
  matched w x h = absurd (not_compared (nat_eq (kind_number (kind w)) (kind_number (kind x))) h)

  all-matched : (ws xs : Values) → all_matching ws xs ≡ Ok true → all_ordered ws xs ≡ Equal
  all-matched none none h = refl
  all-matched (more w ws) (more x xs) h =
      let p = first (matching w x) (all_matching ws xs) h in
      equal-then (ordered w x) (all_ordered ws xs) Equal (matched w x p.0) (all-matched ws xs p.1)
  all-matched _ _ h = cc

-- ---- what has a level

abbrev has_level : Levels → Bool
has_level no_level = false
has_level (only k) = true
has_level (from k) = true

levelled : (k : ℕ) (l : Levels) → is_level k l ≡ true → has_level l ≡ true
levelled k no_level h = cc
levelled k (only j) h = refl
levelled k (from j) h = refl

raised-level : (l : Levels) → has_level (raised l) ≡ true → has_level l ≡ true
raised-level no_level h = cc
raised-level (only j) h = refl
raised-level (from j) h = refl

common-level : (l m : Levels) → has_level (common l m) ≡ true → (has_level l ≡ true) × (has_level m ≡ true)
common-level (only j) (only k) h = (refl, refl)
common-level (only j) (from k) h = (refl, refl)
common-level (from j) (only k) h = (refl, refl)
common-level (from j) (from k) h = (refl, refl)
common-level _ _ h = cc

-- ---- what is tied at a level matches

equal-count : (ws xs : Values) → all_ordered ws xs ≡ Equal → count ws ≡ count xs
equal-count none none h = refl
equal-count (more w ws) (more x xs) h = ap suc (equal-count ws xs (both-equal (ordered w x) (all_ordered ws xs) h).1)
equal-count _ _ h = cc

same-length : (n m : ℕ) (ws xs : Values) → places (n ∷ []) ≡ count ws → places (m ∷ []) ≡ count xs → count ws ≡ count xs → same_shape (n ∷ []) (m ∷ []) ≡ true
same-length n m ws xs p q e = and_from (nat_eq n m) true (eq-eqb n m (omega arith)) refl

mutual
  tied : (w x : Value) → proper w ≡ true → proper x ≡ true → has_level (levels w) ≡ true → has_level (levels x) ≡ true → ordered w x ≡ Equal → matching w x
      ≡ Ok true
  tied (Number w) (Number x) pw px lw lx h = ap (λ (b : Bool). Ok b) (ap is_eq h)
  tied (Character w) (Character x) pw px lw lx h = ap (λ (b : Bool). Ok b) (eq-eqb w x (ranked w x Equal (sym h)))
  tied (Array (n ∷ []) ws f) (Array (m ∷ []) xs g) pw px lw lx h =
      let a = whole (n ∷ []) ws f pw in
      let b = whole (m ∷ []) xs g px in
      alike-from (same_shape (n ∷ []) (m ∷ [])) (all_matching ws xs)
      (same-length n m ws xs a.counted b.counted (equal-count ws xs h))
      (all-tied ws xs a.parts b.parts (raised-level (all_levels ws) lw) (raised-level (all_levels xs) lx) h)
  tied _ _ pw px lw lx h = cc

  all-tied : (ws xs : Values) → all_proper ws ≡ true → all_proper xs ≡ true → has_level (all_levels ws) ≡ true → has_level (all_levels xs) ≡ true
      → all_ordered ws xs ≡ Equal → all_matching ws xs ≡ Ok true
  all-tied none none pw px lw lx h = refl
  all-tied (more w ws) (more x xs) pw px lw lx h =
      let p = and_parts (proper w) (all_proper ws) pw in
      let q = and_parts (proper x) (all_proper xs) px in
      let a = common-level (levels w) (all_levels ws) lw in
      let b = common-level (levels x) (all_levels xs) lx in
      let e = both-equal (ordered w x) (all_ordered ws xs) h in
      first-from (matching w x) (all_matching ws xs) (tied w x p.0 q.0 a.0 b.0 e.0) (all-tied ws xs p.1 q.1 a.1 b.1 e.1)
  all-tied _ _ pw px lw lx h = cc

pub order_is_total : OrderIsTotal
order_is_total = record {
  total = ordered_total;
  tied = λ k w x pw px lw lx. tied w x pw px (levelled k (levels w) lw) (levelled k (levels x) lx);
  matched = matched;
}

pub ruleset order_laws = (order_is_total)
