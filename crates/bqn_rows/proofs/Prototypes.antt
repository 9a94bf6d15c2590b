-- Prototypes are their own, as large as the value, and proper where the value is; fills too.
use Rattle.std.proofs.Common.{◌≡◌, ◌≤◌, ◌+◌, ◌^◌, ℕ, pos, arith, suc, max, Bool, true, false, ◌&&◌, nat_le, List, Option, Some, None, refl, sym, ap, ◌∙◌, subst}
use Rattle.std.proofs.lemmas.Bool.{and_parts, and_from}
use Rattle.bqn_rows.specs.Plain.{Value, Number, Character, Array, Values, none, more, Fill, unfilled, count}
use Rattle.bqn_rows.specs.Relations.{weight, weights, height, heights, extent, extents, identical, prototype, prototypes, both, array_of, shared, common_prototype, fill_of}
use Rattle.bqn_rows.specs.Limits.{is_shape, is_within, is_identical_to, fits_elements, proper, all_proper}
use Rattle.bqn_rows.specs.Laws.{IsFill, PrototypesAreFills}
use Rattle.bqn_rows.proofs.Identity.{identical-itself}
use Rattle.bqn_rows.proofs.Proper.{whole, from-whole, may-carry}

-- ---- what a prototype is made of

record Parts (o : Option Value) (os : Option Values) (rs : Values) : Type 0 where
  head : Value
  rest : Values
  first : o ≡ Some head
  others : os ≡ Some rest
  whole : rs ≡ more head rest

parts : (o : Option Value) (os : Option Values) (rs : Values) → both o os ≡ Some rs → Parts o os rs
parts (Some q) (Some qs) rs h = record { head = q; rest = qs; first = refl; others = refl; whole = cc }
parts (Some q) None rs h = absurd cc
parts None os rs h = absurd cc

record Elements (shape : List ℕ) (o : Option Values) (p : Value) : Type 0 where
  rest : Values
  found : o ≡ Some rest
  whole : p ≡ Array shape rest unfilled

elements : (shape : List ℕ) (o : Option Values) (p : Value) → array_of shape o ≡ Some p → Elements shape o p
elements shape (Some rs) p h = record { rest = rs; found = refl; whole = cc }
elements shape None p h = absurd cc

some-value : (v p : Value) → Some v ≡ Some p → p ≡ v
some-value v p h = cc

some-values : (vs ps : Values) → Some vs ≡ Some ps → ps ≡ vs
some-values vs ps h = cc

-- ---- a prototype is its own

own-at : (v p : Value) → p ≡ v → prototype v ≡ Some v → prototype p ≡ Some p
own-at v p e h = subst (λ q. prototype q ≡ Some q) (sym e) h

mutual
  own : (v p : Value) → prototype v ≡ Some p → prototype p ≡ Some p
  own (Number n) p h = own-at _ p (some-value _ p h) refl
  own (Character c) p h = own-at _ p (some-value _ p h) refl
  own (Array shape none f) p h = own-at (Array shape none f) p (some-value _ p h) refl
  own (Array shape (more x xs) f) p h =
      let e = elements shape (both (prototype x) (prototypes xs)) p h in
      let s = parts (prototype x) (prototypes xs) e.rest e.found in
      own-at (Array shape (more s.head s.rest) unfilled) p (e.whole ∙ ap (λ rs. Array shape rs unfilled) s.whole)
      (λ i. array_of shape (both (own x s.head s.first i) (all-own xs s.rest s.others i)))
  own _ p h = absurd cc

  all-own : (vs ps : Values) → prototypes vs ≡ Some ps → prototypes ps ≡ Some ps
  all-own none ps h = subst (λ rs. prototypes rs ≡ Some rs) (sym (some-values none ps h)) refl
  all-own (more x xs) ps h =
      let s = parts (prototype x) (prototypes xs) ps h in
      subst (λ rs. prototypes rs ≡ Some rs) (sym s.whole) (λ i. both (own x s.head s.first i) (all-own xs s.rest s.others i))

-- ---- it is as large

record Alike (v p : Value) : Type 0 where
  weighs : weight p ≡ weight v
  stands : height p ≡ height v
  nests : extent p ≤ extent v

record AllAlike (vs ps : Values) : Type 0 where
  weighs : weights ps ≡ weights vs
  stands : heights ps ≡ heights vs
  nests : extents ps ≤ extents vs
  counted : count ps ≡ count vs

mutual
  alike : (v p : Value) → prototype v ≡ Some p → Alike v p
  alike (Number n) p h = let e = some-value (Number (pos 0)) p h in record { weighs = ap weight e; stands = ap height e; nests = omega (arith, ap extent e) }
  alike (Character c) p h = let e = some-value (Character 32) p h in record { weighs = ap weight e; stands = ap height e; nests = omega (arith, ap extent e) }
  alike (Array shape none f) p h =
      let e = some-value (Array shape none f) p h in
      record { weighs = ap weight e; stands = ap height e; nests = omega (arith, ap extent e) }
  alike (Array shape (more x xs) f) p h =
      let e = elements shape (both (prototype x) (prototypes xs)) p h in
      let a = all-alike (more x xs) e.rest e.found in
      record {
        weighs = ap weight e.whole ∙ ap (λ n. 1 + n) a.weighs;
        stands = ap height e.whole ∙ ap suc a.stands;
        nests = omega (arith, ap extent e.whole, a.nests);
      }
  alike _ p h = absurd cc

  all-alike : (vs ps : Values) → prototypes vs ≡ Some ps → AllAlike vs ps
  all-alike none ps h =
      let e = some-values none ps h in
      record { weighs = ap weights e; stands = ap heights e; nests = omega (arith, ap extents e); counted = ap count e }
  all-alike (more x xs) ps h =
      let s = parts (prototype x) (prototypes xs) ps h in
      let a = alike x s.head s.first in
      let b = all-alike xs s.rest s.others in
      record {
        weighs = ap weights s.whole ∙ (λ i. a.weighs i + b.weighs i);
        stands = ap heights s.whole ∙ (λ i. max (a.stands i) (b.stands i));
        nests = omega (arith, ap extents s.whole, a.nests, b.nests);
        counted = ap count s.whole ∙ ap suc b.counted;
      }

pub prototype-nests : (v p : Value) → prototype v ≡ Some p → extent p ≤ extent v
prototype-nests v p h = (alike v p h).nests

-- ---- it is proper

within-alike : (shape : List ℕ) (xs rs : Values) (f g : Fill) → weights rs ≡ weights xs → heights rs ≡ heights xs → is_within (Array shape xs f) ≡ true
    → is_within (Array shape rs g) ≡ true
within-alike shape xs rs f g w t h = (λ i. (is_shape shape && nat_le (1 + w i) (2 ^ 22)) && nat_le (suc (t i)) 128) ∙ h

unfilled-fits : (xs : Values) → fits_elements xs unfilled ≡ true
unfilled-fits none = refl
unfilled-fits (more x xs) = refl

proper-at : (v p : Value) → p ≡ v → proper v ≡ true → proper p ≡ true
proper-at v p e h = subst (λ q. proper q ≡ true) (sym e) h

mutual
  proper-kept : (v p : Value) → proper v ≡ true → prototype v ≡ Some p → proper p ≡ true
  proper-kept (Number n) p a h = proper-at _ p (some-value _ p h) refl
  proper-kept (Character c) p a h = proper-at _ p (some-value _ p h) refl
  proper-kept (Array shape none f) p a h = proper-at (Array shape none f) p (some-value _ p h) a
  proper-kept (Array shape (more x xs) f) p a h =
      let w = whole shape (more x xs) f a in
      let e = elements shape (both (prototype x) (prototypes xs)) p h in
      let s = parts (prototype x) (prototypes xs) e.rest e.found in
      let l = all-alike (more x xs) e.rest e.found in
      let k = and_parts (proper x) (all_proper xs) w.parts in
      proper-at (Array shape e.rest unfilled) p e.whole
      (from-whole shape e.rest unfilled
      (record {
        within = within-alike shape (more x xs) e.rest f unfilled l.weighs l.stands w.within;
        counted = w.counted ∙ sym l.counted;
        parts = ap all_proper s.whole ∙ and_from (proper s.head) (all_proper s.rest) (proper-kept x s.head k.0 s.first)
            (all-proper-kept xs s.rest k.1 s.others);
        fits = unfilled-fits e.rest;
        fill = refl;
      }))
  proper-kept _ p a h = absurd cc

  all-proper-kept : (vs ps : Values) → all_proper vs ≡ true → prototypes vs ≡ Some ps → all_proper ps ≡ true
  all-proper-kept none ps a h = subst (λ rs. all_proper rs ≡ true) (sym (some-values none ps h)) refl
  all-proper-kept (more x xs) ps a h =
      let s = parts (prototype x) (prototypes xs) ps h in
      let k = and_parts (proper x) (all_proper xs) a in
      ap all_proper s.whole ∙ and_from (proper s.head) (all_proper s.rest) (proper-kept x s.head k.0 s.first) (all-proper-kept xs s.rest k.1 s.others)

-- ---- fills

shared-first : (o r : Option Value) (p : Value) → shared o r ≡ Some p → o ≡ Some p
shared-first (Some v) (Some w) p h = at (identical v w) h
  where
    at : (b : Bool) → (elim b as (λ _. Option Value) [ true ↦ Some v | false ↦ None ]) ≡ Some p → Some v ≡ Some p
    at true k = k
    at false k = absurd cc
shared-first (Some v) None p h = absurd cc
shared-first None r p h = absurd cc

pub common-first : (x : Value) (xs : Values) (p : Value) → common_prototype x xs ≡ Some p → prototype x ≡ Some p
common-first x none p h = h
common-first x (more y ys) p h = shared-first (prototype x) (common_prototype y ys) p h

prototype-fill : (v p : Value) → proper v ≡ true → prototype v ≡ Some p → IsFill (Some p)
prototype-fill v p a h = (ap (is_identical_to p) (own v p h) ∙ identical-itself p, proper-kept v p a h)

fill-kept : (v p : Value) → proper v ≡ true → fill_of v ≡ Some p → IsFill (Some p)
fill-kept (Array shape none f) p a h = subst IsFill h (may-carry f (whole shape none f a).fill)
fill-kept (Array shape (more x xs) f) p a h = prototype-fill x p (and_parts (proper x) (all_proper xs) (whole shape (more x xs) f a).parts).0
    (common-first x xs p h)
fill-kept v p a h = prototype-fill v p a h

pub prototypes_are_fills : PrototypesAreFills
prototypes_are_fills = record {
  own = own;
  weight_kept = λ v p h. (alike v p h).weighs;
  height_kept = λ v p h. (alike v p h).stands;
  proper_kept = proper-kept;
  fill = fill-kept;
}

pub ruleset prototype_laws = (prototypes_are_fills)
