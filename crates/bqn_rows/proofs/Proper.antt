-- What a value is proper by, and the limits that it then keeps.
use Rattle.std.proofs.Common.{◌≡◌, ◌≤◌, ◌+◌, ◌^◌, ℕ, true, ◌&&◌, nat_le, nat_eq, List, length, eqb-true, eq-eqb, leb-true, arith}
use Rattle.std.proofs.lemmas.Bool.{and_parts, and_from}
use Rattle.bqn_rows.specs.Plain.{Value, Array, Derived, Function, Values, none, more, Fill, unfilled, filled, count}
use Rattle.bqn_rows.specs.Relations.{weight, height, heights, extent, extents, fill_extent, prototype, carried}
use Rattle.bqn_rows.specs.Limits.{places, size, is_shape, is_small, is_low, is_within, is_made_of, is_identical_to, is_fill, fits_elements, proper, all_proper, proper_fill}
use Rattle.bqn_rows.specs.Laws.{HasAxes, IsFill, ProperArray, ProperByParts, ProperIsWithinLimits}

-- ---- arrays

pub whole : (shape : List ℕ) (xs : Values) (f : Fill) → proper (Array shape xs f) ≡ true → ProperArray shape xs f
whole shape xs f h =
    let a = and_parts (is_within (Array shape xs f) && nat_eq (places shape) (count xs)) (all_proper xs && (fits_elements xs f && proper_fill f)) h in
    let b = and_parts (is_within (Array shape xs f)) (nat_eq (places shape) (count xs)) a.0 in
    let c = and_parts (all_proper xs) (fits_elements xs f && proper_fill f) a.1 in
    let d = and_parts (fits_elements xs f) (proper_fill f) c.1 in
    record { within = b.0; counted = eqb-true (places shape) (count xs) b.1; parts = c.0; fits = d.0; fill = d.1 }

pub from-whole : (shape : List ℕ) (xs : Values) (f : Fill) → ProperArray shape xs f → proper (Array shape xs f) ≡ true
from-whole shape xs f w =
    and_from (is_within (Array shape xs f) && nat_eq (places shape) (count xs)) (all_proper xs && (fits_elements xs f && proper_fill f))
    (and_from (is_within (Array shape xs f)) (nat_eq (places shape) (count xs)) w.within (eq-eqb (places shape) (count xs) w.counted))
    (and_from (all_proper xs) (fits_elements xs f && proper_fill f) w.parts (and_from (fits_elements xs f) (proper_fill f) w.fits w.fill))

pub may-carry : (f : Fill) → proper_fill f ≡ true → IsFill (carried f)
may-carry unfilled h = tt
may-carry (filled v) h =
    let k = and_parts (is_fill v) (proper v) h in
    ((and_parts (is_identical_to v (prototype v)) (nat_le (extent v) 128) k.0).0, k.1)

pub proper_by_parts : ProperByParts
proper_by_parts = record { parts = whole; whole = from-whole; fill = λ shape xs f h. may-carry f (whole shape xs f h).fill }

-- ---- limits

pub small-weighs : (v : Value) → is_small v ≡ true → weight v ≤ 2 ^ 22
small-weighs (Array shape xs f) h = leb-true (weight (Array shape xs f)) (2 ^ 22) (and_parts (is_shape shape) (nat_le (weight (Array shape xs f)) (2 ^ 22)) h).1
small-weighs v h = leb-true (weight v) (2 ^ 22) h

pub small-axes : (v : Value) → is_small v ≡ true → HasAxes v
small-axes (Array shape xs f) h =
    let p = and_parts (is_shape shape) (nat_le (weight (Array shape xs f)) (2 ^ 22)) h in
    let q = and_parts (nat_le (length shape) 16) (nat_le (size shape) (2 ^ 22)) p.0 in
    (leb-true (length shape) 16 q.0, leb-true (size shape) (2 ^ 22) q.1)
small-axes v h = tt

record Limits (v : Value) : Type 0 where
  weighs : weight v ≤ 2 ^ 22
  low : height v ≤ 128
  axes : HasAxes v

limited : (v : Value) → is_within v ≡ true → Limits v
limited v h =
    let p = and_parts (is_small v) (is_low v) h in
    record { weighs = small-weighs v p.0; low = leb-true (height v) 128 p.1; axes = small-axes v p.0 }

limits : (v : Value) → proper v ≡ true → Limits v
limits (Array shape xs f) h = limited (Array shape xs f) (whole shape xs f h).within
limits (Derived m xs) h = limited (Derived m xs) (and_parts (is_within (Derived m xs)) (is_made_of m xs)
    (and_parts (is_within (Derived m xs) && is_made_of m xs) (all_proper xs) h).0).0
limits (Function b e xs) h =
    limited (Function b e xs) (and_parts (is_within (Function b e xs)) (nat_le (count xs) 2)
    (and_parts (is_within (Function b e xs) && nat_le (count xs) 2) (all_proper xs) h).0).0
limits v h = record { weighs = omega arith; low = omega arith; axes = tt }

-- ---- how deep fills nest

carried-nests : (f : Fill) → proper_fill f ≡ true → fill_extent f ≤ 128
carried-nests unfilled h = omega arith
carried-nests (filled v) h =
    let k = and_parts (is_fill v) (proper v) h in
    leb-true (extent v) 128 (and_parts (is_identical_to v (prototype v)) (nat_le (extent v) 128) k.0).1

mutual
  nests : (v : Value) → proper v ≡ true → extent v ≤ height v + 128
  nests (Array shape xs f) h = let w = whole shape xs f h in omega (arith, all-nest xs w.parts, carried-nests f w.fill)
  nests v h = omega arith

  all-nest : (xs : Values) → all_proper xs ≡ true → extents xs ≤ heights xs + 128
  all-nest none h = omega arith
  all-nest (more x xs) h = let p = and_parts (proper x) (all_proper xs) h in omega (arith, nests x p.0, all-nest xs p.1)

pub proper_is_within_limits : ProperIsWithinLimits
proper_is_within_limits = record {
  weighs = λ v h. (limits v h).weighs;
  low = λ v h. (limits v h).low;
  axes = λ v h. (limits v h).axes;
  nests = λ v h. omega (arith, nests v h, (limits v h).low);
}

pub ruleset proper_laws = (proper_by_parts, proper_is_within_limits)
