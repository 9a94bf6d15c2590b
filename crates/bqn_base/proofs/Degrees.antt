-- Whole roots of a degree, by the greatest number whose power is at most the given one.
use Rattle.std.proofs.Common.{◌≡◌, ◌≢◌, ◌<◌, ◌≤◌, ◌^◌, ◌+◌, ◌*◌, inl, inr, ℕ, zero, suc, ℤ, pos, negsuc, Bool, true, false, Option, Some, None, Ok, Err, Result, refl, ap, sym, subst, ◌∙◌, arith}
use Rattle.std.specs.Prelude.{nat_abs, ◌<ℤ◌, ◌≤ℤ◌}
use Rattle.std.proofs.lemmas.Int.{ints}
use Rattle.std.proofs.lemmas.Bool.{cases_lt}
use native.Mathlib.Nat.{pow-le-pow_left, pow-le-pow_right}
use Rattle.bqn_base.specs.declared.fault.Fault.{Fault}
use Rattle.bqn_base.specs.declared.fault.Fault.TheVariants.{Domain, NotWhole, DivideByZero}
use Rattle.bqn_base.specs.Numbers.{whole, whole_root, root_of, square_root_of}
use Rattle.bqn_base.proofs.Powers.{one-power, zero-power}
use Rattle.bqn_base.proofs.Roots.{base-below, roots_are_found}

none-found : (w x : ℕ) → ((y : ℕ) → y ^ w ≢ x) → whole_root w x ≡ None
none-found w x none = at (whole_root w x) refl
  where
    at : (r : Option ℕ) → whole_root w x ≡ r → r ≡ None
    at None e = refl
    at (Some y) e = absurd (none y (roots_are_found.root w x y e))

-- between two powers in a row there is no other
between : (w x f y : ℕ) → f ^ w < x → x < (f + 1) ^ w → y ^ w ≢ x
between w x f y h k e =
    elim (cases_lt f y) as (λ _. ⊥) [
      | inl l ↦ let p = pow-le-pow_left {n = f + 1} {m = y} (omega arith) w in omega arith
      | inr l ↦ let p = pow-le-pow_left {n = y} {m = f} l w in omega arith
    ]

pub root-whole : (w x f : ℕ) → f ^ suc w ≡ x → root_of (pos (suc w)) (pos x) ≡ Ok (pos f)
root-whole w x f e = ap (λ (r : Option ℕ). whole r) (roots_are_found.found (suc w) x f (omega arith) e)

pub root-found : (w x z : ℤ) (d f p : ℕ) → p ≡ f ^ d → pos 0 <ℤ w → pos 0 ≤ℤ x → w ≡ pos d → x ≡ pos p → z ≡ pos f → Ok z ≡ root_of w x
root-found (pos zero) x z d f p e h k i j l = absurd (omega (arith, ints))
root-found (negsuc w) x z d f p e h k i j l = absurd (omega (arith, ints))
root-found (pos (suc w)) (negsuc x) z d f p e h k i j l = absurd (omega (arith, ints))
root-found (pos (suc w)) (pos x) z d f p e h k i j l =
    let m : suc w ≡ d = omega (arith, ints) in
    let n : p ≡ x = omega (arith, ints) in
    ap (λ (y : ℤ). Ok y) l ∙ sym (root-whole w x f (ap (λ (k : ℕ). f ^ k) m ∙ sym e ∙ n))

pub root-part : (w x f : ℕ) → f ^ suc w ≤ x → x < (f + 1) ^ suc w → f ^ suc w ≢ x → root_of (pos (suc w)) (pos x) ≡ Err NotWhole
root-part w x f h k d = ap (λ (r : Option ℕ). whole r) (none-found (suc w) x (λ y. between (suc w) x f y (omega arith) k))

-- the root of 0 and of 1 of each degree
pub root-small : (w x : ℕ) → x < 2 → root_of (pos (suc w)) (pos x) ≡ Ok (pos x)
root-small w zero h = root-whole w 0 0 (zero-power w)
root-small w (suc zero) h = root-whole w 1 1 (one-power (suc w))
root-small w (suc (suc x)) h = absurd (omega arith)

large_degree : (w x y : ℕ) → 63 ≤ suc w → 2 ≤ x → x < 2 ^ 63 → y ^ suc w ≢ x
large_degree w x zero h k l e = let p = zero-power w in omega arith
large_degree w x (suc zero) h k l e = let p = one-power (suc w) in omega arith
large_degree w x (suc (suc y)) h k l e =
    let p = pow-le-pow_left {n = 2} {m = suc (suc y)} (omega arith) (suc w) in
    let q = pow-le-pow_right {n = 2} (omega arith) {i = 63} {j = suc w} h in
    omega arith

pub root-large : (w x : ℕ) → 63 ≤ suc w → 2 ≤ x → x < 2 ^ 63 → root_of (pos (suc w)) (pos x) ≡ Err NotWhole
root-large w x h k l = ap (λ (r : Option ℕ). whole r) (none-found (suc w) x (λ y. large_degree w x y h k l))

-- ---- degrees below 0, which are all alike

pub root-below : (w : ℕ) (x : ℤ) → root_of (negsuc 0) x ≡ root_of (negsuc w) x
root-below w (pos zero) = refl
root-below w (pos (suc zero)) = refl
root-below w (pos (suc (suc x))) = refl
root-below w (negsuc x) = refl

pub root-below_many : (x : ℕ) → 2 ≤ x → root_of (negsuc 0) (pos x) ≡ Err NotWhole
root-below_many zero h = absurd (omega arith)
root-below_many (suc zero) h = absurd (omega arith)
root-below_many (suc (suc x)) h = refl

pub root-domain : (w : ℤ) (x : ℕ) → nat_abs w ≢ 0 → root_of w (negsuc x) ≡ Err Domain
root-domain (pos zero) x h = absurd (h refl)
root-domain (pos (suc w)) x h = refl
root-domain (negsuc w) x h = refl

pub square-root : (x : ℤ) → root_of (pos 2) x ≡ square_root_of x
square-root (pos x) = refl
square-root (negsuc x) = refl

-- where the search for a root begins

pub first_low : (degree x : ℕ) → 1 ≤ degree → 0 ^ degree ≤ x
first_low zero x h = absurd (omega arith)
first_low (suc degree) x h = let p = zero-power degree in omega arith

pub first_high : (degree x : ℕ) → 1 ≤ degree → x < (x + 1) ^ degree
first_high degree x h = let p = base-below degree (x + 1) h in omega arith

pub ruleset search_laws = (first_low, first_high)

pub ruleset root_row_laws = (root-whole, root-part, root-small, root-large, root-below, root-below_many, root-domain)

pub ruleset square_laws = (square-root)
