-- The remainder of a floor is the one of a cut quotient, moved by the divisor where their signs differ.
use Rattle.std.proofs.Common.{◌≡◌, ◌≢◌, ◌<◌, ◌≤◌, ◌^◌, ◌+◌, ◌*◌, ◌-◌, ◌/◌, ◌%◌, ◌⊎◌, inl, inr, ℕ, zero, suc, ℤ, pos, negsuc, Ok, Err, Result, refl, ap, sym, subst, ◌∙◌, arith, to_z, of_z}
use Rattle.std.specs.Prelude.{FitsSigned, nat_abs, int_rem, ◌+ℤ◌, ◌-ℤ◌, ◌*ℤ◌, neg_ℤ, ◌<ℤ◌, ◌≤ℤ◌}
use Rattle.std.specs.Int.{w64}
use Rattle.std.proofs.lemmas.Int.{ints, to_z-of_z}
use Rattle.std.proofs.lemmas.Bool.{cases_lt}
use native.Mathlib.Nat.{div-add-mod, mod-lt, mod-eq_of_lt, mod_self}
use Rattle.std.proofs.Math.Nat.{suc-mod, zero-div, zero-mod}
use Rattle.bqn_base.specs.declared.fault.Fault.{Fault}
use Rattle.bqn_base.specs.declared.fault.Fault.TheVariants.{DivideByZero}
use Rattle.bqn_base.specs.Arithmetic.{fits, in_range}
use Rattle.bqn_base.specs.Numbers.{floor_of, modulus_of}
use Rattle.bqn_base.proofs.Fits.{in_range-fits}

abbrev pub floored : (w rest : ℤ) → ℤ
floored (pos n) (pos r) = pos r
floored (pos n) (negsuc r) = negsuc r +ℤ pos n
floored (negsuc n) (pos zero) = pos 0
floored (negsuc n) (pos (suc r)) = pos (suc r) +ℤ negsuc n
floored (negsuc n) (negsuc r) = negsuc r

abbrev left : (w x : ℤ) → ℤ
left w x = x -ℤ (w *ℤ floor_of x w)

-- a remainder and the next one
next : (a m : ℕ) → ((suc (a % suc m) ≡ suc m) × (suc a % suc m ≡ 0)) ⊎ ((suc (a % suc m) < suc m) × (suc a % suc m ≡ suc (a % suc m)))
next a m =
    elim (cases_lt (suc (a % suc m)) (suc m)) as (λ _. ((suc (a % suc m) ≡ suc m) × (suc a % suc m ≡ 0)) ⊎ ((suc (a % suc m) < suc m) × (suc a % suc m ≡ suc (a % suc m)))) [
      | inl h ↦ inr (h, suc-mod a (suc m) ∙ mod-eq_of_lt h)
      | inr h ↦ let l = mod-lt a {m = suc m} (omega arith) in
          let e : suc (a % suc m) ≡ suc m = omega arith in
          inl (e, suc-mod a (suc m) ∙ ap (λ (k : ℕ). k % suc m) e ∙ mod_self (suc m))
    ]

left-pos_pos : (m a : ℕ) → left (pos (suc m)) (pos a) ≡ pos (a % suc m)
left-pos_pos m a = let e = div-add-mod a (suc m) in omega (arith, ints)

left-pos_negsuc : (m a : ℕ) → left (pos (suc m)) (negsuc a) ≡ floored (pos (suc m)) (int_rem (negsuc a) (pos (suc m)))
left-pos_negsuc m a =
    let e = div-add-mod a (suc m) in
    elim (next a m) as (λ _. left (pos (suc m)) (negsuc a) ≡ floored (pos (suc m)) (int_rem (negsuc a) (pos (suc m)))) [
      | inl p ↦ let k = p.0 in let l : left (pos (suc m)) (negsuc a) ≡ pos 0 = omega (arith, ints) in l ∙ sym (ap (λ (r : ℕ). floored (pos (suc m)) (neg_ℤ (pos r))) p.1)
      | inr p ↦ let k = p.0 in let l : left (pos (suc m)) (negsuc a) ≡ negsuc (a % suc m) +ℤ pos (suc m) = omega (arith, ints) in l ∙ sym (ap (λ (r : ℕ). floored (pos (suc m)) (neg_ℤ (pos r))) p.1)
    ]

left-negsuc_pos : (m a : ℕ) → left (negsuc m) (pos a) ≡ floored (negsuc m) (int_rem (pos a) (negsuc m))
left-negsuc_pos m zero =
    let k = zero-div (suc m) in
    let l : left (negsuc m) (pos 0) ≡ pos 0 = omega (arith, ints) in
    l ∙ sym (ap (λ (r : ℕ). floored (negsuc m) (pos r)) (zero-mod (suc m)))
left-negsuc_pos m (suc a) =
    let e = div-add-mod a (suc m) in
    elim (next a m) as (λ _. left (negsuc m) (pos (suc a)) ≡ floored (negsuc m) (int_rem (pos (suc a)) (negsuc m))) [
      | inl p ↦ let k = p.0 in let l : left (negsuc m) (pos (suc a)) ≡ pos 0 = omega (arith, ints) in l ∙ sym (ap (λ (r : ℕ). floored (negsuc m) (pos r)) p.1)
      | inr p ↦ let k = p.0 in let l : left (negsuc m) (pos (suc a)) ≡ pos (suc (a % suc m)) +ℤ negsuc m = omega (arith, ints) in l ∙ sym (ap (λ (r : ℕ). floored (negsuc m) (pos r)) p.1)
    ]

floored-down : (m r : ℕ) → floored (negsuc m) (neg_ℤ (pos r)) ≡ neg_ℤ (pos r)
floored-down m zero = refl
floored-down m (suc r) = refl

left-negsuc_negsuc : (m a : ℕ) → left (negsuc m) (negsuc a) ≡ floored (negsuc m) (int_rem (negsuc a) (negsuc m))
left-negsuc_negsuc m a =
    let e = div-add-mod (suc a) (suc m) in
    let l : left (negsuc m) (negsuc a) ≡ neg_ℤ (pos (suc a % suc m)) = omega (arith, ints) in
    l ∙ sym (floored-down m (suc a % suc m))

left-floored : (w x : ℤ) → nat_abs w ≢ 0 → left w x ≡ floored w (int_rem x w)
left-floored (pos zero) x h = absurd (h refl)
left-floored (pos (suc m)) (pos a) h = left-pos_pos m a
left-floored (pos (suc m)) (negsuc a) h = left-pos_negsuc m a
left-floored (negsuc m) (pos a) h = left-negsuc_pos m a
left-floored (negsuc m) (negsuc a) h = left-negsuc_negsuc m a

modulus-left : (w x : ℤ) → nat_abs w ≢ 0 → modulus_of w x ≡ in_range (left w x)
modulus-left (pos zero) x h = absurd (h refl)
modulus-left (pos (suc m)) x h = refl
modulus-left (negsuc m) x h = refl

-- what floored gives is as small as the divisor

fits-up_down : (m r : ℕ) → r < suc m → FitsSigned w64 (pos (suc m)) → FitsSigned w64 (floored (pos (suc m)) (neg_ℤ (pos r)))
fits-up_down m zero l f = record { sfits = omega arith }
fits-up_down m (suc r) l f =
    let k = f.sfits in
    let e : pos (m - r) ≡ negsuc r +ℤ pos (suc m) = omega (arith, ints) in
    subst (λ (z : ℤ). FitsSigned w64 z) e (record { sfits = omega arith })

fits-down_up : (m r : ℕ) → r < suc m → FitsSigned w64 (negsuc m) → FitsSigned w64 (floored (negsuc m) (pos r))
fits-down_up m zero l f = record { sfits = omega arith }
fits-down_up m (suc r) l f =
    let k = f.sfits in
    let e : negsuc (m - suc r) ≡ pos (suc r) +ℤ negsuc m = omega (arith, ints) in
    subst (λ (z : ℤ). FitsSigned w64 z) e (record { sfits = omega arith })

fits-down_down : (m r : ℕ) → r < suc m → FitsSigned w64 (negsuc m) → FitsSigned w64 (floored (negsuc m) (neg_ℤ (pos r)))
fits-down_down m zero l f = record { sfits = omega arith }
fits-down_down m (suc r) l f = let k = f.sfits in record { sfits = omega arith }

floored-fits : (w x : ℤ) → FitsSigned w64 w → nat_abs w ≢ 0 → FitsSigned w64 (floored w (int_rem x w))
floored-fits (pos zero) x f h = absurd (h refl)
floored-fits (pos (suc m)) (pos a) f h = let k = f.sfits in let l = mod-lt a {m = suc m} (omega arith) in record { sfits = omega arith }
floored-fits (pos (suc m)) (negsuc a) f h = fits-up_down m (suc a % suc m) (mod-lt (suc a) {m = suc m} (omega arith)) f
floored-fits (negsuc m) (pos a) f h = fits-down_up m (a % suc m) (mod-lt a {m = suc m} (omega arith)) f
floored-fits (negsuc m) (negsuc a) f h = fits-down_down m (suc a % suc m) (mod-lt (suc a) {m = suc m} (omega arith)) f

pub modulus-zero : (w x : ℤ) → nat_abs w ≡ 0 → modulus_of w x ≡ Err DivideByZero
modulus-zero (pos zero) x h = refl
modulus-zero (pos (suc m)) x h = absurd (omega arith)
modulus-zero (negsuc m) x h = absurd (omega arith)

modulus-floored : (w x : ℤ) → FitsSigned w64 w → nat_abs w ≢ 0 → Ok (floored w (int_rem x w)) ≡ modulus_of w x
modulus-floored w x f h =
    sym (modulus-left w x h ∙ ap (λ (z : ℤ). in_range z) (left-floored w x h) ∙ in_range-fits (floored w (int_rem x w)) (floored-fits w x f h))

floored-kept : (w r : ℤ) → (r <ℤ pos 0 → w <ℤ pos 0) → (pos 0 <ℤ r → pos 0 <ℤ w) → r ≡ floored w r
floored-kept (pos n) (pos r) h k = refl
floored-kept (pos n) (negsuc r) h k = absurd (let l = h (omega (arith, ints)) in omega (arith, ints))
floored-kept (negsuc n) (pos zero) h k = refl
floored-kept (negsuc n) (pos (suc r)) h k = absurd (let l = k (omega (arith, ints)) in omega (arith, ints))
floored-kept (negsuc n) (negsuc r) h k = refl

floored-moved : (w r : ℤ) → ((r <ℤ pos 0) × (pos 0 <ℤ w)) ⊎ ((pos 0 <ℤ r) × (w <ℤ pos 0)) → r +ℤ w ≡ floored w r
floored-moved (pos n) (pos r) s = absurd (elim s as (λ _. ⊥) [ inl p ↦ let k = p.0 in omega (arith, ints) | inr p ↦ let k = p.1 in omega (arith, ints) ])
floored-moved (pos n) (negsuc r) s = refl
floored-moved (negsuc n) (pos zero) s = absurd (elim s as (λ _. ⊥) [ inl p ↦ let k = p.0 in omega (arith, ints) | inr p ↦ let k = p.0 in omega (arith, ints) ])
floored-moved (negsuc n) (pos (suc r)) s = refl
floored-moved (negsuc n) (negsuc r) s = absurd (elim s as (λ _. ⊥) [ inl p ↦ let k = p.1 in omega (arith, ints) | inr p ↦ let k = p.0 in omega (arith, ints) ])

modulus-kept : (w x r : ℤ) → FitsSigned w64 w → nat_abs w ≢ 0 → r ≡ int_rem x w → (r <ℤ pos 0 → w <ℤ pos 0) → (pos 0 <ℤ r → pos 0 <ℤ w) → Ok r ≡ modulus_of w x
modulus-kept w x r f h e s t = ap (λ (z : ℤ). Ok z) (floored-kept w r s t ∙ ap (λ (z : ℤ). floored w z) e) ∙ modulus-floored w x f h

pub modulus-kept_up : (w x r s : ℤ) → FitsSigned w64 w → nat_abs w ≢ 0 → r ≡ int_rem x w → pos 0 ≤ℤ r → pos 0 <ℤ w → s ≡ r → Ok s ≡ modulus_of w x
modulus-kept_up w x r s f h e p q t = ap (λ (z : ℤ). Ok z) t ∙ modulus-kept w x r f h e (λ k. absurd (omega (arith, ints))) (λ k. q)

pub modulus-moved_up : (w x r s : ℤ) → FitsSigned w64 w → nat_abs w ≢ 0 → r ≡ int_rem x w → r <ℤ pos 0 → pos 0 <ℤ w → s ≡ r +ℤ w → Ok s ≡ modulus_of w x
modulus-moved_up w x r s f h e p q t = ap (λ (z : ℤ). Ok z) (t ∙ floored-moved w r (inl (p, q)) ∙ ap (λ (z : ℤ). floored w z) e) ∙ modulus-floored w x f h

below-zero : (w : ℤ) → nat_abs w ≢ 0 → w ≤ℤ pos 0 → w <ℤ pos 0
below-zero (pos zero) h k = absurd (h refl)
below-zero (pos (suc n)) h k = absurd (omega (arith, ints))
below-zero (negsuc n) h k = omega (arith, ints)

pub modulus-kept_down : (w x r s : ℤ) → FitsSigned w64 w → nat_abs w ≢ 0 → r ≡ int_rem x w → r ≤ℤ pos 0 → w ≤ℤ pos 0 → s ≡ r → Ok s ≡ modulus_of w x
modulus-kept_down w x r s f h e p q t = ap (λ (z : ℤ). Ok z) t ∙ modulus-kept w x r f h e (λ k. below-zero w h q) (λ k. absurd (omega (arith, ints)))

pub modulus-moved_down : (w x r s : ℤ) → FitsSigned w64 w → nat_abs w ≢ 0 → r ≡ int_rem x w → pos 0 <ℤ r → w ≤ℤ pos 0 → s ≡ r +ℤ w → Ok s ≡ modulus_of w x
modulus-moved_down w x r s f h e p q t = ap (λ (z : ℤ). Ok z) (t ∙ floored-moved w r (inr (p, below-zero w h q)) ∙ ap (λ (z : ℤ). floored w z) e) ∙ modulus-floored w x f h

-- the remainder that the code computes
pub of_numbers : (x w : ℤ) → FitsSigned w64 x → FitsSigned w64 w → int_rem (to_z w64 (of_z w64 x)) (to_z w64 (of_z w64 w)) ≡ int_rem x w
of_numbers x w f g = ap (λ (z : ℤ). int_rem z (to_z w64 (of_z w64 w))) (to_z-of_z w64 x f) ∙ ap (λ (z : ℤ). int_rem x z) (to_z-of_z w64 w g)

pub ruleset modulus_laws = (modulus-zero, modulus-kept_up, modulus-kept_down, modulus-moved_up, modulus-moved_down)
