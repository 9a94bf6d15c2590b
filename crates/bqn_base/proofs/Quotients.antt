-- Whole quotients, and what is left of them.
use Rattle.std.proofs.Common.{◌≡◌, ◌≢◌, ◌<◌, ◌≤◌, ◌^◌, ◌+◌, ◌*◌, ◌-◌, ◌/◌, ◌%◌, ℕ, zero, suc, ℤ, pos, negsuc, Bool, true, false, Option, Some, None, Ok, Err, Result, refl, ap, sym, subst, ◌∙◌, arith, nat_eq}
use Rattle.std.specs.Prelude.{SomeIff, FitsSigned, nat_abs, int_div, int_rem, ◌+ℤ◌, ◌-ℤ◌, ◌*ℤ◌, neg_ℤ}
use Rattle.std.specs.Option.{ok_or}
use Rattle.std.specs.Int.{w64, CanDivide, IsNonZero}
use Rattle.std.proofs.lemmas.Int.{ints}
use Rattle.std.proofs.lemmas.Bool.{eqb-false}
use Rattle.std.proofs.lemmas.Bool.Decides.{nat_tests}
use Rattle.bqn_base.specs.declared.fault.Fault.{Fault}
use Rattle.bqn_base.specs.declared.fault.Fault.TheVariants.{Overflow, NotWhole, DivideByZero}
use Rattle.bqn_base.specs.Arithmetic.{in_range}
use Rattle.bqn_base.specs.Numbers.{if_whole, reciprocal_of, quotient_of}
use Rattle.bqn_base.proofs.Fits.{in_range-ok_or}

is_equal : (m n : ℕ) → m ≡ n → nat_eq m n ≡ true
is_equal m n h = grind (arith, nat_tests)

is_unequal : (m n : ℕ) → m ≢ n → nat_eq m n ≡ false
is_unequal m n h = grind (arith, nat_tests)

-- ---- reciprocals

reciprocal-if_whole : (x : ℤ) → nat_abs x ≢ 0 → reciprocal_of x ≡ if_whole (nat_eq (nat_abs x) 1) (Ok x)
reciprocal-if_whole (pos zero) h = absurd (h refl)
reciprocal-if_whole (pos (suc n)) h = refl
reciprocal-if_whole (negsuc n) h = refl

pub reciprocal-zero : (x : ℤ) → nat_abs x ≡ 0 → reciprocal_of x ≡ Err DivideByZero
reciprocal-zero (pos zero) h = refl
reciprocal-zero (pos (suc n)) h = absurd (omega arith)
reciprocal-zero (negsuc n) h = absurd (omega arith)

pub reciprocal-one : (x : ℤ) → nat_abs x ≡ 1 → reciprocal_of x ≡ Ok x
reciprocal-one x h = reciprocal-if_whole x (λ z. omega arith) ∙ ap (λ (b : Bool). if_whole b (Ok x)) (is_equal (nat_abs x) 1 h)

pub reciprocal-other : (x : ℤ) → nat_abs x ≢ 0 → nat_abs x ≢ 1 → reciprocal_of x ≡ Err NotWhole
reciprocal-other x h k = reciprocal-if_whole x h ∙ ap (λ (b : Bool). if_whole b (Ok x)) (is_unequal (nat_abs x) 1 k)

-- ---- quotients

quotient-if_whole : (w x : ℤ) → nat_abs x ≢ 0 → quotient_of w x ≡ if_whole (nat_eq (nat_abs w % nat_abs x) 0) (in_range (int_div w x))
quotient-if_whole w (pos zero) h = absurd (h refl)
quotient-if_whole w (pos (suc n)) h = refl
quotient-if_whole w (negsuc n) h = refl

pub quotient-zero : (w x : ℤ) → nat_abs x ≡ 0 → quotient_of w x ≡ Err DivideByZero
quotient-zero w (pos zero) h = refl
quotient-zero w (pos (suc n)) h = absurd (omega arith)
quotient-zero w (negsuc n) h = absurd (omega arith)

pub quotient-part : (w x : ℤ) → nat_abs x ≢ 0 → nat_abs w % nat_abs x ≢ 0 → quotient_of w x ≡ Err NotWhole
quotient-part w x h k = quotient-if_whole w x h ∙ ap (λ (b : Bool). if_whole b (in_range (int_div w x))) (is_unequal (nat_abs w % nat_abs x) 0 k)

nonzero : (x : ℤ) → FitsSigned w64 x → nat_abs x ≢ 0 → IsNonZero w64 x
nonzero (pos zero) f h = absurd (h refl)
nonzero (pos (suc n)) f h = omega arith
nonzero (negsuc n) f h = let k = f.sfits in omega arith

only_fits : (r : Option ℤ) (x z : ℤ) (P : Type 0) → P → SomeIff r (P × FitsSigned w64 z) z → SomeIff r (FitsSigned w64 z) z
only_fits None x z P p h = λ f. h (p, f)
only_fits (Some y) x z P p h = (h.0.1, h.1)

pub quotient-whole : (r : Option ℤ) (w x : ℤ) → SomeIff r (CanDivide w64 w x) (int_div w x) → FitsSigned w64 x → nat_abs x ≢ 0 → nat_abs w % nat_abs x ≡ 0 → ok_or r Overflow ≡ quotient_of w x
quotient-whole r w x s f h k =
    in_range-ok_or r (int_div w x) (only_fits r x (int_div w x) (IsNonZero w64 x) (nonzero x f h) s)
    ∙ sym (quotient-if_whole w x h ∙ ap (λ (b : Bool). if_whole b (in_range (int_div w x))) (is_equal (nat_abs w % nat_abs x) 0 k))

pub ruleset quotient_laws = (reciprocal-zero, reciprocal-one, reciprocal-other, quotient-zero, quotient-part, quotient-whole)
