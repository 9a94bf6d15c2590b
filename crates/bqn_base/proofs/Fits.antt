-- The test `fits` says what the checked operations of std say.
use Rattle.std.proofs.Common.{◌≡◌, ◌<◌, ◌^◌, ℕ, zero, suc, ℤ, pos, negsuc, Bool, true, false, Option, Some, None, Ok, Err, ap, sym, ◌∙◌, arith}
use Rattle.std.specs.Prelude.{SomeIff, OkIff, FitsSigned, if◌then◌else◌, nat_lt, nat_abs, neg_ℤ, ◌↔◌, Result}
use Rattle.std.specs.Option.{ok_or}
use Rattle.std.specs.Result.{result_ok}
use Rattle.std.specs.Int.{w64}
use Rattle.std.proofs.lemmas.Bool.Decides.{nat_tests}
use Rattle.bqn_base.specs.declared.fault.Fault.TheVariants.{Overflow}
use Rattle.bqn_base.specs.Arithmetic.{fits, in_range}
use Rattle.bqn_base.specs.Numbers.{absolute_of}

below : (n : ℕ) → n < 2 ^ 63 → nat_lt n (2 ^ 63) ≡ true
below n h = grind (arith, nat_tests)

not_below : (n : ℕ) → (n < 2 ^ 63 → ⊥) → nat_lt n (2 ^ 63) ≡ false
not_below n h = grind (arith, nat_tests)

fits-true : (z : ℤ) → FitsSigned w64 z → fits z ≡ true
fits-true (pos n) h = below n h.sfits
fits-true (negsuc n) h = below n h.sfits

fits-false : (z : ℤ) → ¬ (FitsSigned w64 z) → fits z ≡ false
fits-false (pos n) h = not_below n (λ p. h (record { sfits = p }))
fits-false (negsuc n) h = not_below n (λ p. h (record { sfits = p }))

pub in_range-ok_or : (r : Option ℤ) (z : ℤ) → SomeIff r (FitsSigned w64 z) z → ok_or r Overflow ≡ in_range z
in_range-ok_or None z s = sym (ap (λ (b : Bool). if b then Ok z else Err Overflow) (fits-false z s))
in_range-ok_or (Some x) z s = ap (λ (y : ℤ). Ok y) s.1 ∙ sym (ap (λ (b : Bool). if b then Ok z else Err Overflow) (fits-true z s.0))

pub in_range-fits : (z : ℤ) → FitsSigned w64 z → in_range z ≡ Ok z
in_range-fits z h = ap (λ (b : Bool). if b then Ok z else Err Overflow) (fits-true z h)

pub in_range-past : (z : ℤ) → ¬ (FitsSigned w64 z) → in_range z ≡ Err Overflow
in_range-past z h = ap (λ (b : Bool). if b then Ok z else Err Overflow) (fits-false z h)

-- the negative of a number of 64 bits fits where its absolute value does
absolute-fits : (x : ℤ) → FitsSigned w64 x → FitsSigned w64 (pos (nat_abs x)) ↔ FitsSigned w64 (neg_ℤ x)
absolute-fits (pos zero) f = (λ h. h, λ h. h)
absolute-fits (pos (suc n)) f = (λ h. record { sfits = let k = f.sfits in omega arith }, λ h. f)
absolute-fits (negsuc n) f = (λ h. h, λ h. h)

pub absolute-ok_or : (r : Option ℤ) (x : ℤ) → FitsSigned w64 x → SomeIff r (FitsSigned w64 (neg_ℤ x)) (pos (nat_abs x)) → ok_or r Overflow ≡ absolute_of x
absolute-ok_or None x f s = in_range-ok_or None (pos (nat_abs x)) (λ h. s ((absolute-fits x f).0 h))
absolute-ok_or (Some y) x f s = in_range-ok_or (Some y) (pos (nat_abs x)) ((absolute-fits x f).1 s.0, s.1)

pub ok-ok_or : {E : Type 0} (r : Result ℤ E) (z : ℤ) → OkIff r (FitsSigned w64 z) z → ok_or (result_ok r) Overflow ≡ in_range z
ok-ok_or (Ok x) z h = in_range-ok_or (Some x) z h
ok-ok_or (Err e) z h = in_range-ok_or None z h

pub ruleset fits_laws = (in_range-ok_or, absolute-ok_or)

pub ruleset narrow_laws = (ok-ok_or)
