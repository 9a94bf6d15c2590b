-- Powers: of 0, of 1, of ¯1, and of the numbers whose powers grow.
use Rattle.std.proofs.Common.{◌≡◌, ◌≢◌, ◌<◌, ◌≤◌, ◌^◌, ◌+◌, ◌*◌, ◌%◌, ℕ, zero, suc, ℤ, pos, negsuc, Bool, true, false, Option, Ok, Err, refl, ap, sym, subst, ◌∙◌, arith, cond, eqb, pow-suc}
use Rattle.std.specs.Prelude.{SomeIff, FitsSigned, nat_abs, neg_ℤ, ◌≤ℤ◌}
use Rattle.std.proofs.lemmas.Int.{ints}
use Rattle.std.specs.Option.{ok_or}
use Rattle.std.specs.Int.{w64, int_pow}
use Rattle.std.proofs.lemmas.Bool.Decides.{nat_tests}
use native.Mathlib.Nat.{pow-le-pow_left, pow-le-pow_right, pow-zero}
use Rattle.bqn_base.specs.declared.fault.Fault.TheVariants.{Overflow, NotWhole, DivideByZero}
use Rattle.bqn_base.specs.Arithmetic.{in_range}
use Rattle.bqn_base.specs.Numbers.{power_of}
use Rattle.bqn_base.proofs.Fits.{in_range-ok_or, in_range-past}

pub one-power : (n : ℕ) → 1 ^ n ≡ 1
one-power zero = refl
one-power (suc n) = pow-suc 1 n ∙ ap (λ (k : ℕ). k * 1) (one-power n)

pub zero-power : (n : ℕ) → 0 ^ suc n ≡ 0
zero-power n = let k : 0 ^ n * 0 ≡ 0 = omega arith in pow-suc 0 n ∙ k

pub power-zero_down : (n : ℕ) → power_of (pos 0) (negsuc n) ≡ Err DivideByZero
power-zero_down n = refl

pub power-zero_up : (x : ℤ) → pos 0 ≤ℤ x → nat_abs x ≢ 0 → power_of (pos 0) x ≡ Ok (pos 0)
power-zero_up (pos zero) h k = absurd (k refl)
power-zero_up (pos (suc n)) h k = ap (λ (k : ℕ). in_range (pos k)) (zero-power n)
power-zero_up (negsuc n) h k = absurd (omega (arith, ints))

pub power-one : (x : ℤ) → power_of (pos 1) x ≡ Ok (pos 1)
power-one (pos n) = ap (λ (k : ℕ). in_range (pos k)) (one-power n)
power-one (negsuc n) = refl

turned : (n : ℕ) → int_pow (negsuc 0) n ≡ cond (eqb (n % 2) 0) (pos 1) (negsuc 0)
turned n = ap (λ (k : ℕ). cond (eqb (n % 2) 0) (pos k) (neg_ℤ (pos k))) (one-power n)

even : (n : ℕ) → n % 2 ≡ 0 → int_pow (negsuc 0) n ≡ pos 1
even n h = turned n ∙ ap (λ (k : ℕ). cond (eqb k 0) (pos 1) (negsuc 0)) h

odd : (n : ℕ) → n % 2 ≢ 0 → int_pow (negsuc 0) n ≡ negsuc 0
odd n h = let k : n % 2 ≡ 1 = omega arith in turned n ∙ ap (λ (k : ℕ). cond (eqb k 0) (pos 1) (negsuc 0)) k

pub power-even : (x : ℤ) → nat_abs x % 2 ≡ 0 → power_of (negsuc 0) x ≡ Ok (pos 1)
power-even (pos n) h = ap (λ (z : ℤ). in_range z) (even n h)
power-even (negsuc n) h = ap (λ (z : ℤ). Ok z) (even (suc n) h)

pub power-odd : (x : ℤ) → nat_abs x % 2 ≢ 0 → power_of (negsuc 0) x ≡ Ok (negsuc 0)
power-odd (pos n) h = ap (λ (z : ℤ). in_range z) (odd n h)
power-odd (negsuc n) h = ap (λ (z : ℤ). Ok z) (odd (suc n) h)

pub power-many_down : (w : ℤ) (n : ℕ) → 2 ≤ nat_abs w → power_of w (negsuc n) ≡ Err NotWhole
power-many_down (pos zero) n h = absurd (omega arith)
power-many_down (pos (suc zero)) n h = absurd (omega arith)
power-many_down (pos (suc (suc w))) n h = refl
power-many_down (negsuc zero) n h = absurd (omega arith)
power-many_down (negsuc (suc w)) n h = refl

-- powers of 64 and more of 2 and more
pub large : (b n : ℕ) → 2 ≤ b → 64 ≤ n → 2 ^ 64 ≤ b ^ n
large b n h k =
    let p = pow-le-pow_left {n = 2} {m = b} h n in
    let q = pow-le-pow_right {n = 2} (omega arith) {i = 64} {j = n} k in
    omega arith

past-signed : (c : Bool) (k : ℕ) → 2 ^ 64 ≤ k → ¬ (FitsSigned w64 (cond c (pos k) (neg_ℤ (pos k))))
past-signed true k h f = let l = f.sfits in omega arith
past-signed false zero h f = omega arith
past-signed false (suc k) h f = let l = f.sfits in omega arith

past-power : (w : ℤ) (n : ℕ) → 2 ≤ nat_abs w → 64 ≤ n → ¬ (FitsSigned w64 (int_pow w n))
past-power (pos w) n h k f = let l = f.sfits in let m = large w n h k in omega arith
past-power (negsuc w) n h k f = past-signed (eqb (n % 2) 0) (suc w ^ n) (large (suc w) n h k) f

pub power-many_past : (w : ℤ) (n : ℕ) → 2 ≤ nat_abs w → 64 ≤ n → power_of w (pos n) ≡ Err Overflow
power-many_past w n h k = in_range-past (int_pow w n) (past-power w n h k)

pub power-many : (r : Option ℤ) (w : ℤ) (n : ℕ) → SomeIff r (FitsSigned w64 (int_pow w n)) (int_pow w n) → ok_or r Overflow ≡ power_of w (pos n)
power-many r w n s = in_range-ok_or r (int_pow w n) s

pub ruleset power_laws = (power-zero_down, power-zero_up, power-one, power-even, power-odd, power-many_down, power-many_past, power-many)
