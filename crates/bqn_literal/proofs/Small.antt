-- Numbers of 64 bits, and powers of ten.
use Rattle.std.proofs.Common.{◌≡◌, ◌≤◌, ◌<◌, ◌*◌, ◌^◌, ℕ, Bool, true, false, Option, Some, None, sym, ap, ◌∙◌, arith}
use Rattle.std.specs.Prelude.{nat_lt, SomeIff, if◌then◌else◌}
use Rattle.std.proofs.lemmas.Bool.Decides.{nat_tests}
use Rattle.std.proofs.Math.Nat.{le-mul_of_pos_right, one-le-pow, pow-le-pow_right}
use Rattle.bqn_literal.specs.Values.{small}

pub small-some : (n : ℕ) → n < 2 ^ 64 → small n ≡ Some n
small-some n h = let e : nat_lt n (2 ^ 64) ≡ true = grind (arith, nat_tests) in ap (λ (b : Bool). if b then Some n else None) e

pub small-none : (n : ℕ) → 2 ^ 64 ≤ n → small n ≡ None
small-none n h = let e : nat_lt n (2 ^ 64) ≡ false = grind (arith, nat_tests) in ap (λ (b : Bool). if b then Some n else None) e

pub small-checked : (r : Option ℕ) (n : ℕ) → SomeIff r (n < 2 ^ 64) n → r ≡ small n
small-checked None n h = sym (small-none n (omega (arith, h)))
small-checked (Some x) n h = ap (λ (y : ℕ). Some y) h.1 ∙ sym (small-some n h.0)

pub small-ten : (r : Option ℕ) (n k : ℕ) → SomeIff r (n * 10 < 2 ^ 64) (n * 10) → k ≡ 1 → r ≡ small (n * 10 ^ k)
small-ten r n k h e = small-checked r (n * 10) h ∙ ap (λ (x : ℕ). small (n * 10 ^ x)) (sym e)

pub le-times_ten : (n k : ℕ) → n ≤ n * 10 ^ k
le-times_ten n k = le-mul_of_pos_right n (one-le-pow k 10 (omega arith))

-- twenty zeros are too many
pub far : (n k : ℕ) → 0 < n → 20 ≤ k → 2 ^ 64 ≤ n * 10 ^ k
far n k some h =
    let p : 10 ^ 20 ≤ 10 ^ k = pow-le-pow_right {n = 10} (omega arith) h in
    let q : 10 ^ k ≤ 10 ^ k * n = le-mul_of_pos_right (10 ^ k) some in
    omega arith

pub small-no_factor : (n k : ℕ) → 0 < n → SomeIff {T = ℕ} None (10 ^ k < 2 ^ 64) (10 ^ k) → small (n * 10 ^ k) ≡ None
small-no_factor n k some h =
    let q : 10 ^ k ≤ 10 ^ k * n = le-mul_of_pos_right (10 ^ k) some in
    small-none (n * 10 ^ k) (omega (arith, h))

pub small-far : (n k : ℕ) → 0 < n → 2 ^ 32 ≤ k → small (n * 10 ^ k) ≡ None
small-far n k some h = small-none (n * 10 ^ k) (far n k some (omega arith))

pub ruleset small_laws = (small-checked, small-ten, small-no_factor, small-far)

pub ruleset digit_laws = (small-checked, small-none, small-some)

pub ruleset scale_laws = (small-checked)
