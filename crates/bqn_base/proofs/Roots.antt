-- A whole root is found where there is one.
use Rattle.std.proofs.Common.{◌≡◌, ◌≢◌, ◌<◌, ◌≤◌, ◌+◌, ◌^◌, ◌⊎◌, inl, inr, ℕ, zero, suc, Bool, true, false, nat_eq, Option, Some, refl, sym, ap, ◌∙◌, subst, eqb-true, arith, pow-suc, one-mul, ◌*◌}
use native.Mathlib.Nat.{pow-lt-pow_left, pow-le-pow_right, pow-zero}
use Rattle.std.proofs.lemmas.Bool.{cases_order, eqb-false}
use Rattle.bqn_base.specs.Numbers.{root_among}
use Rattle.bqn_base.specs.Laws.{RootsAreFound}

abbrev if_root : Bool → ℕ → Option ℕ → Option ℕ
if_root true y other = Some y
if_root false y other = other

root_among-suc : (w x many y : ℕ) → root_among w x (suc many) y ≡ if_root (nat_eq (y ^ w) x) y (root_among w x many (suc y))
root_among-suc w x many y = at (nat_eq (y ^ w) x)
  where
    at : (b : Bool) → (elim b as (λ _. Option ℕ) [ true ↦ Some y | false ↦ root_among w x many (suc y) ]) ≡ if_root b y (root_among w x many (suc y))
    at true = refl
    at false = refl

some-root : (b : Bool) (y r : ℕ) (other : Option ℕ) → if_root b y other ≡ Some r → ((b ≡ true) × (y ≡ r)) ⊎ (other ≡ Some r)
some-root true y r other h = inl (refl, cc)
some-root false y r other h = inr h

among-root : (w x many y r : ℕ) → root_among w x many y ≡ Some r → r ^ w ≡ x
among-root w x zero y r h = absurd cc
among-root w x (suc many) y r h =
    elim (some-root (nat_eq (y ^ w) x) y r (root_among w x many (suc y)) (sym (root_among-suc w x many y) ∙ h)) as (λ _. r ^ w ≡ x) [
      | inl p ↦ subst (λ z. z ^ w ≡ x) p.1 (eqb-true (y ^ w) x p.0)
      | inr p ↦ among-root w x many (suc y) r p
    ]

-- powers of one exponent are equal for one base only
same-base : (w y z : ℕ) → w ≢ zero → y ^ w ≡ z ^ w → y ≡ z
same-base w y z n e =
    elim (cases_order y z) as (λ _. y ≡ z) [
      | inl p ↦ p
      | inr p ↦ elim p as (λ _. y ≡ z) [
        | inl q ↦ absurd (let l = pow-lt-pow_left {a = y} {b = z} {n = w} q n in omega arith)
        | inr q ↦ absurd (let l = pow-lt-pow_left {a = z} {b = y} {n = w} q n in omega arith)
      ]
    ]

root-among : (w x many y r : ℕ) → w ≢ zero → r ^ w ≡ x → y ≤ r → r < y + many → root_among w x many y ≡ Some r
root-among w x zero y r n e l h = absurd (omega arith)
root-among w x (suc many) y r n e l h = root_among-suc w x many y ∙ at (nat_eq (y ^ w) x) refl (λ k. root-among w x many (suc y) r n e k (omega arith))
  where
    differs : nat_eq (y ^ w) x ≡ false → y ≢ r
    differs q p = eqb-false (y ^ w) x q (ap (λ z. z ^ w) p ∙ e)

    at : (b : Bool) → nat_eq (y ^ w) x ≡ b → (suc y ≤ r → root_among w x many (suc y) ≡ Some r) → if_root b y (root_among w x many (suc y)) ≡ Some r
    at true k further = ap (λ (z : ℕ). Some z) (same-base w y r n (eqb-true (y ^ w) x k ∙ sym e))
    at false k further = further (let m = differs k in omega arith)

-- a base is at most its power
pub base-below : (w y : ℕ) → 1 ≤ w → y ≤ y ^ w
base-below w zero h = omega arith
base-below w (suc y) h = let l = pow-le-pow_right {n = suc y} (omega arith) {i = 1} {j = w} h in subst (λ z. z ≤ suc y ^ w) (first-power (suc y)) l
  where
    first-power : (z : ℕ) → z ^ 1 ≡ z
    first-power z = pow-suc z 0 ∙ ap (λ k. k * z) (pow-zero z) ∙ one-mul z

pub roots_are_found : RootsAreFound
roots_are_found = record {
  root = λ w x y h. among-root w x (suc x) 0 y h;
  found = λ w x y p e. root-among w x (suc x) 0 y (λ z. omega arith) e (omega arith) (let b = base-below w y p in omega arith);
}

pub ruleset root_laws = (roots_are_found)
