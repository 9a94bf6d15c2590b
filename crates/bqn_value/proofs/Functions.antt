-- What the limits say of a function and its parts.
use Rattle.std.proofs.Common.{◌≡◌, ◌≤◌, ◌<◌, ◌^◌, ◌+◌, ℕ, suc, true, List, [], ◌∷◌, length, Ok, Err, refl, ap, sym, subst, ◌∙◌, arith}
use Rattle.std.proofs.lemmas.Bool.{le-leb, lt-leb}
use Rattle.std.proofs.lemmas.List.{length-map}
use Rattle.bqn_base.specs.declared.fault.Fault.TheVariants.{TooLarge, TooDeep}
use Rattle.bqn_rows.specs.Plain.{Value, Derived, Function, Maker, values, none}
use Rattle.bqn_rows.specs.Relations.{weights, heights}
use Rattle.bqn_rows.specs.Limits.{is_low, if_within, is_made_of, proper, all_proper, derived, block_function}
use Rattle.bqn_rows.proofs.Making.{made_is_within_limits}
use Rattle.bqn_value.specs.declared.value.Load.{Load}
use Rattle.bqn_value.specs.declared.value.Value as v
use Rattle.bqn_value.specs.Meaning.{plain, plains, Loaded}
use Rattle.bqn_rows.proofs.Rows.{count-values}

pub derived-ok : (m : Maker) (xs : List Value) → 1 + weights (values xs) ≤ 2 ^ 22 → 1 + heights (values xs) ≤ 128 → derived m (values xs) ≡ Ok (Derived m (values xs))
derived-ok m xs a b = λ i. if_within (le-leb (1 + weights (values xs)) (2 ^ 22) a i) (le-leb (suc (heights (values xs))) 128 (omega (arith, b)) i) (Derived m (values xs))

pub derived-large : (m : Maker) (xs : List Value) → 2 ^ 22 < 1 + weights (values xs) → derived m (values xs) ≡ Err TooLarge
derived-large m xs a = λ i. if_within (lt-leb (1 + weights (values xs)) (2 ^ 22) a i) (is_low (Derived m (values xs))) (Derived m (values xs))

pub derived-deep : (m : Maker) (xs : List Value) → 1 + weights (values xs) ≤ 2 ^ 22 → 128 < 1 + heights (values xs) → derived m (values xs) ≡ Err TooDeep
derived-deep m xs a b = λ i. if_within (le-leb (1 + weights (values xs)) (2 ^ 22) a i) (lt-leb (suc (heights (values xs))) 128 (omega (arith, b)) i) (Derived m (values xs))

pub derived-proper : (m : Maker) (xs : List Value) → is_made_of m (values xs) ≡ true → all_proper (values xs) ≡ true → 1 + weights (values xs) ≤ 2 ^ 22 → 1 + heights (values xs) ≤ 128 → proper (Derived m (values xs)) ≡ true
derived-proper m xs h k a b = made_is_within_limits.proper_derived m (values xs) (Derived m (values xs)) h k (derived-ok m xs a b)

-- a function with operands
pub function-ok : (b e : ℕ) (xs : List Value) → 1 ≤ length xs → 1 + weights (values xs) ≤ 2 ^ 22 → 1 + heights (values xs) ≤ 128 → block_function b e (values xs) ≡ Ok (Function b e (values xs))
function-ok b e [] n h k = absurd (omega arith)
function-ok b e (x ∷ xs) n h k = λ i. if_within (le-leb (1 + weights (values (x ∷ xs))) (2 ^ 22) h i) (le-leb (suc (heights (values (x ∷ xs)))) 128 (omega (arith, k)) i) (Function b e (values (x ∷ xs)))

pub function-large : (b e : ℕ) (xs : List Value) → 1 ≤ length xs → 2 ^ 22 < 1 + weights (values xs) → block_function b e (values xs) ≡ Err TooLarge
function-large b e [] n h = absurd (omega arith)
function-large b e (x ∷ xs) n h = λ i. if_within (lt-leb (1 + weights (values (x ∷ xs))) (2 ^ 22) h i) (is_low (Function b e (values (x ∷ xs)))) (Function b e (values (x ∷ xs)))

pub function-deep : (b e : ℕ) (xs : List Value) → 1 ≤ length xs → 1 + weights (values xs) ≤ 2 ^ 22 → 128 < 1 + heights (values xs) → block_function b e (values xs) ≡ Err TooDeep
function-deep b e [] n h k = absurd (omega arith)
function-deep b e (x ∷ xs) n h k = λ i. if_within (le-leb (1 + weights (values (x ∷ xs))) (2 ^ 22) h i) (lt-leb (suc (heights (values (x ∷ xs)))) 128 (omega (arith, k)) i) (Function b e (values (x ∷ xs)))

pub function-proper : (b e : ℕ) (xs : List Value) → 1 ≤ length xs → length xs ≤ 2 → all_proper (values xs) ≡ true → 1 + weights (values xs) ≤ 2 ^ 22 → 1 + heights (values xs) ≤ 128 → proper (Function b e (values xs)) ≡ true
function-proper b e xs n m k h l = made_is_within_limits.proper_function b e (values xs) (Function b e (values xs)) (omega (arith, count-values xs)) k (function-ok b e xs n h l)

-- what is answered where the parts are within the limits
pub function-made : (b e : ℕ) (vs us : List v.Value) (ps : List Value) (l : Load) → us ≡ vs → ps ≡ plains vs → 1 ≤ length vs → length vs ≤ 2
    → all_proper (values (plains vs)) ≡ true → Loaded (Ok l) (plains us)
    → (block_function b e (values (plains vs)) ≡ Ok (Function b e (values ps))) × (proper (Function b e (values ps)) ≡ true)
function-made b e vs us ps l u p n m k h =
    let w : 1 + weights (values (plains vs)) ≤ 2 ^ 22 = subst (λ ws. 1 + weights (values (plains ws)) ≤ 2 ^ 22) u h.0.1 in
    let t : 1 + heights (values (plains vs)) ≤ 128 = subst (λ ws. 1 + heights (values (plains ws)) ≤ 128) u h.1 in
    let c : length (plains vs) ≡ length vs = length-map vs plain in (
      function-ok b e (plains vs) (omega (arith, c)) w t ∙ ap (λ qs. Ok (Function b e (values qs))) (sym p),
      subst (λ qs. proper (Function b e (values qs)) ≡ true) (sym p) (function-proper b e (plains vs) (omega (arith, c)) (omega (arith, c)) k w t),
    )

-- one without any
pub plain-ok : (b e : ℕ) (vs : List v.Value) → length vs ≤ 0 → block_function b e (values (plains vs)) ≡ Ok (Function b e none)
plain-ok b e [] h = refl
plain-ok b e (x ∷ vs) h = absurd (omega arith)

pub plain-proper : (b e : ℕ) → proper (Function b e none) ≡ true
plain-proper b e = refl

pub ruleset function_laws = (derived-ok, derived-large, derived-deep, derived-proper, function-ok, function-large, function-deep, function-proper, plain-ok, plain-proper)
