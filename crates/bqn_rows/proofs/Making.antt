-- What is made keeps the limits, and is proper where its parts are.
use Rattle.std.proofs.Common.{◌≡◌, ◌≤◌, ◌^◌, ℕ, Bool, true, false, ◌&&◌, nat_le, List, Option, Some, None, Ok, refl, sym, subst, leb-true, le-leb}
use Rattle.std.proofs.lemmas.Bool.{and_from}
use Rattle.bqn_rows.specs.Plain.{Maker, Value, Array, Derived, Function, Values, none, more, Fill, unfilled, count}
use Rattle.bqn_rows.specs.Relations.{weight, height, extent, prototype}
use Rattle.bqn_rows.specs.Limits.{places, is_small, is_low, is_within, if_within, made, kept, carrying, array, derived, block_function, is_made_of, is_identical_to, is_fill, fits_elements, proper, all_proper, proper_fill}
use Rattle.bqn_rows.specs.Laws.{HasAxes, IsFill, MadeIsWithinLimits}
use Rattle.bqn_rows.proofs.Proper.{from-whole, small-weighs, small-axes}

-- ---- limits

record Within (v made_value : Value) : Type 0 where
  small : is_small v ≡ true
  low : is_low v ≡ true
  itself : made_value ≡ v

within-by : (small low : Bool) (v u : Value) → is_small v ≡ small → is_low v ≡ low → if_within small low v ≡ Ok u → Within v u
within-by true true v u s l h = record { small = s; low = l; itself = cc }
within-by true false v u s l h = absurd cc
within-by false low v u s l h = absurd cc

within : (v u : Value) → made v ≡ Ok u → Within v u
within v u h = within-by (is_small v) (is_low v) v u refl refl h

is-within : (v u : Value) → Within v u → is_within v ≡ true
is-within v u w = and_from (is_small v) (is_low v) w.small w.low

-- ---- proper values

kept-proper : (b : Bool) (g : Value) → nat_le (extent g) 128 ≡ b → is_identical_to g (prototype g) ≡ true → proper g ≡ true → proper_fill (kept b g) ≡ true
kept-proper true g e s p = and_from (is_fill g) (proper g) (and_from (is_identical_to g (prototype g)) (nat_le (extent g) 128) s e) p
kept-proper false g e s p = refl

carrying-proper : (f : Option Value) → IsFill f → proper_fill (carrying f) ≡ true
carrying-proper None h = refl
carrying-proper (Some g) h = kept-proper (nat_le (extent g) 128) g refl h.0 h.1

filled-proper : (shape : List ℕ) (xs : Values) (g : Fill) (v : Value) → places shape ≡ count xs → all_proper xs ≡ true → fits_elements xs g ≡ true
    → proper_fill g ≡ true → made (Array shape xs g) ≡ Ok v → proper v ≡ true
filled-proper shape xs g v c p e f h =
    let w = within (Array shape xs g) v h in
    subst (λ u. proper u ≡ true) (sym w.itself)
    (from-whole shape xs g (record { within = is-within (Array shape xs g) v w; counted = c; parts = p; fits = e; fill = f }))

proper-array : (shape : List ℕ) (xs : Values) (f : Option Value) (v : Value) → places shape ≡ count xs → all_proper xs ≡ true → IsFill f → array shape xs f
    ≡ Ok v → proper v ≡ true
proper-array shape none f v c p i h = filled-proper shape none (carrying f) v c p refl (carrying-proper f i) h
proper-array shape (more x xs) f v c p i h = filled-proper shape (more x xs) unfilled v c p refl refl h

proper-derived : (maker : Maker) (parts : Values) (v : Value) → is_made_of maker parts ≡ true → all_proper parts ≡ true → derived maker parts ≡ Ok v
    → proper v ≡ true
proper-derived maker parts v m p h =
    let w = within (Derived maker parts) v h in
    subst (λ u. proper u ≡ true) (sym w.itself)
    (and_from (is_within (Derived maker parts) && is_made_of maker parts) (all_proper parts)
    (and_from (is_within (Derived maker parts)) (is_made_of maker parts) (is-within (Derived maker parts) v w) m) p)

proper-function : (block environment : ℕ) (operands : Values) (v : Value) → count operands ≤ 2 → all_proper operands ≡ true
    → block_function block environment operands ≡ Ok v → proper v ≡ true
proper-function block environment operands v c p h =
    let w = within (Function block environment operands) v h in
    subst (λ u. proper u ≡ true) (sym w.itself)
    (and_from (is_within (Function block environment operands) && nat_le (count operands) 2) (all_proper operands)
    (and_from (is_within (Function block environment operands)) (nat_le (count operands) 2) (is-within (Function block environment operands) v w)
    (le-leb (count operands) 2 c)) p)

pub made_is_within_limits : MadeIsWithinLimits
made_is_within_limits = record {
  itself = λ v u h. (within v u h).itself;
  weighs = λ v u h. let w = within v u h in subst (λ z. weight z ≤ 2 ^ 22) (sym w.itself) (small-weighs v w.small);
  low = λ v u h. let w = within v u h in subst (λ z. height z ≤ 128) (sym w.itself) (leb-true (height v) 128 w.low);
  axes = λ v u h. let w = within v u h in subst HasAxes (sym w.itself) (small-axes v w.small);
  proper_array = proper-array;
  proper_derived = proper-derived;
  proper_function = proper-function;
}

pub ruleset making_laws = (made_is_within_limits)
