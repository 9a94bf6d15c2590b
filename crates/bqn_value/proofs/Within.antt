-- A proper value is within the limits.
use Rattle.std.proofs.Common.{◌≡◌, ◌≤◌, ◌^◌, ◌&&◌, ◌+◌, ◌*◌, ℕ, zero, suc, max, true, nat_le, List, [], ◌∷◌, length, get_or, drop, false, ◌<◌, sym, ap, subst, ◌∙◌, add-one, Option, Ok, Err, refl, arith}
use Rattle.std.proofs.Math.Seq.{drop-cons}
use Rattle.std.proofs.Math.Nat.{mul_assoc}
use Rattle.std.proofs.Math.Bool.{and-false}
use Rattle.std.proofs.lemmas.Bool.{lt-leb, le-leb, and_from}
use Rattle.std.proofs.lemmas.Bool.Decides.{leb_tells}
use Rattle.bqn_base.specs.declared.fault.Fault.TheVariants.{TooLarge, TooDeep}
use Rattle.std.proofs.lemmas.Bool.{and_parts}
use Rattle.bqn_rows.specs.Plain.{Value, Array, Function, Values, none, more, unfilled, values, fill}
use Rattle.bqn_rows.specs.Relations.{weight, weights, height, heights}
use Rattle.bqn_value.specs.declared.value.Value as v
use Rattle.bqn_rows.proofs.Making.{made_is_within_limits}
use Rattle.bqn_rows.proofs.Proper.{proper_is_within_limits}
use Rattle.bqn_rows.proofs.Rows.{count-values}
use Rattle.bqn_rows.specs.Laws.{IsFill}
use Rattle.std.proofs.lemmas.List.{length-map}
use Rattle.bqn_value.specs.Meaning.{plain, plains, plain_fill, Kept, bulk, all_bulk, LoadOf, LoadOfParts, Passes, IsDeep, carries}
use Rattle.bqn_value.specs.declared.value.Load.{Load}
use Rattle.bqn_rows.specs.Limits.{is_shape, if_within, array, carrying, is_small, is_low, places, size, proper, all_proper}

pub record Within (v : Value) : Type 0 where
  pub weighs : weight v ≤ 2 ^ 22
  pub stands : height v ≤ 128

pub within : (v : Value) → proper v ≡ true → Within v
within v h = record { weighs = proper_is_within_limits.weighs v h; stands = proper_is_within_limits.low v h }

-- ---- the load of a function with operands

pub above : (b e : ℕ) (xs : List Value) (l : Load) → LoadOfParts l xs → 1 ≤ length xs → LoadOf (record { weight = 1 + l.weight; height = 1 + l.height }) (Function b e (values xs))
above b e [] l h n = absurd (omega arith)
above b e (x ∷ xs) l h n = record { weighs = omega (arith, h.weighs); stands = omega (arith, h.stands) }

-- ---- the loads of a row, as far as it was gone through

pub record LoadsSoFar (weight_now height_now : ℕ) (rest all : Values) : Type 0 where
  pub weighs : weight_now + weights rest ≡ weights all
  pub stands : max height_now (heights rest) ≡ heights all
  pub within : weight_now ≤ 2 ^ 22
  pub low : height_now ≤ 128
  pub parts : all_proper rest ≡ true

pub head-proper : (x : Value) (xs : Values) → all_proper (more x xs) ≡ true → proper x ≡ true
head-proper x xs h = (and_parts (proper x) (all_proper xs) h).0

pub tail-proper : (x : Value) (xs : Values) → all_proper (more x xs) ≡ true → all_proper xs ≡ true
tail-proper x xs h = (and_parts (proper x) (all_proper xs) h).1

-- ---- the product of the axes that are not 0

pub size-positive : (shape : List ℕ) → 1 ≤ size shape
size-positive [] = omega arith
size-positive (zero ∷ shape) = size-positive shape
size-positive (suc n ∷ shape) = grind (arith, size-positive shape)

pub size-cons : (n : ℕ) (shape : List ℕ) → size (n ∷ shape) ≡ size (n ∷ []) * size shape
size-cons zero shape = omega arith
size-cons (suc n) shape = omega arith

pub size-at : (p i : ℕ) (shape : List ℕ) → i < length shape → p * size (drop i shape) ≡ size shape → (p * size (get_or shape i 0 ∷ [])) * size (drop (i + 1) shape) ≡ size shape
size-at p i shape h e =
    let k : size (drop i shape) ≡ size (get_or shape i 0 ∷ []) * size (drop (i + 1) shape) =
    ap size (drop-cons shape i 0 h) ∙ size-cons (get_or shape i 0) (drop (suc i) shape) ∙ ap (λ j. size (get_or shape i 0 ∷ []) * size (drop j shape)) (sym (add-one i)) in
    mul_assoc p (size (get_or shape i 0 ∷ [])) (size (drop (i + 1) shape)) ∙ ap (λ r. p * r) (sym k) ∙ e

pub not-shape : (p rest : ℕ) (shape : List ℕ) → 2 ^ 22 < p → 1 ≤ rest → p * rest ≡ size shape → false ≡ is_shape shape
not-shape p rest shape a b e =
    let k : 2 ^ 22 < size shape = subst (λ n. 2 ^ 22 < n) e (grind (arith)) in
    sym (ap (λ b. nat_le (length shape) 16 && b) (lt-leb (size shape) (2 ^ 22) k) ∙ and-false (nat_le (length shape) 16))

pub loads-step : (w h : ℕ) (x : Value) (xs all : Values) (l : Load) → LoadsSoFar w h (more x xs) all → LoadOf l x → w + l.weight ≤ 2 ^ 22 → LoadsSoFar (w + l.weight) (max h l.height) xs all
loads-step w h x xs all l s k n =
    let u = within x (head-proper x xs s.parts) in
    record {
      weighs = omega (arith, s.weighs, k.weighs);
      stands = omega (arith, s.stands, k.stands);
      within = n;
      low = omega (arith, s.low, k.stands, u.stands);
      parts = tail-proper x xs s.parts;
    }

-- ---- the checks

pub checked-large : (shape : List ℕ) (xs : List Value) → false ≡ is_shape shape → is_small (Array shape (values xs) unfilled) ≡ false
checked-large shape xs e = ap (λ b. b && nat_le (weight (Array shape (values xs) unfilled)) (2 ^ 22)) (sym e)

pub checked-heavy : (shape : List ℕ) (xs : List Value) → 2 ^ 22 ≤ weights (values xs) → is_small (Array shape (values xs) unfilled) ≡ false
checked-heavy shape xs h = ap (λ b. is_shape shape && b) (lt-leb (1 + weights (values xs)) (2 ^ 22) (omega arith)) ∙ and-false (is_shape shape)

small-array : (shape : List ℕ) (xs : List Value) → true ≡ is_shape shape → weights (values xs) < 2 ^ 22 → is_small (Array shape (values xs) unfilled) ≡ true
small-array shape xs a h = and_from (is_shape shape) _ (sym a) (le-leb (1 + weights (values xs)) (2 ^ 22) (omega arith))

pub checked-deep : (shape : List ℕ) (xs : List Value) → true ≡ is_shape shape → weights (values xs) < 2 ^ 22 → 128 ≤ heights (values xs) → IsDeep shape xs
checked-deep shape xs a h k = record { small = small-array shape xs a h; high = lt-leb (suc (heights (values xs))) 128 (omega arith) }

pub checked-ok : (shape : List ℕ) (xs : List Value) (l : Load) → true ≡ is_shape shape → LoadOfParts l xs → l.weight < 2 ^ 22 → l.height < 128 → Passes l shape xs
checked-ok shape xs l a s h k = record { small = small-array shape xs a (omega (arith, s.weighs)); low = le-leb (suc (heights (values xs))) 128 (omega (arith, s.stands)); loaded = s }

-- ---- what is made

pub made-ok : (shape : List ℕ) (xs : List Value) (f : Option Value) (l : Load) → Passes l shape xs → array shape (values xs) f ≡ Ok (Array shape (values xs) (carries xs f))
made-ok shape [] f l s = λ i. if_within (s.small i) (s.low i) (Array shape none (carrying f))
made-ok shape (x ∷ xs) f l s = λ i. if_within (s.small i) (s.low i) (Array shape (values (x ∷ xs)) unfilled)

pub made-large : (shape : List ℕ) (xs : List Value) (f : Option Value) → is_small (Array shape (values xs) unfilled) ≡ false → array shape (values xs) f ≡ Err TooLarge
made-large shape [] f e = λ i. if_within (e i) (is_low (Array shape none (carrying f))) (Array shape none (carrying f))
made-large shape (x ∷ xs) f e = λ i. if_within (e i) (is_low (Array shape (values (x ∷ xs)) unfilled)) (Array shape (values (x ∷ xs)) unfilled)

pub made-deep : (shape : List ℕ) (xs : List Value) (f : Option Value) → IsDeep shape xs → array shape (values xs) f ≡ Err TooDeep
made-deep shape [] f s = λ i. if_within (s.small i) (s.high i) (Array shape none (carrying f))
made-deep shape (x ∷ xs) f s = λ i. if_within (s.small i) (s.high i) (Array shape (values (x ∷ xs)) unfilled)

-- ---- how deep a fill nests

pub nests-both : (a b n : ℕ) → nat_le (max a b) n ≡ (nat_le a n && nat_le b n)
nests-both a b n = grind (arith, leb_tells)

pub nests-more : (a b n : ℕ) → nat_le a n ≡ true → nat_le (max a b) n ≡ nat_le b n
nests-more a b n h = grind (arith, leb_tells)

pub carries-none : (vs : List v.Value) (f : Option Value) → 0 < length vs → unfilled ≡ carries (plains vs) f
carries-none [] f h = absurd (omega arith)
carries-none (x ∷ xs) f h = refl

pub carries-some : (vs : List v.Value) (f : Option Value) → length vs ≤ 0 → carries (plains vs) f ≡ carrying f
carries-some [] f h = refl
carries-some (x ∷ xs) f h = absurd (omega arith)

-- ---- rows of the program's values

-- what is left of a row, by its first value
pub row-at : (vs : List v.Value) (i : ℕ) (d : v.Value) → i < length vs → values (plains (drop i vs)) ≡ more (plain (get_or vs i d)) (values (plains (drop (i + 1) vs)))
row-at vs i d h = ap (λ us. values (plains us)) (drop-cons vs i d h) ∙ ap (λ j. more (plain (get_or vs i d)) (values (plains (drop j vs)))) (sym (add-one i))

pub bulk-at : (vs : List v.Value) (i : ℕ) (d : v.Value) → i < length vs → bulk (plain (get_or vs i d)) ≤ all_bulk (plains vs)
bulk-at [] i d h = absurd (omega arith)
bulk-at (v ∷ vs) zero d h = omega arith
bulk-at (v ∷ vs) (suc i) d h = omega (arith, bulk-at vs i d (omega arith))

-- ---- what an array keeps when it is made

pub kept-made : (shape : List ℕ) (es : List v.Value) (f : Option Value) (g : Option v.Value) (l : Load) → Passes l shape (plains es) → places shape ≡ length es → all_proper (values (plains es)) ≡ true → IsFill f → fill (plain_fill g) ≡ carries (plains es) f → Kept (record { shape = shape; elements = plains es; fill = plain_fill g }) (record { weight = 1 + l.weight; height = 1 + l.height })
kept-made shape es f g l s n ps w e = record {
  whole = ap (λ h. proper (Array shape (values (plains es)) h)) e ∙ made_is_within_limits.proper_array shape (values (plains es)) f _ (n ∙ sym (count-values (plains es) ∙ length-map es plain)) ps w (made-ok shape (plains es) f l s);
  loaded = record { weighs = omega (arith, s.loaded.weighs); stands = omega (arith, s.loaded.stands) };
}

pub ruleset limits = (within)

pub ruleset checks = (checked-large, checked-heavy, checked-deep, checked-ok)

pub ruleset nests = (nests-both, nests-more)

pub ruleset makes = (made-ok, made-large, made-deep)

pub ruleset carrying_laws = (carries-none, carries-some)
