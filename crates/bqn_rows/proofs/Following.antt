-- The fills of fills are followed deep enough.
use Rattle.std.proofs.Common.{◌≡◌, ◌≤◌, ◌-◌, ◌/◌, ℕ, zero, suc, max, ◌∷◌, map, get_or, Option, Some, None, Err, refl, ap, arith}
use Rattle.std.specs.List.{range_with_len}
use Rattle.bqn_base.specs.declared.fault.Fault.TheVariants.{Domain}
use Rattle.bqn_rows.specs.Plain.{Value, Array, Values, none, more, Fill, unfilled, filled, values, list}
use Rattle.bqn_rows.specs.Relations.{extent, extents, fill_extent, carried, fill_of}
use Rattle.bqn_rows.specs.Limits.{places, array}
use Rattle.bqn_rows.specs.Arrays.{and_then, all_ok, axes, elements, natural}
use Rattle.bqn_rows.specs.Pervasion.{Row1, Row2, prototype_of, goes_in, each_in, of_fill, fill_in, agreed, where_agreed, goes_into, rows_of, of_fills, fill_into, fill_depth}
use Rattle.bqn_rows.specs.Laws.{FillsAreFollowed}
use Rattle.bqn_rows.proofs.Prototypes.{common-first, prototype-nests}
use Rattle.bqn_rows.proofs.Proper.{proper_is_within_limits}

-- ---- a fill nests less deep than its array

carried-falls : (f : Fill) (p : Value) → carried f ≡ Some p → extent p ≤ fill_extent f
carried-falls unfilled p h = absurd cc
carried-falls (filled v) p h = let e : p ≡ v = cc in omega (arith, ap extent e)

fill-falls : (v p : Value) → fill_of v ≡ Some p → extent p ≤ extent v - 1
fill-falls (Array shape none f) p h = omega (arith, carried-falls f p h)
fill-falls (Array shape (more x xs) f) p h = omega (arith, prototype-nests x p (common-first x xs p h))
fill-falls v p h = omega (arith, prototype-nests v p h)

-- what a fill nests within, if there is one
abbrev Nests : ℕ → Option Value → Type 0
Nests k o = (p : Value) → o ≡ Some p → extent p ≤ k

fill-nests : (k : ℕ) (v : Value) → extent v ≤ suc k → Nests k (fill_of v)
fill-nests k v b p h = omega (arith, fill-falls v p h)

-- ---- one argument: the fills of arrays that nest at most k deep are all that counts

abbrev Agree : ℕ → (fills others : Value → Option Value) → Type 0
Agree k fills others = (v : Value) → extent v ≤ k → 1 ≤ extent v → fills v ≡ others v

module _ (row : Row1) (fills others : Value → Option Value) (k : ℕ) (agree : Agree k fills others) where
  mutual
    same-in : (x : Value) → extent x ≤ k → goes_in row fills x ≡ goes_in row others x
    same-in (Array s xs f) b = λ i. and_then (all_ok (same-each xs (omega arith) i)) (λ ys. array s (values ys) (agree (Array s xs f) b (omega arith) i))
    same-in x b = refl

    same-each : (xs : Values) → extents xs ≤ k → each_in row fills xs ≡ each_in row others xs
    same-each none b = refl
    same-each (more x xs) b = λ i. same-in x (omega arith) i ∷ same-each xs (omega arith) i

same-of-fill : (row : Row1) (k : ℕ) (fills others : Value → Option Value) → Agree k fills others → (o : Option Value) → Nests k o
    → of_fill (goes_in row fills) o ≡ of_fill (goes_in row others) o
same-of-fill row k fills others h None g = refl
same-of-fill row k fills others h (Some p) g = ap prototype_of (same-in row fills others k h p (g p refl))

fills-alone : (row : Row1) (k n m : ℕ) → k ≤ n → k ≤ m → Agree k (fill_in row n) (fill_in row m)
fills-alone row zero n m a c v b h = absurd (omega arith)
fills-alone row (suc k) zero m a c v b h = absurd (omega arith)
fills-alone row (suc k) (suc n) zero a c v b h = absurd (omega arith)
fills-alone row (suc k) (suc n) (suc m) a c v b h =
    same-of-fill row k (fill_in row n) (fill_in row m) (fills-alone row k n m (omega arith) (omega arith)) (fill_of v) (fill-nests k v b)

-- ---- two arguments

row-nests : (k : ℕ) (xs : Values) → extents xs ≤ k → (j : ℕ) → extent (get_or (list xs) j (natural 0)) ≤ k
row-nests k none b j = omega arith
row-nests k (more x xs) b zero = omega arith
row-nests k (more x xs) b (suc j) = row-nests k xs (omega arith) j

elements-nest : (k : ℕ) (x : Value) → extent x ≤ k → (j : ℕ) → extent (get_or (elements x) j (natural 0)) ≤ k
elements-nest k (Array s xs f) b j = row-nests k xs (omega arith) j
elements-nest k x b zero = b
elements-nest k x b (suc j) = omega arith

abbrev AgreeOfTwo : ℕ → (fills others : Value → Value → Option Value) → Type 0
AgreeOfTwo k fills others = (v y : Value) → extent v ≤ k → extent y ≤ k → 1 ≤ max (extent v) (extent y) → fills v y ≡ others v y

module _ (row : Row2) (fills others : Value → Value → Option Value) (k : ℕ) (agree : AgreeOfTwo k fills others) where
  mutual
    same-into : (w : Value) → extent w ≤ k → (x : Value) → extent x ≤ k → goes_into row fills w x ≡ goes_into row others w x
    same-into (Array s ws f) b x c = λ i. where_agreed (agreed s (axes x))
        (λ a. and_then (all_ok (map (λ j. same-row ws (omega arith) (j / a.left) (get_or (elements x) (j / a.right) (natural 0))
        (elements-nest k x c (j / a.right)) i) (range_with_len 0 (places a.shape))))
        (λ ys. array a.shape (values ys) (agree (Array s ws f) x b c (omega arith) i)))
    same-into w b x c = same-in (row w) (fills w) (others w) k (λ y e h. agree w y b e (omega arith)) x c

    same-row : (ws : Values) → extents ws ≤ k → (j : ℕ) (y : Value) → extent y ≤ k → get_or (rows_of row fills ws) j (λ x. Err Domain) y
        ≡ get_or (rows_of row others ws) j (λ x. Err Domain) y
    same-row none b j y c = refl
    same-row (more w ws) b zero y c = same-into w (omega arith) y c
    same-row (more w ws) b (suc j) y c = same-row ws (omega arith) j y c

same-of-fills : (row : Row2) (k : ℕ) (fills others : Value → Value → Option Value) → AgreeOfTwo k fills others → (o r : Option Value) → Nests k o
    → Nests k r → of_fills (goes_into row fills) o r ≡ of_fills (goes_into row others) o r
same-of-fills row k fills others h (Some p) (Some q) g l = ap prototype_of (same-into row fills others k h p (g p refl) q (l q refl))
same-of-fills row k fills others h (Some p) None g l = refl
same-of-fills row k fills others h None r g l = refl

fills-of-two : (row : Row2) (k n m : ℕ) → k ≤ n → k ≤ m → AgreeOfTwo k (fill_into row n) (fill_into row m)
fills-of-two row zero n m a c v y b d h = absurd (omega arith)
fills-of-two row (suc k) zero m a c v y b d h = absurd (omega arith)
fills-of-two row (suc k) (suc n) zero a c v y b d h = absurd (omega arith)
fills-of-two row (suc k) (suc n) (suc m) a c v y b d h =
    same-of-fills row k (fill_into row n) (fill_into row m) (fills-of-two row k n m (omega arith) (omega arith)) (fill_of v) (fill_of y) (fill-nests k v b)
    (fill-nests k y d)

pub fills_are_followed : FillsAreFollowed
fills_are_followed = record {
  alone = λ row n x e h. same-in row (fill_in row n) (fill_in row fill_depth) 256 (fills-alone row 256 n fill_depth e (omega arith)) x
      (proper_is_within_limits.nests x h);
  two = λ row n w x e g h. same-into row (fill_into row n) (fill_into row fill_depth) 256 (fills-of-two row 256 n fill_depth e (omega arith)) w
      (proper_is_within_limits.nests w g) x (proper_is_within_limits.nests x h);
}

pub ruleset fill_laws = (fills_are_followed)
