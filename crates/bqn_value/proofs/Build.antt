-- Elements that are added are proper.
use Rattle.std.proofs.Common.{◌≡◌, ◌+◌, ◌<◌, ℕ, zero, suc, true, List, [], ◌∷◌, ◌++◌, length, get_or, take, drop, refl, ap, sym, ◌∙◌, add-one, arith, append_assoc, pos, subst, ◌≤◌}
use Rattle.std.proofs.lemmas.List.{length-map}
use Rattle.std.proofs.lemmas.Bool.{and_parts, and_from}
use Rattle.std.proofs.Math.Seq.{drop-cons}
use Rattle.bqn_rows.proofs.Proper.{whole}
use Rattle.bqn_rows.specs.Plain.{Value, Number, values, fill}
use Rattle.bqn_value.specs.Seen.{Seen}
use Rattle.bqn_rows.specs.Limits.{proper, all_proper}
use Rattle.bqn_value.specs.declared.value.Value as v
use Rattle.bqn_value.specs.Meaning.{plain, plains, array, bulk, all_bulk, array_bulk}

pub all-proper-append : (xs ys : List Value) → all_proper (values xs) ≡ true → all_proper (values ys) ≡ true → all_proper (values (xs ++ ys)) ≡ true
all-proper-append [] ys a b = b
all-proper-append (x ∷ xs) ys a b = let k = and_parts (proper x) (all_proper (values xs)) a in and_from (proper x) _ k.0 (all-proper-append xs ys k.1 b)

pub proper-push : (vs : List v.Value) (x : v.Value) → all_proper (values (plains vs)) ≡ true → proper (plain x) ≡ true → all_proper (values (plains (vs ++ x ∷ []))) ≡ true
proper-push [] x a b = and_from _ true b refl
proper-push (y ∷ vs) x a b = let k = and_parts (proper (plain y)) (all_proper (values (plains vs))) a in and_from _ _ k.0 (proper-push vs x k.1 b)

pub plains-push : (vs : List v.Value) (x : v.Value) → plains (vs ++ x ∷ []) ≡ plains vs ++ plain x ∷ []
plains-push [] x = refl
plains-push (y ∷ vs) x = ap (λ ys. plain y ∷ ys) (plains-push vs x)

pub rest-at : (vs : List v.Value) (i : ℕ) (d : v.Value) → i < length vs → plains (drop i vs) ≡ plain (get_or vs i d) ∷ plains (drop (i + 1) vs)
rest-at vs i d h = ap plains (drop-cons vs i d h) ∙ ap (λ j. plain (get_or vs i d) ∷ plains (drop j vs)) (sym (add-one i))

-- what is known of the next value of a row and of the rest
pub record Next (vs : List v.Value) (i : ℕ) (w : v.Value) : Type 0 where
  pub here : plains (drop i vs) ≡ plain w ∷ plains (drop (i + 1) vs)
  pub one : proper (plain w) ≡ true
  pub others : all_proper (values (plains (drop (i + 1) vs))) ≡ true

pub next-at : (vs : List v.Value) (i : ℕ) (x w : v.Value) → i < length vs → x ≡ get_or vs i x → w ≡ x → all_proper (values (plains (drop i vs))) ≡ true → Next vs i w
next-at vs i x w h e f p =
    let k : plains (drop i vs) ≡ plain w ∷ plains (drop (i + 1) vs) = rest-at vs i x h ∙ ap (λ y. plain y ∷ plains (drop (i + 1) vs)) (sym (f ∙ e)) in
    let q = and_parts (proper (plain w)) (all_proper (values (plains (drop (i + 1) vs)))) (ap (λ ys. all_proper (values ys)) (sym k) ∙ p) in
    record { here = k; one = q.0; others = q.1 }

-- what is still to come, one further
pub extend-step : (old now next rest all : List Value) (x : Value) → now ++ (x ∷ rest) ≡ old ++ all → next ≡ now ++ x ∷ [] → next ++ rest ≡ old ++ all
extend-step old now next rest all x a b = ap (λ ys. ys ++ rest) b ∙ append_assoc now (x ∷ []) rest ∙ a

pub plains-drop : (vs : List v.Value) (n : ℕ) → plains (drop n vs) ≡ drop n (plains vs)
plains-drop [] zero = refl
plains-drop [] (suc n) = refl
plains-drop (x ∷ vs) zero = refl
plains-drop (x ∷ vs) (suc n) = plains-drop vs n

pub plains-take : (vs : List v.Value) (n : ℕ) → plains (take n vs) ≡ take n (plains vs)
plains-take [] zero = refl
plains-take [] (suc n) = refl
plains-take (x ∷ vs) zero = refl
plains-take (x ∷ vs) (suc n) = ap (λ ys. plain x ∷ ys) (plains-take vs n)

pub all-proper-drop : (xs : List Value) (n : ℕ) → all_proper (values xs) ≡ true → all_proper (values (drop n xs)) ≡ true
all-proper-drop [] zero h = refl
all-proper-drop [] (suc n) h = refl
all-proper-drop (x ∷ xs) zero h = h
all-proper-drop (x ∷ xs) (suc n) h = all-proper-drop xs n (and_parts (proper x) (all_proper (values xs)) h).1

pub all-proper-take : (xs : List Value) (n : ℕ) → all_proper (values xs) ≡ true → all_proper (values (take n xs)) ≡ true
all-proper-take [] zero h = refl
all-proper-take [] (suc n) h = refl
all-proper-take (x ∷ xs) zero h = refl
all-proper-take (x ∷ xs) (suc n) h = let k = and_parts (proper x) (all_proper (values xs)) h in and_from (proper x) _ k.0 (all-proper-take xs n k.1)

pub proper-elements : (a : Seen) → proper (array a) ≡ true → all_proper (values a.elements) ≡ true
proper-elements a h = (whole a.shape (values a.elements) (fill a.fill) h).parts

-- ---- one element of an array

pub plains-at : (vs : List v.Value) (i : ℕ) (x : v.Value) (e : Value) → i < length vs → x ≡ get_or vs i x → get_or (plains vs) i e ≡ plain x
plains-at [] i x e h k = absurd (omega arith)
plains-at (v ∷ vs) zero x e h k = ap plain (sym k)
plains-at (v ∷ vs) (suc i) x e h k = plains-at vs i x e (omega arith) k

pub proper-at : (xs : List Value) (i : ℕ) (e : Value) → i < length xs → all_proper (values xs) ≡ true → proper (get_or xs i e) ≡ true
proper-at [] i e h k = absurd (omega arith)
proper-at (x ∷ xs) zero e h k = (and_parts (proper x) (all_proper (values xs)) k).0
proper-at (x ∷ xs) (suc i) e h k = proper-at xs i e (omega arith) (and_parts (proper x) (all_proper (values xs)) k).1

pub bulk-element : (xs : List Value) (i : ℕ) (e : Value) → i < length xs → bulk (get_or xs i e) ≤ all_bulk xs
bulk-element [] i e h = absurd (omega arith)
bulk-element (x ∷ xs) zero e h = omega arith
bulk-element (x ∷ xs) (suc i) e h = omega (arith, bulk-element xs i e (omega arith))

-- what is known of an element
pub record Element (a : Seen) (i : ℕ) (v : Value) : Type 0 where
  pub value : get_or a.elements i (Number (pos 0)) ≡ v
  pub whole : proper v ≡ true
  pub less : bulk v ≤ array_bulk a

pub element-of : (a : Seen) (vs : List v.Value) (i : ℕ) (x : v.Value) → proper (array a) ≡ true → plains vs ≡ a.elements → i < length vs → x ≡ get_or vs i x → Element a i (plain x)
element-of a vs i x h e l k =
    let l2 : i < length a.elements = omega (arith, ap length e, length-map vs plain) in
    let g : get_or a.elements i (Number (pos 0)) ≡ plain x = ap (λ ys. get_or ys i (Number (pos 0))) (sym e) ∙ plains-at vs i x (Number (pos 0)) l k in
    record {
      value = g;
      whole = subst (λ v. proper v ≡ true) g (proper-at a.elements i (Number (pos 0)) l2 (proper-elements a h));
      less = subst (λ v. bulk v ≤ array_bulk a) g (omega (arith, bulk-element a.elements i (Number (pos 0)) l2));
    }

pub ruleset taking = (length-map)

pub ruleset running = (plains-drop, plains-take, all-proper-drop, all-proper-take, proper-elements)

pub ruleset building = (proper-push, plains-push)
