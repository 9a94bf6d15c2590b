-- Prototypes of a row, as far as it was gone through.
use Rattle.std.proofs.Common.{◌≡◌, ◌≤◌, ℕ, zero, suc, true, List, [], ◌∷◌, ◌++◌, length, drop, Option, Some, None, Ok, refl, ap, sym, ◌∙◌, arith}
use Rattle.std.proofs.lemmas.Bool.{and_parts}
use Rattle.bqn_rows.specs.Plain.{Value, Array, Values, none, unfilled, values, fill}
use Rattle.bqn_rows.specs.Relations.{prototype, prototypes, both, array_of}
use Rattle.bqn_rows.specs.Limits.{places, proper, all_proper}
use Rattle.bqn_rows.specs.Limits.{array as array_made}
use Rattle.bqn_rows.proofs.Making.{made_is_within_limits}
use Rattle.bqn_rows.proofs.Proper.{whole}
use Rattle.bqn_rows.proofs.Prototypes.{prototypes_are_fills}
use Rattle.bqn_value.specs.Seen.{Seen}
use Rattle.bqn_value.specs.Meaning.{array, plains}
use Rattle.bqn_value.specs.declared.value.Value as v
use Rattle.bqn_rows.proofs.Rows.{count-values}

-- these in front of others, where the others are there
abbrev pub joined : List Value → Option Values → Option Values
joined [] o = o
joined (y ∷ ys) o = both (Some y) (joined ys o)

pub record ProtosSoFar (so_far rest all : List Value) : Type 0 where
  pub found : prototypes (values all) ≡ joined so_far (prototypes (values rest))
  pub parts : all_proper (values rest) ≡ true

pub joined-push : (ys : List Value) (y : Value) (o : Option Values) → joined ys (both (Some y) o) ≡ joined (ys ++ y ∷ []) o
joined-push [] y o = refl
joined-push (z ∷ ys) y o = ap (both (Some z)) (joined-push ys y o)

pub joined-none : (ys : List Value) → joined ys None ≡ None
joined-none [] = refl
joined-none (y ∷ ys) = ap (both (Some y)) (joined-none ys)

pub joined-end : (ys : List Value) → joined ys (Some none) ≡ Some (values ys)
joined-end [] = refl
joined-end (y ∷ ys) = ap (both (Some y)) (joined-end ys)

both-none : (o : Option Values) → both None o ≡ None
both-none None = refl
both-none (Some x) = refl

pub protos-step : (so_far next rest all : List Value) (x y : Value) → ProtosSoFar so_far (x ∷ rest) all → Some y ≡ prototype x → next ≡ so_far ++ y ∷ [] → ProtosSoFar next rest all
protos-step so_far next rest all x y s e n = record {
  found = s.found ∙ ap (λ p. joined so_far (both p (prototypes (values rest)))) (sym e) ∙ joined-push so_far y (prototypes (values rest)) ∙ ap (λ ys. joined ys (prototypes (values rest))) (sym n);
  parts = (and_parts (proper x) (all_proper (values rest)) s.parts).1;
}

pub protos-none : (so_far rest all : List Value) (x : Value) → ProtosSoFar so_far (x ∷ rest) all → None ≡ prototype x → None ≡ prototypes (values all)
protos-none so_far rest all x s e = sym (s.found ∙ ap (λ p. joined so_far (both p (prototypes (values rest)))) (sym e) ∙ ap (joined so_far) (both-none (prototypes (values rest))) ∙ joined-none so_far)

pub protos-end : (so_far all : List Value) → ProtosSoFar so_far [] all → Some (values so_far) ≡ prototypes (values all)
protos-end so_far all s = sym (s.found ∙ joined-end so_far)

-- ---- the array of the prototypes

pub record ProtoArray (a : Seen) (ps : List Value) : Type 0 where
  pub counted : places a.shape ≡ length ps
  pub parts : all_proper (values ps) ≡ true
  pub made : prototype (array a) ≡ Some (Array a.shape (values ps) unfilled)

pub proto-array : (a : Seen) (ps : List Value) → proper (array a) ≡ true → 1 ≤ length a.elements → Some (values ps) ≡ prototypes (values a.elements) → ProtoArray a ps
proto-array a ps h n e = go a.elements n e refl
  where
    go : (xs : List Value) → 1 ≤ length xs → Some (values ps) ≡ prototypes (values xs) → xs ≡ a.elements → ProtoArray a ps
    go [] k r q = absurd (omega arith)
    go (x ∷ xs) k r q =
        let m : prototype (array a) ≡ Some (Array a.shape (values ps) unfilled) = ap (λ ys. prototype (Array a.shape (values ys) (fill a.fill))) (sym q) ∙ ap (array_of a.shape) (sym r) in
        let p = prototypes_are_fills.proper_kept (array a) (Array a.shape (values ps) unfilled) h m in
        let w = whole a.shape (values ps) unfilled p in
        record { counted = w.counted ∙ count-values ps; parts = w.parts; made = m }

-- an empty array is its own
pub proto-empty : (a : Seen) → length a.elements ≤ 0 → prototype (array a) ≡ Some (array a)
proto-empty a n = go a.elements n
  where
    go : (xs : List Value) → length xs ≤ 0 → prototype (Array a.shape (values xs) (fill a.fill)) ≡ Some (Array a.shape (values xs) (fill a.fill))
    go [] k = refl
    go (x ∷ xs) k = absurd (omega arith)

-- what is made without a fill
pub made-bare : (shape : List ℕ) (ps : List Value) (p : Value) → array_made shape (values ps) None ≡ Ok p → p ≡ Array shape (values ps) unfilled
made-bare shape [] p h = made_is_within_limits.itself (Array shape none unfilled) p h
made-bare shape (x ∷ ps) p h = made_is_within_limits.itself (Array shape (values (x ∷ ps)) unfilled) p h

pub rest-end : (vs : List v.Value) (i : ℕ) → length vs ≤ i → plains (drop i vs) ≡ []
rest-end [] zero h = refl
rest-end [] (suc i) h = refl
rest-end (x ∷ vs) zero h = absurd (omega arith)
rest-end (x ∷ vs) (suc i) h = rest-end vs i (omega arith)
