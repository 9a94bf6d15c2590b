-- The order of values is total, and at one level it tells apart what does not match.
use Rattle.std.proofs.Common.{◌≡◌, ◌<◌, ◌≤◌, ℕ, Bool, true, false, ℤ, List, refl, sym, ap, ◌∙◌, arith, Ordering, Less, Equal, Greater}
use Rattle.std.specs.Ordering.{ordering_reverse, ordering_then, nat_cmp, int_cmp}
use Rattle.std.specs.Cmp.{IsTotalOrder, int_cmp_total, nat_cmp_total, int_ranked, ranked, nat_cmp_is}
use Rattle.std.proofs.Common.{◌⊎◌, inl, inr}
use Rattle.bqn_rows.specs.Plain.{Value, Number, Character, Array, Given, Derived, Function, Modifier1, Modifier2, Namespace, Values, none, more, Fill}
use Rattle.bqn_rows.specs.Relations.{rank_of, ordered, all_ordered}

-- ---- one ordering behind another

then-reverse : (r s : Ordering) → ordering_then (ordering_reverse r) (ordering_reverse s) ≡ ordering_reverse (ordering_then r s)
then-reverse Less s = refl
then-reverse Equal s = refl
then-reverse Greater s = refl

pub both-equal : (r s : Ordering) → ordering_then r s ≡ Equal → (r ≡ Equal) × (s ≡ Equal)
both-equal Less s h = absurd cc
both-equal Equal s h = (refl, h)
both-equal Greater s h = absurd cc

-- ---- what the ranks say

rank-less : (w x : Value) → rank_of w < rank_of x → ordered w x ≡ Less
rank-less (Number w) (Number x) h = absurd (omega arith)
rank-less (Character w) (Character x) h = absurd (omega arith)
rank-less (Array s ws f) (Array t xs g) h = absurd (omega arith)
rank-less w x h = sym (nat_cmp_is (rank_of w) (rank_of x) Less h)

less-rank : (w x : Value) → ordered w x ≡ Less → rank_of w ≤ rank_of x
less-rank (Number w) (Number x) h = omega arith
less-rank (Character w) (Character x) h = omega arith
less-rank (Array s ws f) (Array t xs g) h = omega arith
less-rank w x h = let p = ranked (rank_of w) (rank_of x) Less (sym h) in omega arith

equal-rank : (w x : Value) → ordered w x ≡ Equal → rank_of w ≡ rank_of x
equal-rank (Number w) (Number x) h = refl
equal-rank (Character w) (Character x) h = refl
equal-rank (Array s ws f) (Array t xs g) h = refl
equal-rank w x h = ranked (rank_of w) (rank_of x) Equal (sym h)

-- ---- turned round

mutual
  turned : (w x : Value) → ordered w x ≡ ordering_reverse (ordered x w)
  turned (Number w) (Number x) = int_cmp_total.antisymm w x
  turned (Character w) (Character x) = nat_cmp_total.antisymm w x
  turned (Array s ws f) (Array t xs g) = all-turned ws xs
  turned (Given c) (Number n) = nat_cmp_total.antisymm 3 0
  turned (Derived m ps) (Number n) = nat_cmp_total.antisymm 3 0
  turned (Function b e ps) (Number n) = nat_cmp_total.antisymm 3 0
  turned (Modifier1 b e) (Number n) = nat_cmp_total.antisymm 3 0
  turned (Modifier2 b e) (Number n) = nat_cmp_total.antisymm 3 0
  turned (Namespace e) (Number n) = nat_cmp_total.antisymm 3 0
  turned w x = nat_cmp_total.antisymm (rank_of w) (rank_of x)

  all-turned : (ws xs : Values) → all_ordered ws xs ≡ ordering_reverse (all_ordered xs ws)
  all-turned none none = refl
  all-turned none (more x xs) = refl
  all-turned (more w ws) none = refl
  all-turned (more w ws) (more x xs) = (λ i. ordering_then (turned w x i) (all-turned ws xs i)) ∙ then-reverse (ordered x w) (all_ordered xs ws)

-- ---- what ties orders alike

-- an operation or a namespace stands behind all else
last : (v x : Value) → rank_of v ≡ 3 → ordered v x ≡ nat_cmp 3 (rank_of x)
last (Number v) x e = absurd (omega arith)
last (Character v) x e = absurd (omega arith)
last (Array s vs f) x e = absurd (omega arith)
last v x e = refl

abbrev one_type : Value → Value → Bool
one_type (Number v) (Number w) = true
one_type (Character v) (Character w) = true
one_type (Array s vs f) (Array t ws g) = true
one_type v w = false

both-last : (v w : Value) → rank_of v ≡ rank_of w → one_type v w ≡ false → rank_of v ≡ 3
both-last (Number v) (Number w) e m = absurd cc
both-last (Character v) (Character w) e m = absurd cc
both-last (Array s vs f) (Array t ws g) e m = absurd cc
both-last v w e m = omega arith

alike-last : (v w x : Value) → ordered v w ≡ Equal → one_type v w ≡ false → ordered v x ≡ ordered w x
alike-last v w x h m =
    let e = equal-rank v w h in
    let l = both-last v w e m in
    last v x l ∙ sym (last w x (sym e ∙ l))

array-alike : (s t : List ℕ) (vs ws : Values) (f g : Fill) (x : Value) → ((xs : Values) → all_ordered vs xs ≡ all_ordered ws xs) → ordered (Array s vs f) x
    ≡ ordered (Array t ws g) x
array-alike s t vs ws f g (Array u xs k) each = each xs
array-alike s t vs ws f g x each = refl

mutual
  alike : (v w x : Value) → ordered v w ≡ Equal → ordered v x ≡ ordered w x
  alike (Number v) (Number w) x h = ap (λ n. ordered (Number n) x) (int_ranked v w Equal (sym h))
  alike (Character v) (Character w) x h = ap (λ c. ordered (Character c) x) (ranked v w Equal (sym h))
  alike (Array s vs f) (Array t ws g) x h = array-alike s t vs ws f g x (λ xs. all-alike vs ws xs h)
  alike v w x h = alike-last v w x h refl

  all-alike : (vs ws xs : Values) → all_ordered vs ws ≡ Equal → all_ordered vs xs ≡ all_ordered ws xs
  all-alike none none xs h = refl
  all-alike (more v vs) (more w ws) none h = refl
  all-alike (more v vs) (more w ws) (more x xs) h =
      let p = both-equal (ordered v w) (all_ordered vs ws) h in
      λ i. ordering_then (alike v w x p.0 i) (all-alike vs ws xs p.1 i)
  all-alike none (more w ws) xs h = absurd cc
  all-alike (more v vs) none xs h = absurd cc

-- ---- in a row

then-less : (r s : Ordering) → ordering_then r s ≡ Less → (r ≡ Less) ⊎ ((r ≡ Equal) × (s ≡ Less))
then-less Less s h = inl refl
then-less Equal s h = inr (refl, h)
then-less Greater s h = absurd cc

less-then : (r s : Ordering) → r ≡ Less → ordering_then r s ≡ Less
less-then r s e = ap (λ o. ordering_then o s) e

pub equal-then : (r s o : Ordering) → r ≡ Equal → s ≡ o → ordering_then r s ≡ o
equal-then r s o e h = ap (λ q. ordering_then q s) e ∙ h

-- a value that is not told apart from the second
alike-right : (v w x : Value) → ordered w x ≡ Equal → ordered v x ≡ ordered v w
alike-right v w x h = turned v x ∙ ap ordering_reverse (sym (alike w x v h)) ∙ sym (turned v w)

by-rank : (v w x : Value) → one_type v w ≡ false → ordered v w ≡ Less → ordered w x ≡ Less → ordered v x ≡ Less
by-rank (Number v) (Number w) x m h k = absurd cc
by-rank (Character v) (Character w) x m h k = absurd cc
by-rank (Array s vs f) (Array t ws g) x m h k = absurd cc
by-rank v w x m h k = rank-less v x (let p = ranked (rank_of v) (rank_of w) Less (sym h) in let q = less-rank w x k in omega arith)

number-chain : (v w : ℤ) (x : Value) → int_cmp v w ≡ Less → ordered (Number w) x ≡ Less → ordered (Number v) x ≡ Less
number-chain v w (Number x) h k = int_cmp_total.trans v w x h k
number-chain v w x h k = k

character-chain : (v w : ℕ) (x : Value) → nat_cmp v w ≡ Less → ordered (Character w) x ≡ Less → ordered (Character v) x ≡ Less
character-chain v w (Character x) h k = nat_cmp_total.trans v w x h k
character-chain v w x h k = k

array-chain : (s t : List ℕ) (vs ws : Values) (f g : Fill) (x : Value) → ((xs : Values) → all_ordered ws xs ≡ Less → all_ordered vs xs ≡ Less)
    → ordered (Array t ws g) x ≡ Less → ordered (Array s vs f) x ≡ Less
array-chain s t vs ws f g (Array u xs l) each k = each xs k
array-chain s t vs ws f g x each k = k

mutual
  chain : (v w x : Value) → ordered v w ≡ Less → ordered w x ≡ Less → ordered v x ≡ Less
  chain (Number v) (Number w) x h k = number-chain v w x h k
  chain (Character v) (Character w) x h k = character-chain v w x h k
  chain (Array s vs f) (Array t ws g) x h k = array-chain s t vs ws f g x (λ xs. all-chain vs ws xs h) k
  chain v w x h k = by-rank v w x refl h k

  all-chain : (vs ws xs : Values) → all_ordered vs ws ≡ Less → all_ordered ws xs ≡ Less → all_ordered vs xs ≡ Less
  all-chain none none xs h k = k
  all-chain none (more w ws) none h k = absurd cc
  all-chain none (more w ws) (more x xs) h k = refl
  all-chain (more v vs) none xs h k = absurd cc
  all-chain (more v vs) (more w ws) none h k = absurd cc
  all-chain (more v vs) (more w ws) (more x xs) h k =
      elim (then-less (ordered v w) (all_ordered vs ws) h) as (λ _. ordering_then (ordered v x) (all_ordered vs xs) ≡ Less) [
        | inl p ↦ elim (then-less (ordered w x) (all_ordered ws xs) k) as (λ _. ordering_then (ordered v x) (all_ordered vs xs) ≡ Less) [
          | inl q ↦ less-then (ordered v x) (all_ordered vs xs) (chain v w x p q)
          | inr q ↦ less-then (ordered v x) (all_ordered vs xs) (alike-right v w x q.0 ∙ p)
        ]
        | inr p ↦ elim (then-less (ordered w x) (all_ordered ws xs) k) as (λ _. ordering_then (ordered v x) (all_ordered vs xs) ≡ Less) [
          | inl q ↦ less-then (ordered v x) (all_ordered vs xs) (alike v w x p.0 ∙ q)
          | inr q ↦ equal-then (ordered v x) (all_ordered vs xs) Less (alike v w x p.0 ∙ q.0) (all-chain vs ws xs p.1 q.1)
        ]
      ]

pub ordered_total : IsTotalOrder ordered
ordered_total = record { antisymm = turned; trans = chain; congr = alike }
