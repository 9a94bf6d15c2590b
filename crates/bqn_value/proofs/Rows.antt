-- Match of two rows of values, as far as they were gone through.
use Rattle.std.proofs.Common.{◌≡◌, ◌≤◌, ◌<◌, ◌+◌, ℕ, zero, suc, false, nat_eq, List, [], ◌∷◌, length, get_or, drop, Ok, refl, ap, sym, ◌∙◌, arith}
use Rattle.std.proofs.Math.Dec.{eqb-suc-suc, eqb-zero-suc}
use Rattle.bqn_rows.specs.Plain.{more, values}
use Rattle.bqn_rows.specs.Relations.{matching, all_matching, first_unequal}
use Rattle.bqn_value.specs.declared.value.Value as v
use Rattle.bqn_value.specs.Meaning.{plain, plains}
use Rattle.bqn_value.proofs.Within.{row-at}

-- the next two decide, or else those after them
pub matched-next : (ws xs : List v.Value) (i : ℕ) (w x : v.Value) → i < length ws → i < length xs → w ≡ get_or ws i w → x ≡ get_or xs i x
    → all_matching (values (plains (drop i ws))) (values (plains (drop i xs)))
    ≡ first_unequal (matching (plain w) (plain x)) (all_matching (values (plains (drop (i + 1) ws))) (values (plains (drop (i + 1) xs))))
matched-next ws xs i w x h k e f =
    let a = row-at ws i w h ∙ ap (λ u. more (plain u) (values (plains (drop (i + 1) ws)))) (sym e) in
    let b = row-at xs i x k ∙ ap (λ u. more (plain u) (values (plains (drop (i + 1) xs)))) (sym f) in
    λ j. all_matching (a j) (b j)

rest-none : (vs : List v.Value) (i : ℕ) → length vs ≤ i → drop i vs ≡ []
rest-none [] zero h = refl
rest-none [] (suc i) h = refl
rest-none (x ∷ vs) zero h = absurd (omega arith)
rest-none (x ∷ vs) (suc i) h = rest-none vs i (omega arith)

-- a longer row does not match
pub matched-short : (ws xs : List v.Value) (i : ℕ) → i < length ws → length xs ≤ i → all_matching (values (plains (drop i ws))) (values (plains (drop i xs))) ≡ Ok false
matched-short [] xs i h k = absurd (omega arith)
matched-short (w ∷ ws) xs zero h k = ap (λ us. all_matching (values (plains (w ∷ ws))) (values (plains us))) (rest-none xs zero k)
matched-short (w ∷ ws) [] (suc i) h k =
    let n : length {A = v.Value} [] ≤ i = omega arith in
    ap (λ us. all_matching (values (plains (drop i ws))) (values (plains us))) (sym (rest-none [] i n)) ∙ matched-short ws [] i (omega arith) n
matched-short (w ∷ ws) (x ∷ xs) (suc i) h k = matched-short ws xs i (omega arith) (omega arith)

-- where all are gone through
pub matched-end : (ws xs : List v.Value) (i : ℕ) → length ws ≤ i → i ≤ length ws → i ≤ length xs
    → all_matching (values (plains (drop i ws))) (values (plains (drop i xs))) ≡ Ok (nat_eq (length ws) (length xs))
matched-end [] [] zero h k l = refl
matched-end [] (x ∷ xs) zero h k l = ap Ok (sym (eqb-zero-suc (length xs)))
matched-end [] xs (suc i) h k l = absurd (omega arith)
matched-end (w ∷ ws) xs zero h k l = absurd (omega arith)
matched-end (w ∷ ws) [] (suc i) h k l = absurd (omega arith)
matched-end (w ∷ ws) (x ∷ xs) (suc i) h k l = matched-end ws xs i (omega arith) (omega arith) (omega arith) ∙ ap Ok (sym (eqb-suc-suc (length ws) (length xs)))
