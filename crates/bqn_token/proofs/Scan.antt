-- The scan for the longest piece, and what its answer says.
use Rattle.std.proofs.Common.{◌≡◌, ◌≤◌, ◌<◌, ◌+◌, ℕ, suc, List, ◌∷◌, Bool, true, false, Option, Some, None, length, drop, get_or, drop-cons, refl, sym, ap, ◌∙◌, arith, add-one}
use Rattle.std.proofs.Math.ListN.{drop_of_length-le}
use Rattle.bqn_syntax.specs.declared.progress.Progress.{Progress}
use Rattle.bqn_syntax.specs.declared.progress.Progress.TheVariants.{Start}
use Rattle.bqn_syntax.specs.text.Table.{next, is_final}
use Rattle.bqn_syntax.specs.text.Cut.{longest, one_more}

-- the longest of all, where best is the longest that ends at this index or before
abbrev pub or_best : Option ℕ → ℕ → Option ℕ → Option ℕ
or_best best i None = best
or_best best i (Some count) = Some (i + count)

pub scan-start : (text : List ℕ) → or_best None 0 (longest Start text) ≡ longest Start text
scan-start text = go (longest Start text)
  where
    go : (r : Option ℕ) → or_best None 0 r ≡ r
    go None = refl
    go (Some count) = ap (λ (k : ℕ). Some k) (omega arith)

pub scan-end : (text : List ℕ) (state : Progress) (best : Option ℕ) (i : ℕ) → length text ≤ i → or_best best i (longest state (drop i text)) ≡ best
scan-end text state best i le = rw (drop_of_length-le text le) refl

abbrev pub after_state : Option Progress → List ℕ → Option ℕ
after_state None cs = None
after_state (Some after) cs = one_more (is_final after) (longest after cs)

pub longest-cons : (state : Progress) (c : ℕ) (cs : List ℕ) → longest state (c ∷ cs) ≡ after_state (next state c) cs
longest-cons state c cs = go (next state c)
  where
    go : (r : Option Progress) → (elim r as (λ _. Option ℕ) [ None ↦ None | Some after ↦ one_more (is_final after) (longest after cs) ]) ≡ after_state r cs
    go None = refl
    go (Some after) = refl

pub scan-stop : (text : List ℕ) (state : Progress) (best : Option ℕ) (i : ℕ) → i < length text → next state (get_or text i 0) ≡ None → or_best best i (longest state (drop i text)) ≡ best
scan-stop text state best i lt e =
    ap (λ (x : List ℕ). or_best best i (longest state x)) (drop-cons text i 0 lt)
    ∙ ap (λ (x : Option ℕ). or_best best i x) (longest-cons state (get_or text i 0) (drop (suc i) text) ∙ ap (λ (r : Option Progress). after_state r (drop (suc i) text)) e)

-- the best after one more character
abbrev better : Bool → Option ℕ → ℕ → Option ℕ
better true best i = Some (i + 1)
better false best i = best

or_best-one_more : (final : Bool) (r best : Option ℕ) (i : ℕ) → or_best best i (one_more final r) ≡ or_best (better final best i) (i + 1) r
or_best-one_more true (Some count) best i = ap (λ (k : ℕ). Some k) (omega arith)
or_best-one_more false (Some count) best i = ap (λ (k : ℕ). Some k) (omega arith)
or_best-one_more true None best i = refl
or_best-one_more false None best i = refl

pub scan-step : (text : List ℕ) (state after : Progress) (best : Option ℕ) (i c : ℕ) (final : Bool) → i < length text → next state c ≡ Some after → c ≡ get_or text i c → is_final after ≡ final → or_best best i (longest state (drop i text)) ≡ or_best (better final best i) (i + 1) (longest after (drop (i + 1) text))
scan-step text state after best i c final lt e at f =
    ap (λ (x : List ℕ). or_best best i (longest state x)) (drop-cons text i c lt)
    ∙ ap (λ (x : ℕ). or_best best i (longest state (x ∷ drop (suc i) text))) (sym at)
    ∙ ap (λ (x : Option ℕ). or_best best i x) (longest-cons state c (drop (suc i) text) ∙ ap (λ (r : Option Progress). after_state r (drop (suc i) text)) e)
    ∙ ap (λ (v : Bool). or_best best i (one_more v (longest after (drop (suc i) text)))) f
    ∙ or_best-one_more final (longest after (drop (suc i) text)) best i
    ∙ ap (λ (k : ℕ). or_best (better final best i) (i + 1) (longest after (drop k text))) (sym (add-one i))

pub ruleset scan_laws = (scan-start, scan-end, scan-stop)
