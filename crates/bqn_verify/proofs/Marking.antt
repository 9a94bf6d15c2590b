-- Exports with one spelling have one mark.
use Rattle.std.proofs.Common.{◌≡◌, ◌<◌, ◌≤◌, ◌≢◌, ◌+◌, ◌-◌, ℕ, zero, suc, Bool, true, false, not, ◌&&◌, ◌||◌, nat_eq, List, [], ◌∷◌, length, drop, set, replicate, get_or, slice_get, Option, Some, None, refl, sym, ◌∙◌, ap, subst, arith, drop-cons}
use Rattle.std.specs.Cmp.Lexicographic.{same_text}
use Rattle.std.proofs.lemmas.Bool.{eqb-true, eqb-false}
use Rattle.std.proofs.lemmas.List.{drop_all, length-set, length-replicate, get_or-replicate, get_or_default, get_or-set_other}
use Rattle.std.proofs.lemmas.Grind.{get_or-set_at}
use Rattle.bqn_code.specs.Conditions.{are_distinct}
use Rattle.bqn_code.specs.Numbering.{same_name}
use Rattle.bqn_verify.specs.Marks.{mark_from, mark_in, kept, alike, is_again, Heads, Nexts}
use Rattle.bqn_verify.proofs.Exported.{distinct_step}

-- ---- spellings

one-mark : (a b : Option (List ℕ)) → same_name a b ≡ true → mark_in a ≡ mark_in b
one-mark None b h = cc
one-mark (Some a) None h = cc
one-mark (Some a) (Some b) h = ap (mark_from 0) (same_text a b (sym h))

other-spelling : (a b : Option (List ℕ)) → nat_eq (mark_in b) (mark_in a) ≡ false → same_name a b ≡ false
other-spelling a b h = by (same_name a b) refl
  where
    by : (x : Bool) → same_name a b ≡ x → same_name a b ≡ false
    by false e = e
    by true e = absurd (eqb-false (mark_in b) (mark_in a) h (sym (one-mark a b e)))

any-alike : (names : List (List ℕ)) (name : ℕ) (es : List (ℕ × ℕ)) → is_again names name (alike names (mark_in (slice_get names name)) es) ≡ is_again names name es
any-alike names name [] = refl
any-alike names name (e ∷ es) = by (any-alike names name es) (nat_eq (mark_in (slice_get names e.0)) (mark_in (slice_get names name))) refl
  where
    by : is_again names name (alike names (mark_in (slice_get names name)) es) ≡ is_again names name es → (x : Bool) → nat_eq (mark_in (slice_get names e.0)) (mark_in (slice_get names name)) ≡ x
        → is_again names name (kept x e (alike names (mark_in (slice_get names name)) es)) ≡ is_again names name (e ∷ es)
    by rest true h = ap (λ (b : Bool). same_name (slice_get names name) (slice_get names e.0) || b) rest
    by rest false h = rest ∙ ap (λ (b : Bool). b || is_again names name es) (sym (other-spelling (slice_get names name) (slice_get names e.0) h))

pub again_alike : (names : List (List ℕ)) (name : ℕ) (xs ys : List (ℕ × ℕ)) → alike names (mark_in (slice_get names name)) xs ≡ alike names (mark_in (slice_get names name)) ys → is_again names name xs ≡ is_again names name ys
again_alike names name xs ys h = sym (any-alike names name xs) ∙ (ap (is_again names name) h ∙ any-alike names name ys)

-- ---- a walk over the exports with one mark

pub skipped : (names : List (List ℕ)) (es : List (ℕ × ℕ)) (next : List ℕ) (name at : ℕ) (d : ℕ × ℕ) → Nexts names es next → at < length es → at < get_or next at 0 → mark_in (slice_get names name) ≡ mark_in (slice_get names (get_or es at d).0)
    → is_again names name (drop (get_or next at 0) es) ≡ is_again names name (drop (at + 1) es)
skipped names es next name at d n h lt m =
    again_alike names name (drop (get_or next at 0) es) (drop (at + 1) es)
    (subst (λ (k : ℕ). alike names k (drop (get_or next at 0) es) ≡ alike names k (drop (at + 1) es)) (sym m) (sym (n at d h lt)))

again-step : (names : List (List ℕ)) (es : List (ℕ × ℕ)) (name at : ℕ) (d : ℕ × ℕ) → at < length es
    → is_again names name (drop at es) ≡ (same_name (slice_get names name) (slice_get names (get_or es at d).0) || is_again names name (drop (at + 1) es))
again-step names es name at d h =
    let e : suc at ≡ at + 1 = omega arith in
    ap (is_again names name) (drop-cons es at d h)
    ∙ ap (λ (k : ℕ). same_name (slice_get names name) (slice_get names (get_or es at d).0) || is_again names name (drop k es)) e

pub not_here : (names : List (List ℕ)) (es : List (ℕ × ℕ)) (name at : ℕ) (d : ℕ × ℕ) → at < length es → same_name (slice_get names name) (slice_get names (get_or es at d).0) ≡ false
    → is_again names name (drop at es) ≡ is_again names name (drop (at + 1) es)
not_here names es name at d h s = again-step names es name at d h ∙ ap (λ (b : Bool). b || is_again names name (drop (at + 1) es)) s

pub is_here : (names : List (List ℕ)) (es : List (ℕ × ℕ)) (name at : ℕ) (d : ℕ × ℕ) → at < length es → same_name (slice_get names name) (slice_get names (get_or es at d).0) ≡ true
    → is_again names name (drop at es) ≡ true
is_here names es name at d h s = again-step names es name at d h ∙ ap (λ (b : Bool). b || is_again names name (drop (at + 1) es)) s

pub none_left : (names : List (List ℕ)) (es : List (ℕ × ℕ)) (name at : ℕ) → length es ≤ at → is_again names name (drop at es) ≡ false
none_left names es name at h = ap (is_again names name) (drop_all at es h)

-- ---- one export after another, from the last on

pub no_heads : (names : List (List ℕ)) (es : List (ℕ × ℕ)) (many far : ℕ) → length es ≤ far → Heads names es (length es) (replicate many far)
no_heads names es many far h m lt =
    let e : length (replicate many far) ≡ many = length-replicate many far in
    let l : m < many = omega arith in
    let f : get_or (replicate many far) m 0 ≡ far = get_or-replicate many m far 0 l in
    ap (alike names m) (drop_all (length es) es (omega arith)) ∙ sym (ap (λ (k : ℕ). alike names m (drop k es)) f ∙ ap (alike names m) (drop_all far es h))

pub no_nexts : (names : List (List ℕ)) (es : List (ℕ × ℕ)) (many : ℕ) → length es ≤ many → Nexts names es (replicate many 0)
no_nexts names es many h j d lt behind =
    let l : j < many = omega (arith, lt, h) in
    let none : ℕ = 0 in
    let f : get_or (replicate many none) j none ≡ none = get_or-replicate many j none none l in
    absurd (omega (arith, f, behind))

in-set : (xs : List ℕ) (i x m : ℕ) → m < length (set xs i x) → m < length xs
in-set xs i x m h = let e : length (set xs i x) ≡ length xs = length-set xs i x in omega arith

head-put : (names : List (List ℕ)) (es : List (ℕ × ℕ)) (heads : List ℕ) (at mark m : ℕ) (d : ℕ × ℕ) → Heads names es (at + 1) heads → at < length es → mark ≡ mark_in (slice_get names (get_or es at d).0) → m < length heads
    → alike names m (drop at es) ≡ alike names m (drop (get_or (set heads mark at) m 0) es)
head-put names es heads at mark m d hs lt p inside = by (nat_eq (mark_in (slice_get names (get_or es at d).0)) m) refl
  where
    by : (x : Bool) → nat_eq (mark_in (slice_get names (get_or es at d).0)) m ≡ x → alike names m (drop at es) ≡ alike names m (drop (get_or (set heads mark at) m 0) es)
    by true e =
        let q : m ≡ mark = sym (p ∙ eqb-true (mark_in (slice_get names (get_or es at d).0)) m e) in
        let within : mark < length heads = omega arith in
        sym (ap (λ (k : ℕ). alike names m (drop k es)) (get_or-set_at heads mark m at 0 q within))
    by false e =
        let q : m ≢ mark = λ r. eqb-false (mark_in (slice_get names (get_or es at d).0)) m e (sym (r ∙ p)) in
        let f : suc at ≡ at + 1 = omega arith in
        ap (alike names m) (drop-cons es at d lt)
        ∙ (ap (λ (b : Bool). kept b (get_or es at d) (alike names m (drop (suc at) es))) e
        ∙ (ap (λ (k : ℕ). alike names m (drop k es)) f
        ∙ (hs m inside ∙ sym (ap (λ (k : ℕ). alike names m (drop k es)) (get_or-set_other heads mark m at 0 q)))))

pub next_heads : (names : List (List ℕ)) (es : List (ℕ × ℕ)) (heads : List ℕ) (from mark : ℕ) (d : ℕ × ℕ) → Heads names es from heads → 0 < from → from ≤ length es → mark ≡ mark_in (slice_get names (get_or es (from - 1) d).0)
    → Heads names es (from - 1) (set heads mark (from - 1))
next_heads names es heads from mark d hs pos le p m lt =
    let f : from ≡ (from - 1) + 1 = omega arith in
    head-put names es heads (from - 1) mark m d (subst (λ (k : ℕ). Heads names es k heads) f hs) (omega arith) p (in-set heads mark (from - 1) m lt)

pub next_nexts : (names : List (List ℕ)) (es : List (ℕ × ℕ)) (heads next : List ℕ) (from mark : ℕ) (d : ℕ × ℕ) → Heads names es from heads → Nexts names es next → 0 < from → from ≤ length es → length es ≤ length next
    → mark < length heads → mark ≡ mark_in (slice_get names (get_or es (from - 1) d).0) → Nexts names es (set next (from - 1) (get_or heads mark 0))
next_nexts names es heads next from mark d hs ns pos le room inside p j e lt behind = by (nat_eq j (from - 1)) refl
  where
    by : (x : Bool) → nat_eq j (from - 1) ≡ x → alike names (mark_in (slice_get names (get_or es j e).0)) (drop (j + 1) es) ≡ alike names (mark_in (slice_get names (get_or es j e).0)) (drop (get_or (set next (from - 1) (get_or heads mark 0)) j 0) es)
    by true q =
        let here : j ≡ from - 1 = eqb-true j (from - 1) q in
        let f : from ≡ j + 1 = omega arith in
        let same : get_or es (from - 1) d ≡ get_or es j e = ap (λ (k : ℕ). get_or es k d) (sym here) ∙ get_or_default es j d e lt in
        let m : mark ≡ mark_in (slice_get names (get_or es j e).0) = p ∙ ap (λ (x : ℕ × ℕ). mark_in (slice_get names x.0)) same in
        let put : get_or (set next (from - 1) (get_or heads mark 0)) j 0 ≡ get_or heads mark 0 = get_or-set_at next (from - 1) j (get_or heads mark 0) 0 here (omega arith) in
        subst (λ (k : ℕ). alike names k (drop (j + 1) es) ≡ alike names k (drop (get_or (set next (from - 1) (get_or heads mark 0)) j 0) es)) m
        (ap (λ (k : ℕ). alike names mark (drop k es)) (sym f) ∙ (hs mark inside ∙ sym (ap (λ (k : ℕ). alike names mark (drop k es)) put)))
    by false q =
        let other : j ≢ from - 1 = eqb-false j (from - 1) q in
        let old : get_or (set next (from - 1) (get_or heads mark 0)) j 0 ≡ get_or next j 0 = get_or-set_other next (from - 1) j (get_or heads mark 0) 0 other in
        ns j e lt (omega arith) ∙ sym (ap (λ (k : ℕ). alike names (mark_in (slice_get names (get_or es j e).0)) (drop k es)) old)

distinct-at : (names : List (List ℕ)) (es : List (ℕ × ℕ)) (heads : List ℕ) (from name mark : ℕ) (d : ℕ × ℕ) → Heads names es from heads → 0 < from → from ≤ length es → name ≡ (get_or es (from - 1) d).0 → mark < length heads
    → mark ≡ mark_in (slice_get names name) → are_distinct names (drop (from - 1) es) ≡ (not (is_again names name (drop (get_or heads mark 0) es)) && are_distinct names (drop from es))
distinct-at names es heads from name mark d hs pos le n inside p =
    let f : (from - 1) + 1 ≡ from = omega arith in
    let again : is_again names name (drop from es) ≡ is_again names name (drop (get_or heads mark 0) es) =
    again_alike names name (drop from es) (drop (get_or heads mark 0) es) (subst (λ (k : ℕ). alike names k (drop from es) ≡ alike names k (drop (get_or heads mark 0) es)) p (hs mark inside)) in
    distinct_step names es (from - 1) d (omega arith)
    ∙ (ap (λ (k : ℕ). not (is_again names (get_or es (from - 1) d).0 (drop k es)) && are_distinct names (drop k es)) f
    ∙ (ap (λ (k : ℕ). not (is_again names k (drop from es)) && are_distinct names (drop from es)) (sym n)
    ∙ ap (λ (b : Bool). not b && are_distinct names (drop from es)) again))

pub still_distinct : (names : List (List ℕ)) (es : List (ℕ × ℕ)) (heads : List ℕ) (from name mark : ℕ) (d : ℕ × ℕ) → Heads names es from heads → 0 < from → from ≤ length es → name ≡ (get_or es (from - 1) d).0 → mark < length heads
    → mark ≡ mark_in (slice_get names name) → is_again names name (drop (get_or heads mark 0) es) ≡ false → are_distinct names (drop from es) ≡ true → are_distinct names (drop (from - 1) es) ≡ true
still_distinct names es heads from name mark d hs pos le n inside p a b =
    distinct-at names es heads from name mark d hs pos le n inside p ∙ (ap (λ (x : Bool). not x && are_distinct names (drop from es)) a ∙ b)

not-distinct : (names : List (List ℕ)) (es : List (ℕ × ℕ)) (at : ℕ) → are_distinct names (drop at es) ≡ false → are_distinct names es ≡ false
not-distinct names es zero h = h
not-distinct names [] (suc at) h = h
not-distinct names (e ∷ es) (suc at) h = ap (λ (b : Bool). not (is_again names e.0 es) && b) (not-distinct names es at h) ∙ no (not (is_again names e.0 es))
  where
    no : (b : Bool) → (b && false) ≡ false
    no true = refl
    no false = refl

pub again_found : (names : List (List ℕ)) (es : List (ℕ × ℕ)) (heads : List ℕ) (from name mark : ℕ) (d : ℕ × ℕ) → Heads names es from heads → 0 < from → from ≤ length es → name ≡ (get_or es (from - 1) d).0 → mark < length heads
    → mark ≡ mark_in (slice_get names name) → is_again names name (drop (get_or heads mark 0) es) ≡ true → are_distinct names es ≡ false
again_found names es heads from name mark d hs pos le n inside p a =
    not-distinct names es (from - 1) (distinct-at names es heads from name mark d hs pos le n inside p ∙ ap (λ (x : Bool). not x && are_distinct names (drop from es)) a)
