-- Digits are read one at a time.
use Rattle.std.proofs.Common.{◌≡◌, ◌≤◌, ◌<◌, ◌+◌, ◌-◌, ◌*◌, ℕ, suc, Bool, true, false, cond, inl, inr, List, [], ◌∷◌, length, drop, get_or, drop-cons, sym, ap, ◌∙◌, arith, add-one}
use Rattle.std.specs.Prelude.{min, nat_le, ◌⊎◌}
use Rattle.std.proofs.lemmas.Bool.{cases_lt, leb-true, and_parts}
use Rattle.std.proofs.lemmas.List.{get_or_read}
use Rattle.std.proofs.Math.ListN.{drop_of_length-le}
use Rattle.std.proofs.Math.Nat.{min-eq_left, min-eq_right}
use Rattle.bqn_base.specs.Characters.{is_digit}
use Rattle.bqn_base.specs.Literal.{value_from}
use Rattle.bqn_literal.specs.Shown.{figures}
use Rattle.bqn_literal.specs.Values.{limit}

pub figures_from-digit : (cs : List ℕ) (i : ℕ) → i < length cs → is_digit (get_or cs i 0) ≡ true → figures (drop i cs) ≡ get_or cs i 0 ∷ figures (drop (i + 1) cs)
figures_from-digit cs i lt h =
    ap figures (drop-cons cs i 0 lt)
    ∙ ap (λ (b : Bool). cond b (get_or cs i 0 ∷ figures (drop (suc i) cs)) (figures (drop (suc i) cs))) h
    ∙ ap (λ (k : ℕ). get_or cs i 0 ∷ figures (drop k cs)) (sym (add-one i))

pub figures_from-other : (cs : List ℕ) (i : ℕ) → i < length cs → is_digit (get_or cs i 0) ≡ false → figures (drop i cs) ≡ figures (drop (i + 1) cs)
figures_from-other cs i lt h =
    ap figures (drop-cons cs i 0 lt)
    ∙ ap (λ (b : Bool). cond b (get_or cs i 0 ∷ figures (drop (suc i) cs)) (figures (drop (suc i) cs))) h
    ∙ ap (λ (k : ℕ). figures (drop k cs)) (sym (add-one i))

pub figures_from-end : (cs : List ℕ) (i : ℕ) → length cs ≤ i → figures (drop i cs) ≡ []
figures_from-end cs i h = ap figures (drop_of_length-le cs h)

pub digit-least : (c : ℕ) → is_digit c ≡ true → 48 ≤ c
digit-least c h = leb-true 48 c (and_parts (nat_le 48 c) (nat_le c 57) h).0

pub digit-greatest : (c : ℕ) → is_digit c ≡ true → c ≤ 57
digit-greatest c h = leb-true c 57 (and_parts (nat_le 48 c) (nat_le c 57) h).1

pub ruleset digits_laws = (figures_from-digit, figures_from-other, figures_from-end, digit-least, digit-greatest)

pub length_figures-digit : (cs : List ℕ) (i : ℕ) → i < length cs → is_digit (get_or cs i 0) ≡ true → length (figures (drop i cs)) ≡ length (figures (drop (i + 1) cs)) + 1
length_figures-digit cs i lt h = ap length (figures_from-digit cs i lt h) ∙ sym (add-one (length (figures (drop (i + 1) cs))))

pub length_figures-end : (cs : List ℕ) (i : ℕ) → length cs ≤ i → length (figures (drop i cs)) ≡ 0
length_figures-end cs i h = ap length (figures_from-end cs i h)

pub ruleset count_laws = (figures_from-other, length_figures-digit, length_figures-end)

pub value_from-grows : (n : ℕ) (ds : List ℕ) → n ≤ value_from n ds
value_from-grows n [] = omega arith
value_from-grows n (d ∷ ds) = let h : n * 10 + (d - 48) ≤ value_from (n * 10 + (d - 48)) ds = value_from-grows (n * 10 + (d - 48)) ds in omega arith

min-limit : (n : ℕ) → limit ≤ n → min n limit ≡ limit
min-limit n h = min-eq_right {n = limit} {m = n} h

value_from-past : (n : ℕ) (ds : List ℕ) → limit ≤ n → min (value_from n ds) limit ≡ limit
value_from-past n ds h = let g : n ≤ value_from n ds = value_from-grows n ds in min-limit (value_from n ds) (omega arith)

value_from_limit : (n : ℕ) (ds : List ℕ) → (n < limit) ⊎ (limit ≤ n) → min (value_from (min n limit) ds) limit ≡ min (value_from n ds) limit
value_from_limit n ds (inl h) = let k : n ≤ limit = omega arith in ap (λ (x : ℕ). min (value_from x ds) limit) (min-eq_left {n = n} {m = limit} k)
value_from_limit n ds (inr h) = ap (λ (x : ℕ). min (value_from x ds) limit) (min-limit n h) ∙ value_from-past limit ds (omega arith) ∙ sym (value_from-past n ds h)

-- one more digit of a power
pub power-digit : (cs : List ℕ) (i p : ℕ) → i < length cs → is_digit (get_or cs i 0) ≡ true → min (value_from (min (p * 10 + (get_or cs i 0 - 48)) limit) (figures (drop (i + 1) cs))) limit ≡ min (value_from p (figures (drop i cs))) limit
power-digit cs i p lt h =
    let n = p * 10 + (get_or cs i 0 - 48) in
    value_from_limit n (figures (drop (i + 1) cs)) (cases_lt n limit)
    ∙ ap (λ (ds : List ℕ). min (value_from p ds) limit) (sym (figures_from-digit cs i lt h))

pub power-step : (cs : List ℕ) (i p q c : ℕ) → i < length cs → c ≡ get_or cs i c → is_digit c ≡ true → q ≡ min (p * 10 + (c - 48)) limit → min (value_from q (figures (drop (i + 1) cs))) limit ≡ min (value_from p (figures (drop i cs))) limit
power-step cs i p q c lt r h e =
    let k : c ≡ get_or cs i 0 = get_or_read cs i c lt r 0 in
    ap (λ (x : ℕ). min (value_from x (figures (drop (i + 1) cs))) limit) (e ∙ ap (λ (x : ℕ). min (p * 10 + (x - 48)) limit) k)
    ∙ power-digit cs i p lt (sym (ap is_digit k) ∙ h)

pub ruleset power_laws = (figures_from-other, figures_from-end, digit-least, digit-greatest)
