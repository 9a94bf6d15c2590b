-- A word with `∞` or `π` has no number form.
use Rattle.std.proofs.Common.{◌≡◌, ℕ, Bool, true, false, cond, Option, Some, None, List, [], ◌∷◌, refl, ap, ◌∙◌, arith}
use Rattle.std.specs.Prelude.{◌==◌, not, ◌||◌, if◌then◌else◌}
use Rattle.std.specs.List.{list_any, list_all}
use Rattle.std.proofs.lemmas.Bool.{and_parts, eqb-true, ne_eqb}
use Rattle.bqn_base.specs.Characters.{is_digit}
use Rattle.bqn_base.specs.Literal.{Spelled, Digits, digits_in, onto_digits, are_digits, with_power, with_end, with_fraction, behind_whole, with_whole, spelled, without_underscores, is_past_numbers}
use Rattle.bqn_literal.proofs.Forms.{power_case, all-are_digits}
use Rattle.bqn_literal.proofs.Reading.{digit-greatest}

abbrev has_past : List ℕ → Bool
has_past = list_any is_past_numbers

digit-no_past : (c : ℕ) → is_digit c ≡ true → is_past_numbers c ≡ false
digit-no_past c h =
    let g = digit-greatest c h in
    let a : (c == 8734) ≡ false = ne_eqb c 8734 (λ k. omega arith) in
    let b : (c == 960) ≡ false = ne_eqb c 960 (λ k. omega arith) in
    ap (λ (x : Bool). x || (c == 960)) a ∙ b

cons-no_past : (c : ℕ) (cs : List ℕ) → is_past_numbers c ≡ false → has_past cs ≡ false → has_past (c ∷ cs) ≡ false
cons-no_past c cs h k = ap (λ (b : Bool). b || has_past cs) h ∙ k

is-no_past : (c k : ℕ) → is_past_numbers k ≡ false → (c == k) ≡ true → is_past_numbers c ≡ false
is-no_past c k h e = ap is_past_numbers (eqb-true c k e) ∙ h

digits-no_past : (cs : List ℕ) → list_all is_digit cs ≡ true → has_past cs ≡ false
digits-no_past [] a = refl
digits-no_past (c ∷ cs) a = let p = and_parts (is_digit c) (list_all is_digit cs) a in cons-no_past c cs (digit-no_past c p.0) (digits-no_past cs p.1)

power_no_past : (negative : Bool) (whole fraction : List ℕ) (c : ℕ) (cs : List ℕ) (s : Spelled) (macron down up : Bool) → (c == 175) ≡ macron → are_digits cs ≡ down → are_digits (c ∷ cs) ≡ up → power_case negative whole fraction c cs macron down up ≡ Some s → has_past (c ∷ cs) ≡ false
power_no_past negative whole fraction c cs s true true up m d u e = cons-no_past c cs (is-no_past c 175 refl m) (digits-no_past cs (all-are_digits cs d))
power_no_past negative whole fraction c cs s true false up m d u e = absurd (cc)
power_no_past negative whole fraction c cs s false down true m d u e = digits-no_past (c ∷ cs) u
power_no_past negative whole fraction c cs s false down false m d u e = absurd (cc)

with_power-no_past : (negative : Bool) (whole fraction cs : List ℕ) (s : Spelled) → with_power negative whole fraction cs ≡ Some s → has_past cs ≡ false
with_power-no_past negative whole fraction [] s e = refl
with_power-no_past negative whole fraction (c ∷ cs) s e = power_no_past negative whole fraction c cs s (c == 175) (are_digits cs) (are_digits (c ∷ cs)) refl refl refl e

end_no_past : (negative : Bool) (whole fraction : List ℕ) (c : ℕ) (cs : List ℕ) (s : Spelled) (small large : Bool) → (c == 101) ≡ small → (c == 69) ≡ large → (if small || large then with_power negative whole fraction cs else None) ≡ Some s → has_past (c ∷ cs) ≡ false
end_no_past negative whole fraction c cs s true large a b e = cons-no_past c cs (is-no_past c 101 refl a) (with_power-no_past negative whole fraction cs s e)
end_no_past negative whole fraction c cs s false true a b e = cons-no_past c cs (is-no_past c 69 refl b) (with_power-no_past negative whole fraction cs s e)
end_no_past negative whole fraction c cs s false false a b e = absurd (cc)

with_end-no_past : (negative : Bool) (whole fraction cs : List ℕ) (s : Spelled) → with_end negative whole fraction cs ≡ Some s → has_past cs ≡ false
with_end-no_past negative whole fraction [] s e = refl
with_end-no_past negative whole fraction (c ∷ cs) s e = end_no_past negative whole fraction c cs s (c == 101) (c == 69) refl refl e

fraction_no_past : (negative : Bool) (whole ds rest : List ℕ) (s : Spelled) → with_fraction negative whole (record { digits = ds; rest = rest }) ≡ Some s → has_past rest ≡ false
fraction_no_past negative whole [] rest s e = absurd (cc)
fraction_no_past negative whole (d ∷ ds) rest s e = with_end-no_past negative whole (d ∷ ds) rest s e

front_no_past : (c : ℕ) (cs : List ℕ) (digit : Bool) → is_digit c ≡ digit → (has_past (digits_in cs).rest ≡ false → has_past cs ≡ false) → has_past (elim digit as (λ x. Digits) [ true ↦ onto_digits c (digits_in cs) | false ↦ record { digits = []; rest = c ∷ cs } ]).rest ≡ false → has_past (c ∷ cs) ≡ false
front_no_past c cs true d h k = cons-no_past c cs (digit-no_past c d) (h k)
front_no_past c cs false d h k = k

digits_in-no_past : (cs : List ℕ) → has_past (digits_in cs).rest ≡ false → has_past cs ≡ false
digits_in-no_past [] h = refl
digits_in-no_past (c ∷ cs) h = front_no_past c cs (is_digit c) refl (digits_in-no_past cs) h

behind_no_past : (negative : Bool) (whole : List ℕ) (c : ℕ) (cs : List ℕ) (s : Spelled) (dot : Bool) → (c == 46) ≡ dot → (elim dot as (λ x. Option Spelled) [ true ↦ with_fraction negative whole (digits_in cs) | false ↦ with_end negative whole [] (c ∷ cs) ]) ≡ Some s → has_past (c ∷ cs) ≡ false
behind_no_past negative whole c cs s true d e = cons-no_past c cs (is-no_past c 46 refl d) (digits_in-no_past cs (fraction_no_past negative whole (digits_in cs).digits (digits_in cs).rest s e))
behind_no_past negative whole c cs s false d e = with_end-no_past negative whole [] (c ∷ cs) s e

behind_whole-no_past : (negative : Bool) (whole cs : List ℕ) (s : Spelled) → behind_whole negative whole cs ≡ Some s → has_past cs ≡ false
behind_whole-no_past negative whole [] s e = refl
behind_whole-no_past negative whole (c ∷ cs) s e = behind_no_past negative whole c cs s (c == 46) refl e

whole_no_past : (negative : Bool) (ds rest : List ℕ) (s : Spelled) → with_whole negative (record { digits = ds; rest = rest }) ≡ Some s → has_past rest ≡ false
whole_no_past negative [] rest s e = absurd (cc)
whole_no_past negative (d ∷ ds) rest s e = behind_whole-no_past negative (d ∷ ds) rest s e

front-no_past : (negative : Bool) (cs : List ℕ) (s : Spelled) → with_whole negative (digits_in cs) ≡ Some s → has_past cs ≡ false
front-no_past negative cs s e = digits_in-no_past cs (whole_no_past negative (digits_in cs).digits (digits_in cs).rest s e)

sign_no_past : (c : ℕ) (cs : List ℕ) (s : Spelled) (macron : Bool) → (c == 175) ≡ macron → (elim macron as (λ x. Option Spelled) [ true ↦ with_whole true (digits_in cs) | false ↦ with_whole false (digits_in (c ∷ cs)) ]) ≡ Some s → has_past (c ∷ cs) ≡ false
sign_no_past c cs s true m e = cons-no_past c cs (is-no_past c 175 refl m) (front-no_past true cs s e)
sign_no_past c cs s false m e = front-no_past false (c ∷ cs) s e

kept_no_past : (cs : List ℕ) (s : Spelled) → spelled cs ≡ Some s → has_past cs ≡ false
kept_no_past [] s e = refl
kept_no_past (c ∷ cs) s e = sign_no_past c cs s (c == 175) refl e

or_no_past : (past : Bool) (c : ℕ) (cs : List ℕ) → is_past_numbers c ≡ past → (has_past (without_underscores cs) ≡ false → has_past cs ≡ false) → (past || has_past (without_underscores cs)) ≡ false → has_past (c ∷ cs) ≡ false
or_no_past true c cs p h k = absurd (cc)
or_no_past false c cs p h k = cons-no_past c cs p (h k)

kept_case : (c : ℕ) (cs : List ℕ) (underscore : Bool) → (c == 95) ≡ underscore → (has_past (without_underscores cs) ≡ false → has_past cs ≡ false) → has_past (cond (not underscore) (c ∷ without_underscores cs) (without_underscores cs)) ≡ false → has_past (c ∷ cs) ≡ false
kept_case c cs true u h k = cons-no_past c cs (is-no_past c 95 refl u) (h k)
kept_case c cs false u h k = or_no_past (is_past_numbers c) c cs refl h k

without_underscores-no_past : (cs : List ℕ) → has_past (without_underscores cs) ≡ false → has_past cs ≡ false
without_underscores-no_past [] h = refl
without_underscores-no_past (c ∷ cs) h = kept_case c cs (c == 95) refl (without_underscores-no_past cs) h

pub spelled-no_past : (word : List ℕ) (s : Spelled) → spelled (without_underscores word) ≡ Some s → list_any is_past_numbers word ≡ false
spelled-no_past word s e = without_underscores-no_past word (kept_no_past (without_underscores word) s e)
