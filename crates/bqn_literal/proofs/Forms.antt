-- The form of a number, over the parts of a word.
use Rattle.std.proofs.Common.{◌≡◌, ℕ, Bool, true, false, cond, Option, Some, None, List, [], ◌∷◌, refl, sym, ap, ◌∙◌, arith}
use Rattle.std.specs.Prelude.{◌==◌, not, ◌&&◌, ◌||◌, if◌then◌else◌}
use Rattle.std.specs.List.{list_all}
use Rattle.std.proofs.lemmas.Bool.Decides.{nat_tests}
use Rattle.bqn_base.specs.Characters.{is_digit}
use Rattle.bqn_base.specs.Literal.{Spelled, are_digits, with_power, with_end, with_fraction, behind_whole, with_whole, without_underscores}
use Rattle.bqn_literal.specs.Shown.{figures, has_figure}

abbrev is_some : List ℕ → Bool
is_some [] = false
is_some (c ∷ cs) = true

figure_case : (b : Bool) (c : ℕ) (cs : List ℕ) → is_some (figures cs) ≡ has_figure cs → is_some (cond b (c ∷ figures cs) (figures cs)) ≡ b || has_figure cs
figure_case true c cs h = refl
figure_case false c cs h = h

is_some-figures : (cs : List ℕ) → is_some (figures cs) ≡ has_figure cs
is_some-figures [] = refl
is_some-figures (c ∷ cs) = figure_case (is_digit c) c cs (is_some-figures cs)

fraction_case : (negative : Bool) (whole ds rest : List ℕ) (some : Bool) → is_some ds ≡ some → with_fraction negative whole (record { digits = ds; rest = rest }) ≡ cond some (with_end negative whole ds rest) None
fraction_case negative whole [] rest true h = absurd (cc)
fraction_case negative whole [] rest false h = refl
fraction_case negative whole (d ∷ ds) rest true h = refl
fraction_case negative whole (d ∷ ds) rest false h = absurd (cc)

-- digits behind a dot, or none
pub with_fraction-figures : (negative : Bool) (whole cs rest : List ℕ) → with_fraction negative whole (record { digits = figures cs; rest = rest }) ≡ cond (has_figure cs) (with_end negative whole (figures cs) rest) None
with_fraction-figures negative whole cs rest = fraction_case negative whole (figures cs) rest (has_figure cs) (is_some-figures cs)

whole_case : (negative : Bool) (ds rest : List ℕ) (some : Bool) → is_some ds ≡ some → with_whole negative (record { digits = ds; rest = rest }) ≡ cond some (behind_whole negative ds rest) None
whole_case negative [] rest true h = absurd (cc)
whole_case negative [] rest false h = refl
whole_case negative (d ∷ ds) rest true h = refl
whole_case negative (d ∷ ds) rest false h = absurd (cc)

-- digits in front, or none
pub with_whole-figures : (negative : Bool) (cs rest : List ℕ) → with_whole negative (record { digits = figures cs; rest = rest }) ≡ cond (has_figure cs) (behind_whole negative (figures cs) rest) None
with_whole-figures negative cs rest = whole_case negative (figures cs) rest (has_figure cs) (is_some-figures cs)

-- digits to the end are all that is kept
figures_case : (digit underscore : Bool) (c : ℕ) (cs : List ℕ) → (list_all is_digit (without_underscores cs) ≡ true → figures cs ≡ without_underscores cs) → is_digit c ≡ digit → (c == 95) ≡ underscore → list_all is_digit (cond (not underscore) (c ∷ without_underscores cs) (without_underscores cs)) ≡ true → cond digit (c ∷ figures cs) (figures cs) ≡ cond (not underscore) (c ∷ without_underscores cs) (without_underscores cs)
figures_case true true c cs h d u a = let e : c ≡ 95 = grind (arith, nat_tests) in let k : true ≡ false = sym d ∙ ap is_digit e in cc
figures_case false true c cs h d u a = h a
figures_case true false c cs h d u a = ap (λ (x : List ℕ). c ∷ x) (h (ap (λ (b : Bool). b && list_all is_digit (without_underscores cs)) (sym d) ∙ a))
figures_case false false c cs h d u a = let k : false ≡ true = ap (λ (b : Bool). b && list_all is_digit (without_underscores cs)) (sym d) ∙ a in cc

figures-all : (cs : List ℕ) → list_all is_digit (without_underscores cs) ≡ true → figures cs ≡ without_underscores cs
figures-all [] a = refl
figures-all (c ∷ cs) a = figures_case (is_digit c) (c == 95) c cs (figures-all cs) refl refl a

pub all-are_digits : (cs : List ℕ) → are_digits cs ≡ true → list_all is_digit cs ≡ true
all-are_digits [] a = refl
all-are_digits (c ∷ cs) a = a

pub figures-are_digits : (cs : List ℕ) → are_digits (without_underscores cs) ≡ true → figures cs ≡ without_underscores cs
figures-are_digits cs a = figures-all cs (all-are_digits (without_underscores cs) a)

figures-none : (cs : List ℕ) → without_underscores cs ≡ [] → figures cs ≡ []
figures-none cs h = figures-all cs (ap (list_all is_digit) h) ∙ h

abbrev pub spelled_with : (negative : Bool) → (whole fraction : List ℕ) → (down : Bool) → (power : List ℕ) → Spelled
spelled_with negative whole fraction down power = record { negative = negative; whole = whole; fraction = fraction; down = down; power = power }

pub with_end-none : (negative : Bool) (whole fraction cs : List ℕ) → without_underscores cs ≡ [] → with_end negative whole fraction (without_underscores cs) ≡ Some (spelled_with negative whole fraction false (figures cs))
with_end-none negative whole fraction cs h = ap (with_end negative whole fraction) h ∙ ap (λ (p : List ℕ). Some (spelled_with negative whole fraction false p)) (sym (figures-none cs h))

abbrev pub power_case : (negative : Bool) → (whole fraction : List ℕ) → (c : ℕ) → (cs : List ℕ) → (macron down up : Bool) → Option Spelled
power_case negative whole fraction c cs macron down up = if macron then (if down then Some (spelled_with negative whole fraction true cs) else None) else (if up then Some (spelled_with negative whole fraction false (c ∷ cs)) else None)

pub with_power-down : (negative : Bool) (whole fraction ks : List ℕ) (c : ℕ) (cs : List ℕ) → ks ≡ c ∷ without_underscores cs → c ≡ 175 → are_digits (without_underscores cs) ≡ true → with_power negative whole fraction ks ≡ Some (spelled_with negative whole fraction true (figures cs))
with_power-down negative whole fraction ks c cs k h a =
    let e : (c == 175) ≡ true = grind (arith, nat_tests) in
    ap (with_power negative whole fraction) k
    ∙ ap (λ (b : Bool). power_case negative whole fraction c (without_underscores cs) b (are_digits (without_underscores cs)) (are_digits (c ∷ without_underscores cs))) e
    ∙ ap (λ (b : Bool). power_case negative whole fraction c (without_underscores cs) true b (are_digits (c ∷ without_underscores cs))) a
    ∙ ap (λ (p : List ℕ). Some (spelled_with negative whole fraction true p)) (sym (figures-are_digits cs a))

pub with_power-up : (negative : Bool) (whole fraction word : List ℕ) (c : ℕ) (cs : List ℕ) → without_underscores word ≡ c ∷ cs → ¬ (c ≡ 175) → are_digits (without_underscores word) ≡ true → with_power negative whole fraction (without_underscores word) ≡ Some (spelled_with negative whole fraction false (figures word))
with_power-up negative whole fraction word c cs k h a =
    let e : (c == 175) ≡ false = grind (arith, nat_tests) in
    ap (with_power negative whole fraction) k
    ∙ ap (λ (b : Bool). power_case negative whole fraction c cs b (are_digits cs) (are_digits (c ∷ cs))) e
    ∙ ap (λ (b : Bool). power_case negative whole fraction c cs false (are_digits cs) b) (ap are_digits (sym k) ∙ a)
    ∙ ap (λ (p : List ℕ). Some (spelled_with negative whole fraction false p)) (sym k ∙ sym (figures-are_digits word a))

pub ruleset form_laws = (with_fraction-figures, with_whole-figures, with_end-none, with_power-down, with_power-up)
