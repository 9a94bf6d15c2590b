-- A word is read from the front, underscores counting for nothing.
use Rattle.std.proofs.Common.{◌≡◌, ◌≤◌, ◌<◌, ◌+◌, ℕ, suc, Bool, true, false, cond, List, [], ◌∷◌, ◌++◌, length, take, drop, get_or, drop-cons, refl, sym, ap, ◌∙◌, arith, add-one, append_assoc, append-nil}
use Rattle.std.specs.Prelude.{◌==◌, not, ◌&&◌, ◌||◌}
use Rattle.std.specs.List.{list_all}
use Rattle.std.proofs.lemmas.Bool.Decides.{nat_tests}
use Rattle.std.proofs.lemmas.List.Elements.{filter-append}
use Rattle.std.proofs.Math.ListN.{drop_of_length-le}
use Rattle.std.proofs.Math.Seq.{take-suc}
use Rattle.bqn_base.specs.Characters.{is_digit}
use Rattle.bqn_base.specs.Literal.{Digits, onto_digits, digits_in, are_digits, without_underscores}
use Rattle.bqn_literal.specs.Shown.{figures, front_at, has_figure}

-- the first character of a word
kept-underscore : (c : ℕ) (cs : List ℕ) → c ≡ 95 → without_underscores (c ∷ cs) ≡ without_underscores cs
kept-underscore c cs h = ap (λ (x : ℕ). cond (not (x == 95)) (x ∷ without_underscores cs) (without_underscores cs)) h ∙ refl

kept-other : (c : ℕ) (cs : List ℕ) → ¬ (c ≡ 95) → without_underscores (c ∷ cs) ≡ c ∷ without_underscores cs
kept-other c cs h = let e : (c == 95) ≡ false = grind (arith, nat_tests) in ap (λ (b : Bool). cond (not b) (c ∷ without_underscores cs) (without_underscores cs)) e

pub kept_at-underscore : (cs : List ℕ) (i : ℕ) → i < length cs → get_or cs i 0 ≡ 95 → without_underscores (drop i cs) ≡ without_underscores (drop (i + 1) cs)
kept_at-underscore cs i lt h = ap without_underscores (drop-cons cs i 0 lt) ∙ kept-underscore (get_or cs i 0) (drop (suc i) cs) h ∙ ap (λ (k : ℕ). without_underscores (drop k cs)) (sym (add-one i))

pub kept_at-other : (cs : List ℕ) (i : ℕ) → i < length cs → ¬ (get_or cs i 0 ≡ 95) → without_underscores (drop i cs) ≡ get_or cs i 0 ∷ without_underscores (drop (i + 1) cs)
kept_at-other cs i lt h = ap without_underscores (drop-cons cs i 0 lt) ∙ kept-other (get_or cs i 0) (drop (suc i) cs) h ∙ ap (λ (k : ℕ). get_or cs i 0 ∷ without_underscores (drop k cs)) (sym (add-one i))

pub kept_at-end : (cs : List ℕ) (i : ℕ) → length cs ≤ i → without_underscores (drop i cs) ≡ []
kept_at-end cs i h = ap without_underscores (drop_of_length-le cs h)

pub ruleset first_laws = (kept_at-underscore, kept_at-other, kept_at-end)

-- digits in front of a list of digits and a rest
abbrev pub onto_front : List ℕ → Digits → Digits
onto_front ds front = record { digits = ds ++ front.digits; rest = front.rest }

figures_to : (cs : List ℕ) (i : ℕ) → i < length cs → figures (take (i + 1) cs) ≡ figures (take i cs) ++ cond (is_digit (get_or cs i 0)) (get_or cs i 0 ∷ []) []
figures_to cs i lt =
    ap (λ (k : ℕ). figures (take k cs)) (add-one i)
    ∙ ap figures (take-suc cs i 0 lt)
    ∙ filter-append is_digit (take i cs) (get_or cs i 0 ∷ [])

pub figures_to-digit : (cs : List ℕ) (i : ℕ) → i < length cs → is_digit (get_or cs i 0) ≡ true → figures (take (i + 1) cs) ≡ figures (take i cs) ++ (get_or cs i 0 ∷ [])
figures_to-digit cs i lt h = figures_to cs i lt ∙ ap (λ (b : Bool). figures (take i cs) ++ cond b (get_or cs i 0 ∷ []) []) h

pub figures_to-other : (cs : List ℕ) (i : ℕ) → i < length cs → is_digit (get_or cs i 0) ≡ false → figures (take (i + 1) cs) ≡ figures (take i cs)
figures_to-other cs i lt h = figures_to cs i lt ∙ ap (λ (b : Bool). figures (take i cs) ++ cond b (get_or cs i 0 ∷ []) []) h ∙ append-nil (figures (take i cs))

abbrev front_case : Bool → ℕ → List ℕ → Digits
front_case digit c cs = elim digit as (λ x. Digits) [ true ↦ onto_digits c (digits_in cs) | false ↦ record { digits = []; rest = c ∷ cs } ]

digits_in-digit : (c : ℕ) (cs : List ℕ) → is_digit c ≡ true → digits_in (c ∷ cs) ≡ onto_digits c (digits_in cs)
digits_in-digit c cs h = ap (λ (b : Bool). front_case b c cs) h

digits_in-other : (c : ℕ) (cs : List ℕ) → is_digit c ≡ false → digits_in (c ∷ cs) ≡ record { digits = []; rest = c ∷ cs }
digits_in-other c cs h = ap (λ (b : Bool). front_case b c cs) h

digit-no_underscore : (c : ℕ) → is_digit c ≡ true → ¬ (c ≡ 95)
digit-no_underscore c h e = let k : true ≡ false = sym h ∙ ap is_digit e in cc

underscore-no_digit : (c : ℕ) → c ≡ 95 → is_digit c ≡ false
underscore-no_digit c h = ap is_digit h

onto_front-digit : (ds : List ℕ) (c : ℕ) (front : Digits) → onto_front ds (onto_digits c front) ≡ onto_front (ds ++ (c ∷ [])) front
onto_front-digit ds c front = ap (λ (es : List ℕ). record { digits = es; rest = front.rest }) (sym (append_assoc ds (c ∷ []) front.digits))

abbrev stopped : List ℕ → List ℕ → Digits
stopped ds ks = record { digits = ds; rest = ks }

onto_front-nil : (ds ks : List ℕ) → onto_front ds (stopped [] ks) ≡ stopped ds ks
onto_front-nil ds ks = ap (λ (es : List ℕ). stopped es ks) (append-nil ds)

-- one more character of the front
pub front-digit : (cs : List ℕ) (i : ℕ) → i < length cs → is_digit (get_or cs i 0) ≡ true → onto_front (figures (take i cs)) (digits_in (without_underscores (drop i cs))) ≡ onto_front (figures (take (i + 1) cs)) (digits_in (without_underscores (drop (i + 1) cs)))
front-digit cs i lt h =
    let c = get_or cs i 0 in
    ap (λ (ks : List ℕ). onto_front (figures (take i cs)) (digits_in ks)) (kept_at-other cs i lt (digit-no_underscore c h))
    ∙ ap (onto_front (figures (take i cs))) (digits_in-digit c (without_underscores (drop (i + 1) cs)) h)
    ∙ onto_front-digit (figures (take i cs)) c (digits_in (without_underscores (drop (i + 1) cs)))
    ∙ ap (λ (ds : List ℕ). onto_front ds (digits_in (without_underscores (drop (i + 1) cs)))) (sym (figures_to-digit cs i lt h))

pub front-underscore : (cs : List ℕ) (i : ℕ) → i < length cs → get_or cs i 0 ≡ 95 → onto_front (figures (take i cs)) (digits_in (without_underscores (drop i cs))) ≡ onto_front (figures (take (i + 1) cs)) (digits_in (without_underscores (drop (i + 1) cs)))
front-underscore cs i lt h =
    ap (λ (ks : List ℕ). onto_front (figures (take i cs)) (digits_in ks)) (kept_at-underscore cs i lt h)
    ∙ ap (λ (ds : List ℕ). onto_front ds (digits_in (without_underscores (drop (i + 1) cs)))) (sym (figures_to-other cs i lt (underscore-no_digit (get_or cs i 0) h)))

-- the end of the front
pub front-other : (cs : List ℕ) (i : ℕ) → i < length cs → ¬ (get_or cs i 0 ≡ 95) → is_digit (get_or cs i 0) ≡ false → onto_front (figures (take i cs)) (digits_in (without_underscores (drop i cs))) ≡ front_at i cs
front-other cs i lt u h =
    let c = get_or cs i 0 in
    ap (λ (ks : List ℕ). onto_front (figures (take i cs)) (digits_in ks)) (kept_at-other cs i lt u)
    ∙ ap (onto_front (figures (take i cs))) (digits_in-other c (without_underscores (drop (i + 1) cs)) h)
    ∙ onto_front-nil (figures (take i cs)) (c ∷ without_underscores (drop (i + 1) cs))
    ∙ ap (λ (ks : List ℕ). stopped (figures (take i cs)) ks) (sym (kept_at-other cs i lt u))

pub front-end : (cs : List ℕ) (i : ℕ) → length cs ≤ i → onto_front (figures (take i cs)) (digits_in (without_underscores (drop i cs))) ≡ front_at i cs
front-end cs i h =
    ap (λ (ks : List ℕ). onto_front (figures (take i cs)) (digits_in ks)) (kept_at-end cs i h)
    ∙ onto_front-nil (figures (take i cs)) []
    ∙ ap (λ (ks : List ℕ). stopped (figures (take i cs)) ks) (sym (kept_at-end cs i h))

pub ruleset front_laws = (front-digit, front-underscore, front-other, front-end)

pub has_figure-digit : (cs : List ℕ) (i : ℕ) → i < length cs → is_digit (get_or cs i 0) ≡ true → has_figure (drop i cs) ≡ true
has_figure-digit cs i lt h = ap has_figure (drop-cons cs i 0 lt) ∙ ap (λ (b : Bool). b || has_figure (drop (suc i) cs)) h

pub has_figure-other : (cs : List ℕ) (i : ℕ) → i < length cs → is_digit (get_or cs i 0) ≡ false → has_figure (drop i cs) ≡ has_figure (drop (i + 1) cs)
has_figure-other cs i lt h = ap has_figure (drop-cons cs i 0 lt) ∙ ap (λ (b : Bool). b || has_figure (drop (suc i) cs)) h ∙ ap (λ (k : ℕ). has_figure (drop k cs)) (sym (add-one i))

pub has_figure-end : (cs : List ℕ) (i : ℕ) → length cs ≤ i → has_figure (drop i cs) ≡ false
has_figure-end cs i h = ap has_figure (drop_of_length-le cs h)

pub ruleset figure_laws = (has_figure-digit, has_figure-other, has_figure-end)

-- whether what follows is digits, one of which may have been read
abbrev pub digits_behind : Bool → List ℕ → Bool
digits_behind true cs = list_all is_digit cs
digits_behind false cs = are_digits cs

digits_behind-cons : (some : Bool) (c : ℕ) (cs : List ℕ) → digits_behind some (c ∷ cs) ≡ is_digit c && list_all is_digit cs
digits_behind-cons true c cs = refl
digits_behind-cons false c cs = refl

pub digits_behind-digit : (some : Bool) (cs : List ℕ) (i : ℕ) → i < length cs → ¬ (get_or cs i 0 ≡ 95) → is_digit (get_or cs i 0) ≡ true → digits_behind some (without_underscores (drop i cs)) ≡ digits_behind true (without_underscores (drop (i + 1) cs))
digits_behind-digit some cs i lt u h =
    ap (digits_behind some) (kept_at-other cs i lt u)
    ∙ digits_behind-cons some (get_or cs i 0) (without_underscores (drop (i + 1) cs))
    ∙ ap (λ (b : Bool). b && list_all is_digit (without_underscores (drop (i + 1) cs))) h

pub digits_behind-other : (some : Bool) (cs : List ℕ) (i : ℕ) → i < length cs → ¬ (get_or cs i 0 ≡ 95) → is_digit (get_or cs i 0) ≡ false → digits_behind some (without_underscores (drop i cs)) ≡ false
digits_behind-other some cs i lt u h =
    ap (digits_behind some) (kept_at-other cs i lt u)
    ∙ digits_behind-cons some (get_or cs i 0) (without_underscores (drop (i + 1) cs))
    ∙ ap (λ (b : Bool). b && list_all is_digit (without_underscores (drop (i + 1) cs))) h

digits_behind-nil : (some : Bool) → digits_behind some [] ≡ some
digits_behind-nil true = refl
digits_behind-nil false = refl

pub digits_behind-end : (some : Bool) (cs : List ℕ) (i : ℕ) → length cs ≤ i → digits_behind some (without_underscores (drop i cs)) ≡ some
digits_behind-end some cs i h = ap (digits_behind some) (kept_at-end cs i h) ∙ digits_behind-nil some

pub ruleset all_laws = (kept_at-underscore, digits_behind-digit, digits_behind-other, digits_behind-end)
