-- What the digits and the power of a spelling give.
use Rattle.std.proofs.Common.{◌≡◌, ◌≤◌, ◌<◌, ◌+◌, ◌*◌, ◌%◌, ◌^◌, ℕ, Bool, true, false, Option, Some, None, ◌++◌, length, refl, sym, ap, subst, ◌∙◌, arith}
use Rattle.std.specs.Prelude.{◌==◌, min, if◌then◌else◌}
use Rattle.std.specs.List.{list_all}
use Rattle.std.specs.Option.{option_and_then}
use Rattle.std.proofs.lemmas.Bool.Decides.{nat_tests}
use Rattle.bqn_base.specs.Characters.{is_digit}
use Rattle.bqn_base.specs.Literal.{Spelled, scaled, value_from, magnitude}
use Rattle.bqn_literal.specs.Values.{small, placed, nothing, with_digits, scaled_to, limit}
use Rattle.bqn_literal.specs.declared.significand.Significand.{Significand}
use Rattle.bqn_literal.proofs.Scaling.{scaled-placed, placed-wide, placed-up_limit, placed-down_limit}
use Rattle.bqn_literal.proofs.Digits.{IsWide, IsHeld, IsRead, parts-read}

scaled-wide : (v up down : ℕ) → IsWide v → option_and_then small (scaled v up down) ≡ None
scaled-wide v up down w =
    ap (λ (x : ℕ). option_and_then small (scaled x up down)) w.is
    ∙ ap (option_and_then small) (scaled-placed w.magnitude w.zeros up down w.ends)
    ∙ placed-wide w.magnitude (w.zeros + up) down w.large

none_worth : (z : ℕ) → 0 * 10 ^ z ≡ 0
none_worth z = omega arith

-- the same, at another power of ten that is as good
scaled_case : (n z up down up' down' : ℕ) (none : Bool) → (n == 0) ≡ none → (0 < n → 0 < n % 10) → (0 < n → option_and_then small (placed n (z + up) down) ≡ option_and_then small (placed n (z + up') down')) → option_and_then small (scaled (n * 10 ^ z) up down) ≡ (if none then Some 0 else option_and_then small (placed n (z + up') down'))
scaled_case n z up down up' down' true e ends same =
    let k : n ≡ 0 = grind (arith, nat_tests) in
    ap (λ (x : ℕ). option_and_then small (scaled (x * 10 ^ z) up down)) k ∙ ap (λ (x : ℕ). option_and_then small (scaled x up down)) (none_worth z)
scaled_case n z up down up' down' false e ends same =
    let k : ¬ (n ≡ 0) = grind (arith, nat_tests) in
    let some : 0 < n = omega arith in
    ap (option_and_then small) (scaled-placed n z up down (ends some)) ∙ same some

scaled_held : (v up down up' down' : ℕ) (s : Significand) → IsHeld v s → (0 < s.magnitude → option_and_then small (placed s.magnitude (s.zeros + up) down) ≡ option_and_then small (placed s.magnitude (s.zeros + up') down')) → option_and_then small (scaled v up down) ≡ scaled_to s up' down'
scaled_held v up down up' down' s h same =
    ap (λ (x : ℕ). option_and_then small (scaled x up down)) (sym h.is)
    ∙ scaled_case s.magnitude s.zeros up down up' down' (s.magnitude == 0) refl h.ends same

-- how far up and down the power and the fraction move
abbrev up_by : Bool → ℕ → ℕ
up_by down power = if down then 0 else power

abbrev down_by : Bool → ℕ → ℕ
down_by down power = if down then power else 0

scaled_power : (v power places : ℕ) (down : Bool) (s : Significand) → IsHeld v s → s.zeros ≤ 2 ^ 66 → places ≤ 2 ^ 64 → option_and_then small (scaled v (up_by down power) (places + down_by down power)) ≡ scaled_to s (up_by down (min power limit)) (places + down_by down (min power limit))
scaled_power v power places true s h few short =
    scaled_held v 0 (places + power) 0 (places + min power limit) s h
    (λ some. ap (option_and_then small) (sym (placed-down_limit s.magnitude (s.zeros + 0) power places (omega arith))))
scaled_power v power places false s h few short =
    scaled_held v power (places + 0) (min power limit) (places + 0) s h
    (λ some. sym (placed-up_limit s.magnitude s.zeros power (places + 0) some (omega arith)))

abbrev read_parts : Spelled → Option Significand
read_parts s = option_and_then (with_digits s.fraction) (with_digits s.whole nothing)

pub size-wide : (s : Spelled) → list_all is_digit s.whole ≡ true → list_all is_digit s.fraction ≡ true → read_parts s ≡ None → option_and_then small (magnitude s) ≡ None
size-wide s a b e =
    let v = value_from 0 (s.whole ++ s.fraction) in
    scaled-wide v (up_by s.down (value_from 0 s.power)) (length s.fraction + down_by s.down (value_from 0 s.power)) (subst (IsRead v) e (parts-read s.whole s.fraction a b))

size-held : (s : Spelled) (t : Significand) → list_all is_digit s.whole ≡ true → list_all is_digit s.fraction ≡ true → read_parts s ≡ Some t → t.zeros ≤ 2 ^ 66 → length s.fraction ≤ 2 ^ 64 → option_and_then small (magnitude s) ≡ scaled_to t (up_by s.down (min (value_from 0 s.power) limit)) (length s.fraction + down_by s.down (min (value_from 0 s.power) limit))
size-held s t a b e few short =
    let v = value_from 0 (s.whole ++ s.fraction) in
    scaled_power v (value_from 0 s.power) (length s.fraction) s.down t (subst (IsRead v) e (parts-read s.whole s.fraction a b)) few short

pub size-down : (s : Spelled) (t : Significand) (power places : ℕ) → list_all is_digit s.whole ≡ true → list_all is_digit s.fraction ≡ true → read_parts s ≡ Some t → t.zeros ≤ 2 ^ 66 → places ≤ 2 ^ 64 → s.down ≡ true → power ≡ min (value_from 0 s.power) limit → places ≡ length s.fraction → option_and_then small (magnitude s) ≡ scaled_to t 0 (places + power)
size-down s t power places a b e few short down p n =
    size-held s t a b e few (omega arith)
    ∙ ap (λ (d : Bool). scaled_to t (up_by d (min (value_from 0 s.power) limit)) (length s.fraction + down_by d (min (value_from 0 s.power) limit))) down
    ∙ ap (λ (x : ℕ). scaled_to t 0 (length s.fraction + x)) (sym p)
    ∙ ap (λ (x : ℕ). scaled_to t 0 (x + power)) (sym n)

pub size-up : (s : Spelled) (t : Significand) (power places : ℕ) → list_all is_digit s.whole ≡ true → list_all is_digit s.fraction ≡ true → read_parts s ≡ Some t → t.zeros ≤ 2 ^ 66 → places ≤ 2 ^ 64 → s.down ≡ false → power ≡ min (value_from 0 s.power) limit → places ≡ length s.fraction → option_and_then small (magnitude s) ≡ scaled_to t power places
size-up s t power places a b e few short down p n =
    let m : length s.fraction + 0 ≡ places = omega arith in
    size-held s t a b e few (omega arith)
    ∙ ap (λ (d : Bool). scaled_to t (up_by d (min (value_from 0 s.power) limit)) (length s.fraction + down_by d (min (value_from 0 s.power) limit))) down
    ∙ ap (λ (x : ℕ). scaled_to t x (length s.fraction + 0)) (sym p)
    ∙ ap (λ (x : ℕ). scaled_to t power x) m
