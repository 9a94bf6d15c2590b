-- A number that does not end with a zero, times a power of ten.
use Rattle.std.proofs.Common.{◌≡◌, ◌≤◌, ◌<◌, ◌+◌, ◌-◌, ◌*◌, ◌/◌, ◌%◌, ◌^◌, ℕ, zero, suc, Bool, true, false, Option, Some, None, inl, inr, refl, sym, ap, ◌∙◌, arith}
use Rattle.std.specs.Prelude.{nat_le, ◌==◌, ◌⊎◌, min, if◌then◌else◌}
use Rattle.std.specs.Option.{option_and_then}
use Rattle.std.proofs.lemmas.Bool.{cases_lt, ne_eqb}
use Rattle.std.proofs.lemmas.Bool.Decides.{nat_tests}
use Rattle.std.proofs.lemmas.Nat.{pow-add}
use Rattle.std.proofs.Math.Nat.{one-le-pow, mul-mod_left, mul-div_cancel, eq_of_mul-eq-mul_right, div-add-mod', mul_assoc, pow-suc, min-eq_left, min-eq_right}
use Rattle.bqn_base.specs.Literal.{scaled}
use Rattle.bqn_literal.specs.Values.{small, placed, limit}
use Rattle.bqn_literal.proofs.Small.{small-none, le-times_ten, far}

abbrev scaled_case : (v up down : ℕ) → (within whole : Bool) → Option ℕ
scaled_case v up down within whole = if within then Some (v * 10 ^ (up - down)) else if whole then Some (v / 10 ^ (down - up)) else None

scaled-pos : (v up down : ℕ) → 0 < v → scaled v up down ≡ scaled_case v up down (nat_le down up) ((v % 10 ^ (down - up)) == 0)
scaled-pos zero up down some = absurd (omega arith)
scaled-pos (suc n) up down some = refl

scaled-up : (v up down : ℕ) → 0 < v → down ≤ up → scaled v up down ≡ Some (v * 10 ^ (up - down))
scaled-up v up down some h =
    let e : nat_le down up ≡ true = grind (arith, nat_tests) in
    scaled-pos v up down some ∙ ap (λ (b : Bool). scaled_case v up down b ((v % 10 ^ (down - up)) == 0)) e

scaled-down : (v up down : ℕ) (whole : Bool) → 0 < v → up < down → ((v % 10 ^ (down - up)) == 0) ≡ whole → scaled v up down ≡ (if whole then Some (v / 10 ^ (down - up)) else None)
scaled-down v up down whole some h w =
    let e : nat_le down up ≡ false = grind (arith, nat_tests) in
    scaled-pos v up down some ∙ ap (λ (b : Bool). scaled_case v up down b ((v % 10 ^ (down - up)) == 0)) e ∙ ap (λ (b : Bool). scaled_case v up down false b) w

times_tens : (n i j : ℕ) → n * 10 ^ i * 10 ^ j ≡ n * 10 ^ (i + j)
times_tens n i j = mul_assoc n (10 ^ i) (10 ^ j) ∙ ap (λ (x : ℕ). n * x) (sym (pow-add 10 i j))

ten_pos : (k : ℕ) → 0 < 10 ^ k
ten_pos k = let p : 1 ≤ 10 ^ k = one-le-pow k 10 (omega arith) in omega arith

-- fewer zeros than the power takes away
not_whole : (n z j : ℕ) → 0 < n % 10 → (n * 10 ^ z) % 10 ^ (suc j + z) ≡ 0 → ⊥
not_whole n z j some h =
    let v = n * 10 ^ z in
    let m = 10 ^ (suc j + z) in
    let q = v / m in
    let whole : v ≡ q * m = omega (arith, div-add-mod' v m) in
    let split : q * m ≡ (q * 10 ^ suc j) * 10 ^ z = ap (λ (x : ℕ). q * x) (pow-add 10 (suc j) z) ∙ sym (mul_assoc q (10 ^ suc j) (10 ^ z)) in
    let same : n ≡ q * 10 ^ suc j = eq_of_mul-eq-mul_right (10 ^ z) (ten_pos z) n (q * 10 ^ suc j) (whole ∙ split) in
    let tens : q * 10 ^ suc j ≡ (q * 10 ^ j) * 10 = ap (λ (x : ℕ). q * x) (pow-suc 10 j) ∙ sym (mul_assoc q (10 ^ j) 10) in
    let none : n % 10 ≡ 0 = ap (λ (x : ℕ). x % 10) (same ∙ tens) ∙ mul-mod_left (q * 10 ^ j) 10 in
    omega arith

placed-true : (n up down : ℕ) → down ≤ up → placed n up down ≡ Some (n * 10 ^ (up - down))
placed-true n up down h = let e : nat_le down up ≡ true = grind (arith, nat_tests) in ap (λ (b : Bool). if b then Some (n * 10 ^ (up - down)) else None) e

placed-false : (n up down : ℕ) → up < down → placed n up down ≡ None
placed-false n up down h = let e : nat_le down up ≡ false = grind (arith, nat_tests) in ap (λ (b : Bool). if b then Some (n * 10 ^ (up - down)) else None) e

pos_worth : (n z : ℕ) → 0 < n % 10 → 0 < n * 10 ^ z
pos_worth n z some = let g : n ≤ n * 10 ^ z = le-times_ten n z in omega arith

scaled_within : (n z up down : ℕ) → 0 < n % 10 → down ≤ up → scaled (n * 10 ^ z) up down ≡ placed n (z + up) down
scaled_within n z up down some h =
    let e : z + (up - down) ≡ z + up - down = omega arith in
    scaled-up (n * 10 ^ z) up down (pos_worth n z some) h
    ∙ ap (λ (x : ℕ). Some x) (times_tens n z (up - down) ∙ ap (λ (k : ℕ). n * 10 ^ k) e)
    ∙ sym (placed-true n (z + up) down (omega arith))

scaled_taken : (n z up down : ℕ) → 0 < n % 10 → up < down → down ≤ z + up → scaled (n * 10 ^ z) up down ≡ placed n (z + up) down
scaled_taken n z up down some h k =
    let m = z + up - down in
    let d = down - up in
    let e : m + d ≡ z = omega arith in
    let v : n * 10 ^ m * 10 ^ d ≡ n * 10 ^ z = times_tens n m d ∙ ap (λ (x : ℕ). n * 10 ^ x) e in
    let r : n * 10 ^ z % 10 ^ d ≡ 0 = ap (λ (x : ℕ). x % 10 ^ d) (sym v) ∙ mul-mod_left (n * 10 ^ m) (10 ^ d) in
    let q : n * 10 ^ z / 10 ^ d ≡ n * 10 ^ m = ap (λ (x : ℕ). x / 10 ^ d) (sym v) ∙ mul-div_cancel (n * 10 ^ m) (ten_pos d) in
    scaled-down (n * 10 ^ z) up down true (pos_worth n z some) h (ap (λ (x : ℕ). x == 0) r)
    ∙ ap (λ (x : ℕ). Some x) q
    ∙ sym (placed-true n (z + up) down k)

scaled_broken : (n z up down : ℕ) → 0 < n % 10 → z + up < down → scaled (n * 10 ^ z) up down ≡ placed n (z + up) down
scaled_broken n z up down some h =
    let j = down - up - z - 1 in
    let e : suc j + z ≡ down - up = omega arith in
    let r : ((n * 10 ^ z % 10 ^ (down - up)) == 0) ≡ false = ne_eqb (n * 10 ^ z % 10 ^ (down - up)) 0 (λ (h : n * 10 ^ z % 10 ^ (down - up) ≡ 0). not_whole n z j some (ap (λ (k : ℕ). n * 10 ^ z % 10 ^ k) e ∙ h)) in
    scaled-down (n * 10 ^ z) up down false (pos_worth n z some) (omega arith) r
    ∙ sym (placed-false n (z + up) down h)

scaled_down : (n z up down : ℕ) → 0 < n % 10 → up < down → (z + up < down) ⊎ (down ≤ z + up) → scaled (n * 10 ^ z) up down ≡ placed n (z + up) down
scaled_down n z up down some h (inl k) = scaled_broken n z up down some k
scaled_down n z up down some h (inr k) = scaled_taken n z up down some h k

scaled_either : (n z up down : ℕ) → 0 < n % 10 → (up < down) ⊎ (down ≤ up) → scaled (n * 10 ^ z) up down ≡ placed n (z + up) down
scaled_either n z up down some (inl h) = scaled_down n z up down some h (cases_lt (z + up) down)
scaled_either n z up down some (inr h) = scaled_within n z up down some h

pub scaled-placed : (n z up down : ℕ) → 0 < n % 10 → scaled (n * 10 ^ z) up down ≡ placed n (z + up) down
scaled-placed n z up down some = scaled_either n z up down some (cases_lt up down)

-- a number past 64 bits stays past them, or is not whole
placed_wide : (n up down : ℕ) → 2 ^ 64 ≤ n → (up < down) ⊎ (down ≤ up) → option_and_then small (placed n up down) ≡ None
placed_wide n up down wide (inl h) = ap (option_and_then small) (placed-false n up down h)
placed_wide n up down wide (inr h) =
    let g : n ≤ n * 10 ^ (up - down) = le-times_ten n (up - down) in
    ap (option_and_then small) (placed-true n up down h) ∙ small-none (n * 10 ^ (up - down)) (omega arith)

pub placed-wide : (n up down : ℕ) → 2 ^ 64 ≤ n → option_and_then small (placed n up down) ≡ None
placed-wide n up down wide = placed_wide n up down wide (cases_lt up down)

placed-far : (n up down : ℕ) → 0 < n → down + 20 ≤ up → option_and_then small (placed n up down) ≡ None
placed-far n up down some h =
    ap (option_and_then small) (placed-true n up down (omega arith)) ∙ small-none (n * 10 ^ (up - down)) (far n (up - down) some (omega arith))

up_limit : (n z p down : ℕ) → 0 < n → down + 20 ≤ limit → (p < limit) ⊎ (limit ≤ p) → option_and_then small (placed n (z + min p limit) down) ≡ option_and_then small (placed n (z + p) down)
up_limit n z p down some h (inl k) = let g : p ≤ limit = omega arith in ap (λ (x : ℕ). option_and_then small (placed n (z + x) down)) (min-eq_left {n = p} {m = limit} g)
up_limit n z p down some h (inr k) =
    ap (λ (x : ℕ). option_and_then small (placed n (z + x) down)) (min-eq_right {n = limit} {m = p} k)
    ∙ placed-far n (z + limit) down some (omega arith)
    ∙ sym (placed-far n (z + p) down some (omega arith))

pub placed-up_limit : (n z p down : ℕ) → 0 < n → down + 20 ≤ limit → option_and_then small (placed n (z + min p limit) down) ≡ option_and_then small (placed n (z + p) down)
placed-up_limit n z p down some h = up_limit n z p down some h (cases_lt p limit)

down_limit : (n z p down : ℕ) → z < limit → (p < limit) ⊎ (limit ≤ p) → placed n z (down + min p limit) ≡ placed n z (down + p)
down_limit n z p down h (inl k) = let g : p ≤ limit = omega arith in ap (λ (x : ℕ). placed n z (down + x)) (min-eq_left {n = p} {m = limit} g)
down_limit n z p down h (inr k) =
    ap (λ (x : ℕ). placed n z (down + x)) (min-eq_right {n = limit} {m = p} k)
    ∙ placed-false n z (down + limit) (omega arith)
    ∙ sym (placed-false n z (down + p) (omega arith))

pub placed-down_limit : (n z p down : ℕ) → z < limit → placed n z (down + min p limit) ≡ placed n z (down + p)
placed-down_limit n z p down h = down_limit n z p down h (cases_lt p limit)
