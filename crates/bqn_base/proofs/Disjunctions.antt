-- The or of two numbers of 64 bits is one of 128 bits, and so are its parts.
use Rattle.std.proofs.Common.{◌≡◌, ◌<◌, ◌≤◌, ◌^◌, ◌+◌, ◌*◌, ℕ, zero, suc, ℤ, pos, negsuc, refl, ap, sym, ◌∙◌, arith, to_z, of_z}
use Rattle.std.specs.Prelude.{FitsSigned, nat_abs, unsigned_abs, ◌+ℤ◌, ◌-ℤ◌, ◌*ℤ◌}
use Rattle.std.specs.Int.{w64, w128}
use Rattle.std.proofs.lemmas.Int.{ints, to_z-of_z, unsigned_abs-mul, fits_signed_from_abs}
use Rattle.std.proofs.Math.Nat.{mul-le-mul}

size : (x : ℤ) → FitsSigned w64 x → unsigned_abs x ≤ 2 ^ 63
size (pos n) f = let k = f.sfits in omega arith
size (negsuc n) f = let k = f.sfits in omega arith

product-size : (w x : ℤ) → FitsSigned w64 w → FitsSigned w64 x → unsigned_abs (w *ℤ x) ≤ 2 ^ 126
product-size w x f g =
    let p : unsigned_abs w * unsigned_abs x ≤ 2 ^ 63 * 2 ^ 63 = mul-le-mul (size w f) (size x g) in
    let e = unsigned_abs-mul w x in
    omega arith

sum-size : (a b : ℤ) (m n : ℕ) → unsigned_abs a ≤ m → unsigned_abs b ≤ n → unsigned_abs (a +ℤ b) ≤ m + n
sum-size a b m n h k = omega (arith, ints)

difference-size : (a b : ℤ) (m n : ℕ) → unsigned_abs a ≤ m → unsigned_abs b ≤ n → unsigned_abs (a -ℤ b) ≤ m + n
difference-size a b m n h k = omega (arith, ints)

kept : (z : ℤ) → unsigned_abs z < 2 ^ 127 → to_z w128 (of_z w128 z) ≡ z
kept z h = to_z-of_z w128 z (fits_signed_from_abs w128 z h)

abbrev pub wide : ℤ → ℤ
wide z = to_z w128 (of_z w128 z)

pub wide-or : (w x a b : ℤ) → FitsSigned w64 w → FitsSigned w64 x → a ≡ w → b ≡ x → wide (wide (a +ℤ b) -ℤ wide (a *ℤ b)) ≡ (w +ℤ x) -ℤ (w *ℤ x)
wide-or w x a b f g h k =
    let p = product-size w x f g in
    let l = sum-size w x (2 ^ 63) (2 ^ 63) (size w f) (size x g) in
    let d = difference-size (w +ℤ x) (w *ℤ x) (2 ^ 63 + 2 ^ 63) (2 ^ 126) l p in
    let s : wide (w +ℤ x) ≡ w +ℤ x = kept (w +ℤ x) (omega arith) in
    let q : wide (w *ℤ x) ≡ w *ℤ x = kept (w *ℤ x) (omega arith) in
    ap (λ (z : ℤ). wide (wide (z +ℤ b) -ℤ wide (z *ℤ b))) h
    ∙ ap (λ (z : ℤ). wide (wide (w +ℤ z) -ℤ wide (w *ℤ z))) k
    ∙ ap (λ (z : ℤ). wide (z -ℤ wide (w *ℤ x))) s
    ∙ ap (λ (z : ℤ). wide ((w +ℤ x) -ℤ z)) q
    ∙ kept ((w +ℤ x) -ℤ (w *ℤ x)) (omega arith)
