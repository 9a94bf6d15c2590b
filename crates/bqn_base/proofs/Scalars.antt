-- A code is a character's where 32 bits hold it and it is a scalar value.
use Rattle.std.proofs.Common.{◌≡◌, ◌<◌, ◌^◌, ℕ, ℤ, pos, negsuc, Bool, true, false, Option, Some, None, Ok, Err, refl, ap, sym, ◌∙◌, arith}
use Rattle.std.specs.Prelude.{SomeIff, ◌≤ℤ◌, ◌<ℤ◌, nat_abs}
use Rattle.std.specs.Option.{ok_or}
use Rattle.std.specs.Char.{IsScalar}
use Rattle.std.specs.Int.{w32, FitsUnsigned}
use Rattle.std.proofs.lemmas.Int.{ints}
use lib.Utf8.{scalar, scalar_fits}
use Rattle.bqn_base.specs.declared.fault.Fault.TheVariants.{CharRange}
use Rattle.bqn_base.specs.Shifts.{if_scalar, character_at}

no-scalar : (b : Bool) (c : ℕ) → ¬ (b ≡ true) → if_scalar b c ≡ Err CharRange
no-scalar true c h = absurd (h refl)
no-scalar false c h = refl

ok_or-scalar : (r : Option ℕ) (c : ℕ) → SomeIff r (IsScalar c) c → ok_or r CharRange ≡ character_at (pos c)
ok_or-scalar None c h = sym (no-scalar (scalar c) c h)
ok_or-scalar (Some x) c h = ap (λ (y : ℕ). Ok y) h.1 ∙ sym (ap (λ (b : Bool). if_scalar b c) h.0)

pub shift-known : (r : Option ℕ) (z : ℤ) (c : ℕ) → SomeIff r (IsScalar c) c → FitsUnsigned w32 z → c ≡ nat_abs z → ok_or r CharRange ≡ character_at z
shift-known r (pos n) c h f e = ok_or-scalar r c h ∙ ap (λ (k : ℕ). character_at (pos k)) e
shift-known r (negsuc n) c h f e = absurd f.0.le

positive : (n : ℕ) → pos 0 ≤ℤ pos n
positive n = grind (arith, ints)

pub shift-unknown : (z : ℤ) → ¬ (FitsUnsigned w32 z) → character_at z ≡ Err CharRange
shift-unknown (pos n) h = no-scalar (scalar n) n (λ s. h (positive n, let l = scalar_fits n s in grind (arith, ints)))
shift-unknown (negsuc n) h = refl

pub ruleset scalar_laws = (shift-known, shift-unknown)
