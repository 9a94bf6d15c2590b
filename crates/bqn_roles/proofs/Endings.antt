-- The last character of a word.
use Rattle.std.proofs.Common.{◌≡◌, ◌-◌, ◌+◌, ◌<◌, ℕ, zero, suc, false, List, [], ◌∷◌, length, refl, ap, arith, Option, Some, None, slice_get}
use Rattle.std.specs.Prelude.{◌==◌}
use Rattle.bqn_base.specs.Characters.{underscore}
use Rattle.bqn_syntax.specs.text.Words.{ends_in_underscore}

ends-at : (word : List ℕ) (i c : ℕ) → i + 1 ≡ length word → slice_get word i ≡ Some c → ends_in_underscore word ≡ (c == underscore)
ends-at [] i c l e = absurd (omega arith)
ends-at (x ∷ []) zero c l e = ap (λ (o : Option ℕ). elim o [ None ↦ x == underscore | Some y ↦ y == underscore ]) e
ends-at (x ∷ []) (suc i) c l e = absurd (omega arith)
ends-at (x ∷ y ∷ cs) zero c l e = absurd (omega arith)
ends-at (x ∷ y ∷ cs) (suc i) c l e = ends-at (y ∷ cs) i c (omega arith) e

pub ends_in_underscore-some : (word : List ℕ) (c : ℕ) → slice_get word (length word - 1) ≡ Some c → ends_in_underscore word ≡ (c == underscore)
ends_in_underscore-some [] c e = absurd (let p : None ≡ Some c = e in cc)
ends_in_underscore-some (x ∷ cs) c e = ends-at (x ∷ cs) (length (x ∷ cs) - 1) c (omega arith) e

pub ends_in_underscore-none : (word : List ℕ) → slice_get word (length word - 1) ≡ None → ends_in_underscore word ≡ false
ends_in_underscore-none [] e = refl
ends_in_underscore-none (x ∷ cs) e = absurd (missing (x ∷ cs) (length (x ∷ cs) - 1) (omega arith) e)
  where
    missing : (word : List ℕ) (i : ℕ) → i < length word → slice_get word i ≡ None → ⊥
    missing [] i lt p = omega arith
    missing (y ∷ ys) zero lt p = let q : Some y ≡ None = p in cc
    missing (y ∷ ys) (suc i) lt p = missing ys i (omega arith) p

pub ruleset ending_laws = (ends_in_underscore-some, ends_in_underscore-none)
