-- Carriage returns before line feeds, dropped as the characters come.
use Rattle.std.proofs.Common.{◌≡◌, ◌≤◌, ◌<◌, ◌-◌, ◌+◌, ℕ, zero, suc, List, [], ◌∷◌, ◌++◌, Bool, true, false, Option, Some, None, length, take, get_or, slice_get, refl, sym, ap, ◌∙◌, arith}
use Rattle.std.proofs.lemmas.Bool.{eqb-true}
use Rattle.std.specs.Prelude.{◌==◌, ◌&&◌, ◌||◌, nat_eq, if◌then◌else◌}
use Rattle.std.specs.List.{list_any}
use Rattle.std.proofs.lemmas.List.{take_more, take_all}
use Rattle.bqn_syntax.specs.text.Text.{without_returns, is_dropped}
use Rattle.bqn_token.specs.Tokenizing.{without_last_return, with_character}

abbrev kept_if : Bool → ℕ → List ℕ → List ℕ
kept_if dropped c rest = elim dropped [ true ↦ rest | false ↦ c ∷ rest ]

some_kept : (c : ℕ) (cs : List ℕ) → 0 < length (without_returns (c ∷ cs))
some_kept c [] = omega arith
some_kept c (d ∷ ds) = at (is_dropped c (d ∷ ds)) (some_kept d ds)
  where
    at : (dropped : Bool) → 0 < length (without_returns (d ∷ ds)) → 0 < length (kept_if dropped c (without_returns (d ∷ ds)))
    at true lt = lt
    at false lt = omega arith

-- a character is added behind the first one
with_character-cons : (y c : ℕ) (w : List ℕ) → 0 < length w → with_character (y ∷ w) c ≡ y ∷ with_character w c
with_character-cons y c [] lt = absurd (omega arith)
with_character-cons y c (x ∷ xs) lt = at (c == 10)
  where
    at : (feed : Bool) → (if feed then without_last_return (y ∷ x ∷ xs) else y ∷ x ∷ xs) ++ c ∷ [] ≡ y ∷ ((if feed then without_last_return (x ∷ xs) else x ∷ xs) ++ c ∷ [])
    at true = refl
    at false = refl

with_character-one : (y c : ℕ) → kept_if ((y == 13) && (c == 10)) y (c ∷ []) ≡ with_character (y ∷ []) c
with_character-one y c = at (y == 13) (c == 10)
  where
    at : (return feed : Bool) → kept_if (return && feed) y (c ∷ []) ≡ (if feed then (if return then [] else y ∷ []) else y ∷ []) ++ c ∷ []
    at true true = refl
    at true false = refl
    at false true = refl
    at false false = refl

with_character-nil : (c : ℕ) → c ∷ [] ≡ with_character [] c
with_character-nil c = at (c == 10)
  where
    at : (feed : Bool) → c ∷ [] ≡ (if feed then [] else []) ++ c ∷ []
    at true = refl
    at false = refl

pub without_returns-push : (cs : List ℕ) (c : ℕ) → without_returns (cs ++ c ∷ []) ≡ with_character (without_returns cs) c
without_returns-push [] c = with_character-nil c
without_returns-push (y ∷ []) c = with_character-one y c
without_returns-push (y ∷ z ∷ zs) c = at (is_dropped y (z ∷ zs)) (without_returns-push (z ∷ zs) c)
  where
    at : (dropped : Bool) → without_returns ((z ∷ zs) ++ c ∷ []) ≡ with_character (without_returns (z ∷ zs)) c
        → kept_if dropped y (without_returns ((z ∷ zs) ++ c ∷ [])) ≡ with_character (kept_if dropped y (without_returns (z ∷ zs))) c
    at true e = e
    at false e = ap (λ (w : List ℕ). y ∷ w) e ∙ sym (with_character-cons y c (without_returns (z ∷ zs)) (some_kept z zs))

return_at : (cs : List ℕ) (i : ℕ) → i + 1 ≡ length cs → slice_get cs i ≡ Some 13 → without_last_return cs ≡ take i cs
return_at [] i l e = absurd (omega arith)
return_at (c ∷ []) zero l e = ap (λ (o : Option ℕ). elim o [ None ↦ [] | Some x ↦ (if x == 13 then [] else x ∷ []) ]) e
return_at (c ∷ []) (suc i) l e = absurd (omega arith)
return_at (c ∷ d ∷ cs) zero l e = absurd (omega arith)
return_at (c ∷ d ∷ cs) (suc i) l e = ap (λ (w : List ℕ). c ∷ w) (return_at (d ∷ cs) i (omega arith) e)

pub without_last_return-return : (cs : List ℕ) → slice_get cs (length cs - 1) ≡ Some 13 → without_last_return cs ≡ take (length cs - 1) cs
without_last_return-return [] e = cc
without_last_return-return (c ∷ cs) e = return_at (c ∷ cs) (length (c ∷ cs) - 1) (omega arith) e

not_return : (c : ℕ) (b : Bool) → (c == 13) ≡ b → (c ≡ 13 → ⊥) → (if c == 13 then [] else c ∷ []) ≡ c ∷ []
not_return c true e n = absurd (n (eqb-true c 13 e))
not_return c false e n = ap (λ (b : Bool). if b then [] else c ∷ []) e

other_at : (cs : List ℕ) (i c : ℕ) → i + 1 ≡ length cs → slice_get cs i ≡ Some c → (c ≡ 13 → ⊥) → without_last_return cs ≡ cs
other_at [] i c l e n = absurd (omega arith)
other_at (d ∷ []) zero c l e n =
    let same : d ≡ c = cc in
    not_return d (d == 13) refl (λ is. n (sym same ∙ is))
other_at (d ∷ []) (suc i) c l e n = absurd (omega arith)
other_at (d ∷ x ∷ cs) zero c l e n = absurd (omega arith)
other_at (d ∷ x ∷ cs) (suc i) c l e n = ap (λ (w : List ℕ). d ∷ w) (other_at (x ∷ cs) i c (omega arith) e n)

pub without_last_return-other : (cs : List ℕ) (c : ℕ) → slice_get cs (length cs - 1) ≡ Some c → (c ≡ 13 → ⊥) → without_last_return cs ≡ cs
without_last_return-other [] c e n = cc
without_last_return-other (x ∷ cs) c e n = other_at (x ∷ cs) (length (x ∷ cs) - 1) c (omega arith) e n

missing : (cs : List ℕ) (i : ℕ) → i < length cs → slice_get cs i ≡ None → ⊥
missing [] i lt e = omega arith
missing (c ∷ cs) zero lt e = let p : Some c ≡ None = e in cc
missing (c ∷ cs) (suc i) lt e = missing cs i (omega arith) e

pub without_last_return-none : (cs : List ℕ) → slice_get cs (length cs - 1) ≡ None → without_last_return cs ≡ cs
without_last_return-none [] e = refl
without_last_return-none (c ∷ cs) e = absurd (missing (c ∷ cs) (length (c ∷ cs) - 1) (omega arith) e)

pub ruleset last_laws = (without_last_return-return, without_last_return-other, without_last_return-none)

-- where no character is a carriage return, none is dropped
pub without_returns-none : (cs : List ℕ) → list_any (λ c. nat_eq c 13) cs ≡ false → without_returns cs ≡ cs
without_returns-none [] none = refl
without_returns-none (c ∷ cs) none = at (c == 13) refl none (without_returns-none cs)
  where
    kept : (ds : List ℕ) → (c == 13) ≡ false → is_dropped c ds ≡ false
    kept [] e = refl
    kept (d ∷ ds) e = ap (λ (b : Bool). b && (d == 10)) e

    at : (return : Bool) → (c == 13) ≡ return → (return || list_any (λ x. nat_eq x 13) cs) ≡ false → (list_any (λ x. nat_eq x 13) cs ≡ false → without_returns cs ≡ cs)
        → without_returns (c ∷ cs) ≡ c ∷ cs
    at true e one rest = cc
    at false e one rest = ap (λ (b : Bool). kept_if b c (without_returns cs)) (kept cs e) ∙ ap (λ (w : List ℕ). c ∷ w) (rest one)

pub without_returns-take : (cs : List ℕ) (i c : ℕ) → i < length cs → c ≡ get_or cs i c → with_character (without_returns (take i cs)) c ≡ without_returns (take (i + 1) cs)
without_returns-take cs i c lt at =
    sym (without_returns-push (take i cs) c) ∙ ap (λ (x : ℕ). without_returns (take i cs ++ x ∷ [])) at ∙ ap (λ (w : List ℕ). without_returns w) (sym (take_more cs i c lt))

pub without_returns-all : (cs : List ℕ) (i : ℕ) → length cs ≤ i → without_returns (take i cs) ≡ without_returns cs
without_returns-all cs i le = ap (λ (w : List ℕ). without_returns w) (take_all i cs le)

pub ruleset return_laws = (without_returns-none, without_returns-take, without_returns-all)
