-- What a body exports: variables that it has, under names that differ and are pooled.
use Rattle.std.proofs.Common.{◌≡◌, ℕ, ◌||◌, not, if◌then◌else◌, Bool, true, false, List, [], ◌∷◌, ◌++◌, length, map, slice_get, Option, Some, None, refl, sym, ap, ◌∙◌, nat_lt}
use Rattle.std.specs.List.{list_all, list_any}
use Rattle.std.specs.Cmp.Lexicographic.{nat_list_eq_equiv}
use Rattle.std.proofs.lemmas.Bool.{false≢true, lt-ltb}
use Rattle.std.proofs.lemmas.List.Folds.{list_all-map}
use Rattle.bqn_syntax.specs.scope.Mentions.{Named, Special, System, Inner, Mentions, no_mentions, and_mentions}
use Rattle.bqn_syntax.specs.scope.Scope.{name_of, same_name, has, place_of}
use Rattle.bqn_syntax.specs.scope.Bodies.{exports_it, at_slot, exports_of}
use Rattle.bqn_code.specs.Numbering.{same_name as same_spelling}
use Rattle.bqn_code.specs.Conditions.{are_distinct}
use Rattle.bqn_compile.specs.Pools.{name_number, or_none}
use Rattle.bqn_compile.specs.Bodies.{exports_code}
use Rattle.bqn_compile.proofs.verified.Tests.{both_true, left_true, right_true, all_append}
use Rattle.bqn_compile.proofs.verified.slots.Fronts.{placed, place_spells, place_below}
use Rattle.bqn_compile.proofs.verified.slots.Walking.{Made, Pooled}

same_turned : (a b : List ℕ) → same_name a b ≡ same_name b a
same_turned a b = nat_list_eq_equiv.symm a b

neither : (a b : Bool) → (a || b) ≡ false → (a ≡ false) × (b ≡ false)
neither true b h = absurd (false≢true (sym h))
neither false b h = (refl, h)

none_of : (a b : Bool) → a ≡ false → b ≡ false → (a || b) ≡ false
none_of true b h k = h
none_of false b h k = k

abbrev names_in : List (List ℕ × ℕ) → List (List ℕ)
names_in es = map (λ e. e.0) es

-- their names differ
abbrev Differ : List (List ℕ × ℕ) → Type 0
Differ [] = Unit {0}
Differ (e ∷ es) = (has (names_in es) e.0 ≡ false) × Differ es

has_one_more : (es : List (List ℕ × ℕ)) (x : List ℕ × ℕ) (name : List ℕ) → has (names_in es) name ≡ false → same_name x.0 name ≡ false → has (names_in (es ++ x ∷ [])) name ≡ false
has_one_more [] x name h k = none_of (same_name x.0 name) false k refl
has_one_more (e ∷ es) x name h k = let q : (same_name e.0 name ≡ false) × (has (names_in es) name ≡ false) = neither _ _ h in none_of (same_name e.0 name) _ q.0 (has_one_more es x name q.1 k)

differ_one_more : (es : List (List ℕ × ℕ)) (x : List ℕ × ℕ) → Differ es → has (names_in es) x.0 ≡ false → Differ (es ++ x ∷ [])
differ_one_more [] x d h = (refl, tt)
differ_one_more (e ∷ es) x d h =
    let q : (same_name e.0 x.0 ≡ false) × (has (names_in es) x.0 ≡ false) = neither _ _ h in
    (has_one_more es x e.0 d.0 (same_turned x.0 e.0 ∙ q.0), differ_one_more es x d.1 q.1)

module _ (o : Made) (names : List (List ℕ)) where
  -- what is exported so far
  pub record Exported (es : List (List ℕ × ℕ)) : Type 0 where
    pub below : list_all (λ (e : List ℕ × ℕ). nat_lt e.1 (length names)) es ≡ true
    pub differ : Differ es
    pub pooled : list_all (λ (e : List ℕ × ℕ). has o.pools.names e.0) es ≡ true

  one_more : (es : List (List ℕ × ℕ)) (name : List ℕ) (place : Option ℕ) → place_of names name ≡ place → has o.pools.names name ≡ true → has (names_in es) name ≡ false → Exported es → Exported (at_slot name place es)
  one_more es name None e p h x = x
  one_more es name (Some slot) e p h x = record {
    below = all_append (λ (y : List ℕ × ℕ). nat_lt y.1 (length names)) es ((name, slot) ∷ []) x.below (both_true _ _ (lt-ltb slot (length names) (place_below names name slot e)) refl);
    differ = differ_one_more es (name, slot) x.differ h;
    pooled = all_append (λ (y : List ℕ × ℕ). has o.pools.names y.0) es ((name, slot) ∷ []) x.pooled (both_true _ _ p refl);
  }

  exported_more : (ms : Mentions) (es : List (List ℕ × ℕ)) → Pooled o ms → Exported es → Exported (exports_of names ms es)
  exported_more no_mentions es p x = x
  exported_more (and_mentions (Special t) ms) es p x = exported_more ms es p x
  exported_more (and_mentions (System t) ms) es p x = exported_more ms es p x
  exported_more (and_mentions (Inner bs) ms) es p x = exported_more ms es p x
  exported_more (and_mentions (Named how t) ms) es p x = by (exports_it how) refl (has (names_in es) (name_of t)) refl (λ fs y. exported_more ms fs p.1 y)
    where
      by : (b : Bool) → exports_it how ≡ b → (c : Bool) → has (names_in es) (name_of t) ≡ c → ((fs : List (List ℕ × ℕ)) → Exported fs → Exported (exports_of names ms fs)) →
          Exported (if b then (if c then exports_of names ms es else exports_of names ms (at_slot (name_of t) (place_of names (name_of t)) es)) else exports_of names ms es)
      by true e true h rest = rest es x
      by true e false h rest = rest _ (one_more es (name_of t) (place_of names (name_of t)) refl (p.0 e) h x)
      by false e c h rest = rest es x

  pub all_exported : (ms : Mentions) → Pooled o ms → Exported (exports_of names ms [])
  all_exported ms p = exported_more ms [] p (record { below = refl; differ = tt; pooled = refl })

-- ---- by number

module _ (pool : List (List ℕ)) where
  numbered : (name : List ℕ) → has pool name ≡ true → slice_get pool (name_number pool name) ≡ Some name
  numbered name h =
      let p : (k : ℕ) × (place_of pool name ≡ Some k) = placed pool name h in
      ap (λ (x : Option ℕ). slice_get pool (or_none x)) p.1 ∙ place_spells pool name p.0 p.1

  any_same : (name : List ℕ) (es : List (List ℕ × ℕ)) → list_all (λ (e : List ℕ × ℕ). has pool e.0) es ≡ true → has (names_in es) name ≡ false → list_any (λ (other : ℕ × ℕ). same_spelling (Some name) (slice_get pool other.0)) (exports_code pool es) ≡ false
  any_same name [] p h = refl
  any_same name (e ∷ es) p h =
      let q : (same_name e.0 name ≡ false) × (has (names_in es) name ≡ false) = neither _ _ h in
      none_of _ _ (ap (λ (x : Option (List ℕ)). same_spelling (Some name) x) (numbered e.0 (left_true _ _ p)) ∙ same_turned name e.0 ∙ q.0) (any_same name es (right_true (has pool e.0) _ p) q.1)

  pub numbers_differ : (es : List (List ℕ × ℕ)) → list_all (λ (e : List ℕ × ℕ). has pool e.0) es ≡ true → Differ es → are_distinct pool (exports_code pool es) ≡ true
  numbers_differ [] p d = refl
  numbers_differ (e ∷ es) p d =
      let here : slice_get pool (name_number pool e.0) ≡ Some e.0 = numbered e.0 (left_true _ _ p) in
      let others : list_all (λ (e : List ℕ × ℕ). has pool e.0) es ≡ true = right_true (has pool e.0) _ p in
      both_true _ _
      (ap (λ (x : Option (List ℕ)). not (list_any (λ (other : ℕ × ℕ). same_spelling x (slice_get pool other.0)) (exports_code pool es))) here ∙ ap not (any_same e.0 es others d.0))
      (numbers_differ es others d.1)

  pub slots_below : (n : ℕ) (es : List (List ℕ × ℕ)) → list_all (λ (e : List ℕ × ℕ). nat_lt e.1 n) es ≡ true → list_all (λ (e : ℕ × ℕ). nat_lt e.1 n) (exports_code pool es) ≡ true
  slots_below n es h = list_all-map (λ (e : ℕ × ℕ). nat_lt e.1 n) (λ (e : List ℕ × ℕ). (name_number pool e.0, e.1)) es ∙ h
