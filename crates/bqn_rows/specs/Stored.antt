-- A plain value as a tree of numbers, which no two values share: by this it can be what contracts see of a type of the program.
use Rattle.std.specs.Prelude.{◌≡◌, refl}
use Rattle.std.proofs.Common.{ap}
use base.Stored.{Gv, gnil, gnum, gcons, Coded, coded_ℕ, coded_ℤ, coded_list}
use Rattle.bqn_rows.specs.Plain.{Maker, One, Two, Atop, Fork, Value, Number, Character, Array, Given, Derived, Function, Modifier1, Modifier2, Namespace, Values, none, more, Fill, unfilled, filled}

abbrev pub stored_maker : Maker → Gv
stored_maker (One n) = gcons (gnum 0) (gnum n)
stored_maker (Two n) = gcons (gnum 1) (gnum n)
stored_maker Atop = gnum 2
stored_maker Fork = gnum 3

abbrev mutual
  pub stored : Value → Gv
  stored (Number n) = gcons (gnum 0) (coded_ℤ.code n)
  stored (Character c) = gcons (gnum 1) (gnum c)
  stored (Array shape xs f) = gcons (gnum 2) (gcons ((coded_list coded_ℕ).code shape) (gcons (all_stored xs) (stored_fill f)))
  stored (Given code) = gcons (gnum 3) (gnum code)
  stored (Derived maker parts) = gcons (gnum 4) (gcons (stored_maker maker) (all_stored parts))
  stored (Function block environment operands) = gcons (gnum 5) (gcons (gnum block) (gcons (gnum environment) (all_stored operands)))
  stored (Modifier1 block environment) = gcons (gnum 6) (gcons (gnum block) (gnum environment))
  stored (Modifier2 block environment) = gcons (gnum 7) (gcons (gnum block) (gnum environment))
  stored (Namespace environment) = gcons (gnum 8) (gnum environment)

  pub all_stored : Values → Gv
  all_stored none = gnil
  all_stored (more x xs) = gcons (stored x) (all_stored xs)

  pub stored_fill : Fill → Gv
  stored_fill unfilled = gnil
  stored_fill (filled v) = gcons gnil (stored v)

-- ---- no two values are stored alike

abbrev left : Gv → Gv
left (gcons a b) = a
left _ = gnil

abbrev right : Gv → Gv
right (gcons a b) = b
right _ = gnil

maker-stored : (m n : Maker) → stored_maker m ≡ stored_maker n → m ≡ n
maker-stored (One n) (One m) p = ap One (coded_ℕ.inj n m (ap right p))
maker-stored (Two n) (Two m) p = ap Two (coded_ℕ.inj n m (ap right p))
maker-stored Atop Atop p = refl
maker-stored Fork Fork p = refl
maker-stored _ _ p = cc

mutual
  pub value-stored : (w x : Value) → stored w ≡ stored x → w ≡ x
  value-stored (Number n) (Number m) p = ap Number (coded_ℤ.inj n m (ap right p))
  value-stored (Character n) (Character m) p = ap Character (coded_ℕ.inj n m (ap right p))
  value-stored (Array s ws f) (Array t xs g) p =
      λ i. Array ((coded_list coded_ℕ).inj s t (ap (λ c. left (right c)) p) i) (row-stored ws xs (ap (λ c. left (right (right c))) p) i)
      (fill-stored f g (ap (λ c. right (right (right c))) p) i)
  value-stored (Given n) (Given m) p = ap Given (coded_ℕ.inj n m (ap right p))
  value-stored (Derived m ps) (Derived n qs) p = λ i. Derived (maker-stored m n (ap (λ c. left (right c)) p) i)
      (row-stored ps qs (ap (λ c. right (right c)) p) i)
  value-stored (Function b e ps) (Function c f qs) p =
      λ i. Function (coded_ℕ.inj b c (ap (λ c. left (right c)) p) i) (coded_ℕ.inj e f (ap (λ c. left (right (right c))) p) i)
      (row-stored ps qs (ap (λ c. right (right (right c))) p) i)
  value-stored (Modifier1 b e) (Modifier1 c f) p = λ i. Modifier1 (coded_ℕ.inj b c (ap (λ c. left (right c)) p) i)
      (coded_ℕ.inj e f (ap (λ c. right (right c)) p) i)
  value-stored (Modifier2 b e) (Modifier2 c f) p = λ i. Modifier2 (coded_ℕ.inj b c (ap (λ c. left (right c)) p) i)
      (coded_ℕ.inj e f (ap (λ c. right (right c)) p) i)
  value-stored (Namespace n) (Namespace m) p = ap Namespace (coded_ℕ.inj n m (ap right p))
  value-stored _ _ p = cc

  pub row-stored : (ws xs : Values) → all_stored ws ≡ all_stored xs → ws ≡ xs
  row-stored none none p = refl
  row-stored (more w ws) (more x xs) p = λ i. more (value-stored w x (ap left p) i) (row-stored ws xs (ap right p) i)
  row-stored _ _ p = cc

  pub fill-stored : (f g : Fill) → stored_fill f ≡ stored_fill g → f ≡ g
  fill-stored unfilled unfilled p = refl
  fill-stored (filled w) (filled x) p = ap filled (value-stored w x (ap right p))
  fill-stored _ _ p = cc

abbrev pub coded_value : Coded Value
coded_value = record { code = stored; inj = value-stored }

abbrev pub coded_row : Coded Values
coded_row = record { code = all_stored; inj = row-stored }

abbrev pub coded_fill : Coded Fill
coded_fill = record { code = stored_fill; inj = fill-stored }
