-- A value is taken apart by a pattern of the code as by the pattern of the tree.
use Rattle.std.proofs.Common.{◌≡◌, ℕ, suc, ◌+◌, ◌&&◌, nat_eq, Bool, true, false, List, [], ◌∷◌, Option, Some, None, Result, Ok, Err, is_some, arith, eq-eqb, refl, sym, ap, ◌∙◌, subst, slice_get}
use Rattle.std.specs.List.{list_all}
use Rattle.std.specs.Option.{option_and_then}
use Rattle.std.proofs.lemmas.Bool.{eqb-true, eqb-false}
use Rattle.bqn_rows.specs.Raised.{Raised, raised}
use Rattle.bqn_rows.specs.Plain as plain
use Rattle.bqn_rows.specs.Plain.{Number, Character, Array, Given, Derived, Function, Modifier1, Modifier2, Namespace, Values, none, more, count}
use Rattle.bqn_syntax.specs.declared.token.Kind.{Kind}
use Rattle.bqn_syntax.specs.declared.token.Kind.TheVariants as kind
use Rattle.bqn_syntax.specs.declared.token.Token.{Token}
use Rattle.bqn_syntax.specs.declared.tree.Arrow.{Arrow}
use Rattle.bqn_syntax.specs.declared.tree.Arrow.TheVariants as arrow
use Rattle.bqn_syntax.specs.grammar.Trees as tree
use Rattle.bqn_syntax.specs.grammar.Trees.{no_patterns, and_patterns}
use Rattle.bqn_code.specs.Plain.{parts}
use Rattle.bqn_syntax.specs.scope.Order.{How, Reads, Defines, Exports, Changes, Shows, by_arrow}
use Rattle.bqn_syntax.specs.scope.Scope as scope
use Rattle.bqn_syntax.specs.scope.Scope.{name_of, has}
use Rattle.bqn_meaning.specs.Actions.{go_on, ◌>>=◌, pure, known, where_so}
use Rattle.bqn_meaning.specs.Environments as s
use Rattle.bqn_meaning.specs.Frames.{Setting, Frame, literal}
use Rattle.bqn_meaning.specs.Matching.{Fit, Fits, Mismatch, Missing, fields_of, field_in, store, store_named, literal_fit, and_fit, as_many, and_name, names_in, store_fields, fields_fit, fit, all_fit, must_fit, bind}
use Rattle.bqn_code.specs.declared.constant.Const.{Const}
use Rattle.bqn_code.specs.Plain as code
use Rattle.bqn_execution.specs.States as c
use Rattle.bqn_code.specs.Numbering.{Placed, Table}
use Rattle.bqn_execution.specs.Variables as v
use Rattle.bqn_execution.specs.Patterns as p
use Rattle.bqn_compile.specs.Counting.{in_leaves}
use Rattle.bqn_compile.specs.Pools.{constant_of, name_number, seen_at}
use Rattle.bqn_compile.specs.Patterns.{stored_leaf, literal_leaf, pattern_code, patterns_code}
use Rattle.bqn_rows.specs.Running.{Res, Gives, Ends, then_do}
use Rattle.bqn_simulation.specs.Views.{view, onto, Same}
use Rattle.bqn_simulation.proofs.running.Agree.{binds, pures, faults, where_same}
use Rattle.bqn_compile.proofs.verified.slots.Fronts.{some_same}
use Rattle.bqn_simulation.proofs.running.Variables.{Linked, over, changes, defines}
use Rattle.bqn_simulation.proofs.running.Fields.{Exporting, has_field, field_same}
use Rattle.bqn_simulation.proofs.running.Told as told

module _ (names : ℕ → List (List ℕ)) (tb : Table) (here : Placed) (uses : List scope.Use) (g : Setting) (f : Frame) (l : Linked names tb f.scopes) (x : Exporting names tb g.blocks) (a : Arrow) (cs : List Const) (ns : List (List ℕ)) where
  abbrev V : s.State → c.State
  V = view names

  abbrev F : v.Frame
  F = over here f

  abbrev coded : ℕ → tree.Pattern → code.Pattern
  coded k q = pattern_code uses cs ns (by_arrow a) k q

  abbrev all_coded : ℕ → tree.Patterns → code.Patterns
  all_coded k qs = code.patterns (patterns_code uses cs ns (by_arrow a) k qs)

  abbrev PatternTold : ℕ → tree.Pattern → Type 0
  PatternTold k q = told.PatternTold f.scopes uses here.code a cs ns k q

  abbrev PatternsTold : ℕ → tree.Patterns → Type 0
  PatternsTold k qs = told.PatternsTold f.scopes uses here.code a cs ns k qs

  -- ---- leaves

  leaf_stores : (k : ℕ) (name : ℕ) (y : Kind) → told.StoreTold f.scopes uses here.code a k y → (z : plain.Value) → Same V (store_named f a y z >>= (λ u. pure Fits)) (p.fit tb F (stored_leaf (by_arrow a) (seen_at uses k) name) z)
  leaf_stores k name y d z = by a y d
    where
      by : (b : Arrow) (y : Kind) → told.StoreTold f.scopes uses here.code b k y → Same V (store_named f b y z >>= (λ u. pure Fits)) (p.fit tb F (stored_leaf (by_arrow b) (seen_at uses k) name) z)
      by arrow.Change (kind.Word n r) d = binds V (changes names tb here f l n (seen_at uses k) d z) (λ u. pures V Fits)
      by arrow.Define (kind.Word n r) d = binds V (defines names tb here f l n (seen_at uses k) d.0 d.1 z) (λ u. pures V Fits)
      by arrow.Export (kind.Word n r) d = binds V (defines names tb here f l n (seen_at uses k) d.0 d.1 z) (λ u. pures V Fits)
      by arrow.Change _ d = elim d [ ]
      by arrow.Define _ d = elim d [ ]
      by arrow.Export _ d = elim d [ ]

  leaf_name : (how : How) (at : scope.Seen) (name : ℕ) → p.name_number (stored_leaf how at name) ≡ Some name
  leaf_name Reads at name = refl
  leaf_name Defines at name = refl
  leaf_name Exports at name = refl
  leaf_name Changes at name = refl
  leaf_name Shows at name = refl

  literal_same : (y : Kind) → told.LiteralTold f.scopes uses here.code cs (constant_of y) → (z : plain.Value) → Same V (known (literal_fit (literal y) z)) (p.fit tb F (literal_leaf cs (constant_of y)) z)
  literal_same (kind.Number n) d z = record { is = λ t. ap (λ o. Gives (raised (p.constant_fit o z)) (V t)) d }
  literal_same (kind.Char n) d z = record { is = λ t. ap (λ o. Gives (raised (p.constant_fit o z)) (V t)) d }
  literal_same (kind.Text n) d z = record { is = λ t. ap (λ o. Gives (raised (p.constant_fit o z)) (V t)) d }
  literal_same _ d z = elim d [ ]

  -- ---- lists

  differ : (m n : ℕ) → (m ≡ n → ⊥) → nat_eq m n ≡ false
  differ m n d = by (nat_eq m n) refl
    where
      by : (b : Bool) → nat_eq m n ≡ b → b ≡ false
      by true e = absurd (d (eqb-true m n e))
      by false e = refl

  more_same : (m n : ℕ) → nat_eq (suc m) (suc n) ≡ nat_eq m n
  more_same m n = by (nat_eq m n) refl
    where
      by : (b : Bool) → nat_eq m n ≡ b → nat_eq (suc m) (suc n) ≡ b
      by true e = eq-eqb (suc m) (suc n) (ap (λ k. suc k) (eqb-true m n e))
      by false e = differ (suc m) (suc n) (λ q. eqb-false m n e (omega (arith, q)))

  many_same : (k : ℕ) (qs : tree.Patterns) (xs : Values) → nat_eq (parts (all_coded k qs)) (count xs) ≡ as_many qs xs
  many_same k no_patterns none = refl
  many_same k no_patterns (more y xs) = differ 0 (suc (count xs)) (λ q. omega (arith, q))
  many_same k (and_patterns q qs) none = differ (suc (parts (all_coded (k + (in_leaves q).uses) qs))) 0 (λ e. omega (arith, e))
  many_same k (and_patterns q qs) (more y xs) = more_same (parts (all_coded (k + (in_leaves q).uses) qs)) (count xs) ∙ many_same (k + (in_leaves q).uses) qs xs

  -- ---- names, where each part is one

  word_of : (k : ℕ) (y : Kind) → told.StoreTold f.scopes uses here.code a k y → Unit {0}
  word_of k y d = tt

  names_same : (k : ℕ) (qs : tree.Patterns) → p.are_names (all_coded k qs) ≡ is_some (names_in qs)
  names_same k no_patterns = refl
  names_same k (and_patterns (tree.Name t) qs) =
      ap (λ o. is_some o && p.are_names (all_coded (k + (in_leaves (tree.Name t)).uses) qs)) (leaf_name (by_arrow a) (seen_at uses k) (name_number ns (name_of t)))
      ∙ names_same (k + (in_leaves (tree.Name t)).uses) qs ∙ and_some (names_in qs)
    where
      and_some : (o : Option (List Token)) → is_some o ≡ is_some (and_name (tree.Name t) o)
      and_some None = refl
      and_some (Some ts) = refl
  names_same k (and_patterns (tree.Skip place) qs) = refl
  names_same k (and_patterns (tree.Literal t) qs) = not_literal (constant_of t.kind)
    where
      not_literal : (o : Option Const) → (is_some (p.name_number (literal_leaf cs o)) && p.are_names (all_coded (k + (in_leaves (tree.Literal t)).uses) qs)) ≡ false
      not_literal None = refl
      not_literal (Some z) = refl
  names_same k (and_patterns (tree.ListPattern ps) qs) = refl
  names_same k (and_patterns (tree.StrandPattern ps) qs) = refl

  -- ---- fields: for each pattern a name

  -- these are the names of the patterns
  abbrev AreNames : tree.Patterns → List Token → Type 0
  AreNames no_patterns [] = Unit {0}
  AreNames (and_patterns (tree.Name t) qs) (u ∷ ts) = (t ≡ u) × AreNames qs ts
  AreNames _ _ = ⊥

  are_those : (qs : tree.Patterns) (ts : List Token) → names_in qs ≡ Some ts → AreNames qs ts
  are_those no_patterns [] e = tt
  are_those no_patterns (u ∷ ts) e = cc
  are_those (and_patterns (tree.Name t) qs) ts e = by (names_in qs) ts (λ us q. are_those qs us q) e
    where
      by : (o : Option (List Token)) (ts : List Token) → ((us : List Token) → o ≡ Some us → AreNames qs us) → and_name (tree.Name t) o ≡ Some ts → AreNames (and_patterns (tree.Name t) qs) ts
      by None ts h e = cc
      by (Some us) ts h e = subst (λ z. AreNames (and_patterns (tree.Name t) qs) z) (some_same e) (refl, h us refl)
  are_those (and_patterns (tree.Skip place) qs) ts e = cc
  are_those (and_patterns (tree.Literal t) qs) ts e = cc
  are_those (and_patterns (tree.ListPattern ps) qs) ts e = cc
  are_those (and_patterns (tree.StrandPattern ps) qs) ts e = cc

  name_is : (k : ℕ) (t : Token) → PatternTold k (tree.Name t) → p.name_of F (coded k (tree.Name t)) ≡ Some (name_of t)
  name_is k t d = ap (λ o. option_and_then (slice_get here.code.names) o) (leaf_name (by_arrow a) (seen_at uses k) (name_number ns (name_of t))) ∙ d.1

  have_same : (k : ℕ) (qs : tree.Patterns) (ts : List Token) → AreNames qs ts → PatternsTold k qs → (n : ℕ) (s : s.State) →
      p.has_fields tb F (V s) n (all_coded k qs) ≡ list_all (λ t. has (fields_of g.blocks n s) (name_of t)) ts
  have_same k no_patterns [] q d n s = refl
  have_same k no_patterns (u ∷ ts) q d n s = elim q [ ]
  have_same k (and_patterns (tree.Name t) qs) [] q d n s = elim q [ ]
  have_same k (and_patterns (tree.Name t) qs) (u ∷ ts) q d n s =
      ap (λ o. is_some (v.field_place tb (V s) n o) && p.has_fields tb F (V s) n (all_coded (k + (in_leaves (tree.Name t)).uses) qs)) (name_is k t d.0)
      ∙ (ap (λ b. b && p.has_fields tb F (V s) n (all_coded (k + (in_leaves (tree.Name t)).uses) qs)) (has_field names tb g.blocks x n (name_of t) s ∙ ap (λ z. has (fields_of g.blocks n s) (name_of z)) q.0)
      ∙ ap (λ b. has (fields_of g.blocks n s) (name_of u) && b) (have_same (k + (in_leaves (tree.Name t)).uses) qs ts q.1 d.1 n s))
  have_same k (and_patterns (tree.Skip place) qs) ts q d n s = elim q [ ]
  have_same k (and_patterns (tree.Literal t) qs) ts q d n s = elim q [ ]
  have_same k (and_patterns (tree.ListPattern ps) qs) ts q d n s = elim q [ ]
  have_same k (and_patterns (tree.StrandPattern ps) qs) ts q d n s = elim q [ ]

  -- a name that is stored into fits; and then comes the next
  then_fits : (k : ℕ) (t : Token) (m : s.Does Fit) (n : c.Does Fit) → told.StoreTold f.scopes uses here.code a k t.kind → Same V m n → (z : plain.Value) → Same V (store f a t z >>= (λ u. m)) (p.fit tb F (coded k (tree.Name t)) z >>= and_fit n)
  then_fits k t m n d e z = regrouped (binds V (leaf_stores k (name_number ns (name_of t)) t.kind d z) on)
    where
      on : (r : Fit) → Same V (and_fit m r) (and_fit n r)
      on Fits = e
      on Mismatch = pures V Mismatch
      on Missing = pures V Missing

      at : (r : Res s.State s.State (Result (Unit {0}) Raised)) → then_do (then_do r (go_on (λ u. pure Fits))) (go_on (and_fit m)) ≡ then_do r (go_on (λ u. m))
      at (Gives (Ok u) s) = refl
      at (Gives (Err y) s) = refl
      at (Ends s) = refl

      regrouped : Same V ((store f a t z >>= (λ u. pure Fits)) >>= and_fit m) (p.fit tb F (coded k (tree.Name t)) z >>= and_fit n) → Same V (store f a t z >>= (λ u. m)) (p.fit tb F (coded k (tree.Name t)) z >>= and_fit n)
      regrouped h = record { is = λ s. h.is s ∙ ap (onto V) (at (store f a t z s)) }

  stores_same : (k : ℕ) (qs : tree.Patterns) (ts : List Token) → AreNames qs ts → PatternsTold k qs → (n : ℕ) → Same V (store_fields g f a n ts) (p.fields_fit tb F (all_coded k qs) n)
  stores_same k no_patterns [] q d n = pures V Fits
  stores_same k no_patterns (u ∷ ts) q d n = elim q [ ]
  stores_same k (and_patterns (tree.Name t) qs) [] q d n = elim q [ ]
  stores_same k (and_patterns (tree.Name t) qs) (u ∷ ts) q d n =
      subst (λ z. Same V (store_fields g f a n (z ∷ ts)) (p.fields_fit tb F (all_coded k (and_patterns (tree.Name t) qs)) n)) q.0
      (binds V (subst (λ o. Same V (field_in g.blocks n (name_of t)) (v.field tb o (Namespace n))) (sym (name_is k t d.0)) (field_same names tb g.blocks x (name_of t) (Namespace n)))
      (λ z. then_fits k t (store_fields g f a n ts) (p.fields_fit tb F (all_coded (k + (in_leaves (tree.Name t)).uses) qs) n) d.0.0 (stores_same (k + (in_leaves (tree.Name t)).uses) qs ts q.1 d.1 n) z))
  stores_same k (and_patterns (tree.Skip place) qs) ts q d n = elim q [ ]
  stores_same k (and_patterns (tree.Literal t) qs) ts q d n = elim q [ ]
  stores_same k (and_patterns (tree.ListPattern ps) qs) ts q d n = elim q [ ]
  stores_same k (and_patterns (tree.StrandPattern ps) qs) ts q d n = elim q [ ]

  fields_same : (k : ℕ) (qs : tree.Patterns) → PatternsTold k qs → (n : ℕ) →
      Same V (fields_fit g f a (names_in qs) n) (where_so Mismatch (λ s. where_so Missing (p.fields_fit tb F (all_coded k qs) n) (p.has_fields tb F s n (all_coded k qs)) s) (p.are_names (all_coded k qs)))
  fields_same k qs d n = by (names_in qs) refl
    where
      by : (o : Option (List Token)) → names_in qs ≡ o → Same V (fields_fit g f a o n) (where_so Mismatch (λ s. where_so Missing (p.fields_fit tb F (all_coded k qs) n) (p.has_fields tb F s n (all_coded k qs)) s) (p.are_names (all_coded k qs)))
      by None e = record { is = λ s. ap (λ b. where_so {S = c.State} Mismatch (λ s. where_so Missing (p.fields_fit tb F (all_coded k qs) n) (p.has_fields tb F s n (all_coded k qs)) s) b (V s)) (names_same k qs ∙ ap is_some e) }
      by (Some ts) e = record {
        is = λ s.
            ap (λ b. where_so {S = c.State} Mismatch (λ s. where_so Missing (p.fields_fit tb F (all_coded k qs) n) (p.has_fields tb F s n (all_coded k qs)) s) b (V s)) (names_same k qs ∙ ap is_some e)
            ∙ (ap (λ b. where_so {S = c.State} Missing (p.fields_fit tb F (all_coded k qs) n) b (V s)) (have_same k qs ts (are_those qs ts e) d n s)
            ∙ (where_same V Missing (stores_same k qs ts (are_those qs ts e) d n) (list_all (λ t. has (fields_of g.blocks n s) (name_of t)) ts)).is s);
      }

  -- ---- all patterns

  fits_then : (m : s.Does Fit) (n : c.Does Fit) → Same V m n → (r : Fit) → Same V (and_fit m r) (and_fit n r)
  fits_then m n e Fits = e
  fits_then m n e Mismatch = pures V Mismatch
  fits_then m n e Missing = pures V Missing

  list_same : (k : ℕ) (qs : tree.Patterns) → PatternsTold k qs → ((xs : Values) → Same V (all_fit g f a qs xs) (p.all_fit tb F (all_coded k qs) xs)) → (z : plain.Value) → Same V (fit g f a (tree.ListPattern qs) z) (p.fit tb F (code.ListPattern (all_coded k qs)) z)
  list_same k qs d all (Array (n ∷ []) xs fill) =
      subst (λ b. Same V (where_so Mismatch (all_fit g f a qs xs) (as_many qs xs)) (where_so Mismatch (p.all_fit tb F (all_coded k qs) xs) b)) (sym (many_same k qs xs))
      (where_same V Mismatch (all xs) (as_many qs xs))
  list_same k qs d all (Namespace n) = fields_same k qs d n
  list_same k qs d all (Array [] xs fill) = pures V Mismatch
  list_same k qs d all (Array (m ∷ n ∷ ns) xs fill) = pures V Mismatch
  list_same k qs d all (Number n) = pures V Mismatch
  list_same k qs d all (Character n) = pures V Mismatch
  list_same k qs d all (Given n) = pures V Mismatch
  list_same k qs d all (Derived n xs) = pures V Mismatch
  list_same k qs d all (Function b e xs) = pures V Mismatch
  list_same k qs d all (Modifier1 b e) = pures V Mismatch
  list_same k qs d all (Modifier2 b e) = pures V Mismatch

  mutual
    pub fit_same : (k : ℕ) (q : tree.Pattern) → PatternTold k q → (z : plain.Value) → Same V (fit g f a q z) (p.fit tb F (coded k q) z)
    fit_same k (tree.Name t) d z = leaf_stores k (name_number ns (name_of t)) t.kind d.0 z
    fit_same k (tree.Skip place) d z = pures V Fits
    fit_same k (tree.Literal t) d z = literal_same t.kind d z
    fit_same k (tree.ListPattern qs) d z = list_same k qs d (λ xs. all_same k qs d xs) z
    fit_same k (tree.StrandPattern qs) d z = list_same k qs d (λ xs. all_same k qs d xs) z

    all_same : (k : ℕ) (qs : tree.Patterns) → PatternsTold k qs → (xs : Values) → Same V (all_fit g f a qs xs) (p.all_fit tb F (all_coded k qs) xs)
    all_same k no_patterns d xs = pures V Fits
    all_same k (and_patterns q qs) d none = pures V Fits
    all_same k (and_patterns q qs) d (more y xs) = binds V (fit_same k q d.0 y) (λ r. fits_then _ _ (all_same (k + (in_leaves q).uses) qs d.1 xs) r)

  pub bind_same : (k : ℕ) (q : tree.Pattern) → PatternTold k q → (z : plain.Value) → Same V (bind g f a q z) (p.bind tb F (coded k q) z)
  bind_same k q d z = binds V (fit_same k q d z) must
    where
      must : (r : Fit) → Same V (must_fit r) (must_fit r)
      must Fits = pures V tt
      must Mismatch = faults V _
      must Missing = faults V _
