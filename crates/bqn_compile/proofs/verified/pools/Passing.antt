-- What is pooled passes tests that the tokens pass, and there is no more of it than tokens, nor than there is room for.
use Rattle.std.proofs.Common.{◌≡◌, ◌≤◌, ◌<◌, ◌+◌, ℕ, suc, nat_lt, Bool, true, false, List, [], ◌∷◌, ◌++◌, length, Option, Some, None, Ok, arith, refl, subst}
use Rattle.std.specs.List.{list_all}
use Rattle.std.proofs.lemmas.Bool.{ltb-true}
use Rattle.std.proofs.lemmas.List.{length-append}
use Rattle.bqn_base.specs.declared.place.Place.{Place}
use Rattle.bqn_syntax.specs.declared.token.Kind.{Kind}
use Rattle.bqn_syntax.specs.declared.token.Kind.TheVariants as kind
use Rattle.bqn_syntax.specs.declared.token.Token.{Token}
use Rattle.bqn_syntax.specs.grammar.Trees.{Pattern, Name, Skip, Literal, ListPattern, StrandPattern, Patterns, no_patterns, and_patterns}
use Rattle.bqn_syntax.specs.scope.Order.{How}
use Rattle.bqn_syntax.specs.scope.Scope as scope
use Rattle.bqn_syntax.specs.scope.Scope.{has, defines, name_of}
use Rattle.bqn_syntax.specs.scope.Bodies.{exports_it}
use Rattle.bqn_code.specs.declared.constant.Const.{Const}
use Rattle.bqn_compile.specs.Pools.{constant_of, place_among, seen_at}
use Rattle.bqn_compile.specs.Gathering as gather
use Rattle.bqn_compile.specs.Gathering.{Gathered, Gathers, Most, done, ◌▹◌, if_room}
use Rattle.bqn_compile.proofs.verified.Tests.{both_true, all_append}
use Rattle.bqn_compile.proofs.verified.pools.Items.{Item, Alone, Fields, Taken, Opened, Shown, EveryItem, item_gathering, items_gathering}
use Rattle.bqn_compile.proofs.verified.pools.Growth.{ok_same, between, roomed}
use Rattle.bqn_compile.proofs.verified.pools.SpelledItems.{pattern_size, patterns_size, more_size, item_size, items_size}

one_more : {A : Type 0} (test : A → Bool) (xs : List A) (x : A) → list_all test xs ≡ true → test x ≡ true → list_all test (xs ++ x ∷ []) ≡ true
one_more test xs x h e = all_append test xs (x ∷ []) h (both_true (test x) true e refl)

room_is : (b : Bool) (place : Place) (g h : Gathered) → if_room b place g ≡ Ok h → b ≡ true
room_is true place g h e = refl
room_is false place g h e = absurd (cc)

abbrev mutual
  -- how many names a pattern has
  leaf_names : Pattern → ℕ
  leaf_names (Name t) = 1
  leaf_names (Skip place) = 0
  leaf_names (Literal t) = 1
  leaf_names (ListPattern qs) = all_leaf_names qs
  leaf_names (StrandPattern qs) = all_leaf_names qs

  all_leaf_names : Patterns → ℕ
  all_leaf_names no_patterns = 0
  all_leaf_names (and_patterns q qs) = leaf_names q + all_leaf_names qs

mutual
  few_leaf_names : (q : Pattern) → leaf_names q ≤ pattern_size q
  few_leaf_names (Name t) = omega arith
  few_leaf_names (Skip place) = omega arith
  few_leaf_names (Literal t) = omega arith
  few_leaf_names (ListPattern qs) = omega (arith, few_all_names qs)
  few_leaf_names (StrandPattern qs) = few_all_names qs

  few_all_names : (qs : Patterns) → all_leaf_names qs ≤ patterns_size qs
  few_all_names no_patterns = omega arith
  few_all_names (and_patterns q qs) = omega (arith, few_leaf_names q, few_more_names qs)

  few_more_names : (qs : Patterns) → all_leaf_names qs ≤ more_size qs
  few_more_names no_patterns = omega arith
  few_more_names (and_patterns q qs) = omega (arith, few_leaf_names q, few_more_names qs)

module _ (m : Most) (constant : Const → Bool) (name : List ℕ → Bool) where
  -- ---- what passes

  abbrev pub ConstantPasses : Option Const → Type 0
  ConstantPasses None = Unit {0}
  ConstantPasses (Some c) = constant c ≡ true

  abbrev pub KindPasses : Kind → Type 0
  KindPasses (kind.Word n r) = name n ≡ true
  KindPasses k = ConstantPasses (constant_of k)

  -- a name by itself is pooled where it is exported
  abbrev pub AlonePasses : How → Kind → Type 0
  AlonePasses how (kind.Word n r) = exports_it how ≡ true → name n ≡ true
  AlonePasses how k = ConstantPasses (constant_of k)

  abbrev mutual
    pub PatternPasses : Pattern → Type 0
    PatternPasses (Name t) = KindPasses t.kind
    PatternPasses (Skip place) = Unit {0}
    PatternPasses (Literal t) = KindPasses t.kind
    PatternPasses (ListPattern qs) = PatternsPass qs
    PatternPasses (StrandPattern qs) = PatternsPass qs

    pub PatternsPass : Patterns → Type 0
    PatternsPass no_patterns = Unit {0}
    PatternsPass (and_patterns q qs) = PatternPasses q × PatternsPass qs

  abbrev pub FieldsPass : List Token → Type 0
  FieldsPass [] = Unit {0}
  FieldsPass (t ∷ ts) = (name (name_of t) ≡ true) × FieldsPass ts

  abbrev mutual
    pub ExportedPasses : Pattern → Type 0
    ExportedPasses (Name t) = name (name_of t) ≡ true
    ExportedPasses (Skip place) = Unit {0}
    ExportedPasses (Literal t) = Unit {0}
    ExportedPasses (ListPattern qs) = AllExportedPass qs
    ExportedPasses (StrandPattern qs) = AllExportedPass qs

    pub AllExportedPass : Patterns → Type 0
    AllExportedPass no_patterns = Unit {0}
    AllExportedPass (and_patterns q qs) = ExportedPasses q × AllExportedPass qs

  abbrev pub ItemPasses : Item → Type 0
  ItemPasses (Alone how t) = AlonePasses how t.kind
  ItemPasses (Fields ts) = FieldsPass ts
  ItemPasses (Taken l how q) = PatternPasses q
  ItemPasses (Opened place n) = Unit {0}
  ItemPasses (Shown q) = ExportedPasses q

  -- ---- steps

  -- with at most so many more names
  pub record Passes (n : ℕ) (g h : Gathered) : Type 0 where
    pub constants : list_all constant g.constants ≡ true → list_all constant h.constants ≡ true
    pub names : list_all name g.names ≡ true → list_all name h.names ≡ true
    pub few_constants : length g.constants ≤ m.constants → length h.constants ≤ m.constants
    pub few_names : length h.names ≤ length g.names + n

  abbrev PassesBy : ℕ → Gathers → Type 0
  PassesBy n f = (g h : Gathered) → f g ≡ Ok h → Passes n g h

  done_passes : PassesBy 0 done
  done_passes g h e = subst (λ (h : Gathered). Passes 0 g h) (ok_same g h e) (record { constants = λ p. p; names = λ p. p; few_constants = λ p. p; few_names = omega arith })

  both_pass : (n k : ℕ) (f then' : Gathers) → PassesBy n f → PassesBy k then' → PassesBy (n + k) (f ▹ then')
  both_pass n k f then' a b g h e =
      let o = between (f g) then' h e in
      let x = a g o.middle o.first in
      let y = b o.middle h o.second in
      record { constants = λ p. y.constants (x.constants p); names = λ p. y.names (x.names p); few_constants = λ p. y.few_constants (x.few_constants p); few_names = omega (arith, x.few_names, y.few_names) }

  at_most : (n k : ℕ) (f : Gathers) → n ≤ k → PassesBy n f → PassesBy k f
  at_most n k f l a g h e = let x = a g h e in record { constants = x.constants; names = x.names; few_constants = x.few_constants; few_names = omega (arith, x.few_names, l) }

  constant_passes : (o : Option Const) (place : Place) → ConstantPasses o → PassesBy 0 (gather.constant m o place)
  constant_passes None place p g h e = done_passes g h e
  constant_passes (Some c) place p g h e = by (place_among g.constants c) e
    where
      by : (o : Option ℕ) → gather.add_constant m c place o g ≡ Ok h → Passes 0 g h
      by (Some n) e = done_passes g h e
      by None e =
          let o = between (if_room (nat_lt (length g.constants) m.constants) place g) (λ (g : Gathered). Ok (record g { constants = g.constants ++ c ∷ [] })) h e in
          subst (λ (h : Gathered). Passes 0 g h) (roomed _ place (λ (g : Gathered). record g { constants = g.constants ++ c ∷ [] }) g h e) (record {
            constants = λ q. one_more constant g.constants c q p;
            names = λ q. q;
            few_constants = λ q. let r : length g.constants < m.constants = ltb-true (length g.constants) m.constants (room_is (nat_lt (length g.constants) m.constants) place g o.middle o.first) in omega (arith, length-append g.constants (c ∷ []), r);
            few_names = omega arith;
          })

  pooled_passes : (n : List ℕ) → name n ≡ true → PassesBy 1 (gather.pooled n)
  pooled_passes n p g h e = by (has g.names n) e
    where
      by : (b : Bool) → gather.add_name b n g ≡ Ok h → Passes 1 g h
      by true e = at_most 0 1 done (omega arith) done_passes g h e
      by false e = subst (λ (h : Gathered). Passes 1 g h) (ok_same _ h e) (record {
        constants = λ q. q;
        names = λ q. one_more name g.names n q p;
        few_constants = λ q. q;
        few_names = omega (arith, length-append g.names (n ∷ []));
      })

  pooled_if_passes : (b : Bool) (n : List ℕ) → (b ≡ true → name n ≡ true) → PassesBy 1 (gather.pooled_if b n)
  pooled_if_passes true n p = pooled_passes n (p refl)
  pooled_if_passes false n p = at_most 0 1 done (omega arith) done_passes

  module _ (uses : List scope.Use) where
    refers_passes : (defining : Bool) (place : Place) → PassesBy 0 (gather.refers m uses defining place)
    refers_passes defining place g h e =
        subst (λ (h : Gathered). Passes 0 g h) (roomed (gather.room_for m defining (seen_at uses g.uses).slot) place (λ (g : Gathered). record g { uses = suc g.uses }) g h e)
        (record { constants = λ q. q; names = λ q. q; few_constants = λ q. q; few_names = omega arith })

    leaf_passes : (how : How) (k : Kind) (place : Place) → AlonePasses how k → PassesBy 1 (gather.leaf m uses how k place)
    leaf_passes how (kind.Word n r) place p = both_pass 0 1 (gather.refers m uses (defines how) place) (gather.pooled_if (exports_it how) n) (refers_passes (defines how) place) (pooled_if_passes (exports_it how) n p)
    leaf_passes how k place p = at_most 0 1 (gather.constant m (constant_of k) place) (omega arith) (constant_passes (constant_of k) place p)

    pattern_leaf_passes : (how : How) (k : Kind) (place : Place) → KindPasses k → PassesBy 1 (gather.pattern_leaf m uses how k place)
    pattern_leaf_passes how (kind.Word n r) place p = both_pass 0 1 (gather.refers m uses (defines how) place) (gather.pooled n) (refers_passes (defines how) place) (pooled_passes n p)
    pattern_leaf_passes how k place p = at_most 0 1 (gather.constant m (constant_of k) place) (omega arith) (constant_passes (constant_of k) place p)

    fields_pass : (ts : List Token) → FieldsPass ts → PassesBy (length ts) (gather.fields ts)
    fields_pass [] p = done_passes
    fields_pass (t ∷ ts) p = at_most (1 + length ts) (length (t ∷ ts)) (gather.fields (t ∷ ts)) (omega arith) (both_pass 1 (length ts) (gather.pooled (name_of t)) (gather.fields ts) (pooled_passes (name_of t) p.0) (fields_pass ts p.1))

    mutual
      exported_passes : (q : Pattern) → ExportedPasses q → PassesBy (leaf_names q) (gather.exported q)
      exported_passes (Name t) p = pooled_passes (name_of t) p
      exported_passes (Skip place) p = done_passes
      exported_passes (Literal t) p = at_most 0 1 done (omega arith) done_passes
      exported_passes (ListPattern qs) p = all_exported_pass qs p
      exported_passes (StrandPattern qs) p = all_exported_pass qs p

      all_exported_pass : (qs : Patterns) → AllExportedPass qs → PassesBy (all_leaf_names qs) (gather.all_exported qs)
      all_exported_pass no_patterns p = done_passes
      all_exported_pass (and_patterns q qs) p = both_pass (leaf_names q) (all_leaf_names qs) (gather.exported q) (gather.all_exported qs) (exported_passes q p.0) (all_exported_pass qs p.1)

    mutual
      leaves_pass : (how : How) (q : Pattern) → PatternPasses q → PassesBy (leaf_names q) (gather.leaves m uses how q)
      leaves_pass how (Name t) p = pattern_leaf_passes how t.kind t.place p
      leaves_pass how (Skip place) p = done_passes
      leaves_pass how (Literal t) p = pattern_leaf_passes how t.kind t.place p
      leaves_pass how (ListPattern qs) p = all_leaves_pass how qs p
      leaves_pass how (StrandPattern qs) p = all_leaves_pass how qs p

      all_leaves_pass : (how : How) (qs : Patterns) → PatternsPass qs → PassesBy (all_leaf_names qs) (gather.all_leaves m uses how qs)
      all_leaves_pass how no_patterns p = done_passes
      all_leaves_pass how (and_patterns q qs) p = both_pass (leaf_names q) (all_leaf_names qs) (gather.leaves m uses how q) (gather.all_leaves m uses how qs) (leaves_pass how q p.0) (all_leaves_pass how qs p.1)

    pattern_passes : (how : How) (q : Pattern) → PatternPasses q → PassesBy (leaf_names q) (gather.pattern m uses how q)
    pattern_passes how q p g h e =
        let o = between (gather.leaves m uses how q g) (gather.with_pattern uses how q g.uses) h e in
        let x = leaves_pass how q p g o.middle o.first in
        subst (λ (h : Gathered). Passes (leaf_names q) g h) (ok_same _ h o.second) (record { constants = x.constants; names = x.names; few_constants = x.few_constants; few_names = x.few_names })

    opens_passes : (place : Place) → PassesBy 1 (gather.opens m place)
    opens_passes place g h e =
        subst (λ (h : Gathered). Passes 1 g h) (roomed (nat_lt g.blocks (suc m.blocks)) place (λ (g : Gathered). record g { blocks = suc g.blocks }) g h e)
        (record { constants = λ q. q; names = λ q. q; few_constants = λ q. q; few_names = omega arith })

    item_passes : (x : Item) → ItemPasses x → PassesBy (item_size x) (item_gathering m uses x)
    item_passes (Alone how t) p = leaf_passes how t.kind t.place p
    item_passes (Fields ts) p = fields_pass ts p
    item_passes (Taken l how q) p = at_most (leaf_names q) (pattern_size q) (gather.pattern m uses how q) (few_leaf_names q) (pattern_passes how q p)
    item_passes (Opened place n) p = opens_passes place
    item_passes (Shown q) p = at_most (leaf_names q) (pattern_size q) (gather.exported q) (few_leaf_names q) (exported_passes q p)

    pub all_pass : (xs : List Item) → EveryItem ItemPasses xs → PassesBy (items_size xs) (items_gathering m uses xs)
    all_pass [] p = done_passes
    all_pass (x ∷ xs) p = both_pass (item_size x) (items_size xs) (item_gathering m uses x) (items_gathering m uses xs) (item_passes x p.0) (all_pass xs p.1)
