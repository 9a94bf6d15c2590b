-- The walk over patterns: what their leaves store into is there, and each pattern stands in the pool where the code names it.
use Rattle.std.proofs.Common.{◌≡◌, ℕ, ◌+◌, ◌<◌, Bool, true, false, List, [], ◌∷◌, ◌++◌, length, slice_get, Option, Some, None, Ok, arith, refl, sym, subst, ap, ◌∙◌, length-append}
use Rattle.std.proofs.lemmas.Bool.{false≢true}
use Rattle.bqn_base.specs.declared.place.Place.{Place}
use Rattle.bqn_syntax.specs.declared.token.Kind.{Kind}
use Rattle.bqn_syntax.specs.declared.token.Kind.TheVariants as kind
use Rattle.bqn_syntax.specs.declared.token.Token.{Token}
use Rattle.bqn_syntax.specs.declared.tree.Arrow.{Arrow}
use Rattle.bqn_syntax.specs.declared.tree.Arrow.TheVariants as arrow
use Rattle.bqn_syntax.specs.declared.sort.Tag.TheVariants as tag
use Rattle.bqn_syntax.specs.grammar.Trees.{Pattern, Name, Skip, Literal, ListPattern, StrandPattern, Patterns, no_patterns, and_patterns}
use Rattle.bqn_syntax.specs.grammar.Sorts.{is_word}
use Rattle.bqn_syntax.specs.grammar.Well.{WellPattern, WellPatterns, WellJoined, IsLiteral, IsTarget}
use Rattle.bqn_syntax.specs.scope.Order.{How, Defines, Exports, Changes, Shows, by_arrow}
use Rattle.bqn_syntax.specs.scope.Mentions.{Named, Mentions, leaf_mention, pattern_mentions, patterns_mentions}
use Rattle.bqn_syntax.specs.scope.Scope.{Seen, name_of, spelling, defines}
use Rattle.bqn_code.specs.declared.constant.Const.{Const}
use Rattle.bqn_code.specs.declared.instr.Instr.TheVariants as i
use Rattle.bqn_code.specs.Plain as code
use Rattle.bqn_code.specs.Standing.{Standing, standing, slots_up}
use Rattle.bqn_code.specs.Conditions.{is_below, has_slot, leaf_has_slot, pattern_passes, leaves as leaves_pass, all_leaves as all_leaves_pass}
use Rattle.bqn_compile.specs.declared.count.Count.{Count}
use Rattle.bqn_compile.specs.Counting.{nothing, past, in_kind, in_leaves, in_all_leaves, in_pattern, in_target}
use Rattle.bqn_compile.specs.Pools.{constant_of, seen_at, name_number}
use Rattle.bqn_compile.specs.Patterns.{pattern_code, patterns_code, stored_leaf, literal_leaf}
use Rattle.bqn_compile.specs.Expressions.{load, store, target_instr}
use Rattle.bqn_compile.specs.Gathering.{Gathered, the_most, pooled, pattern_leaf, with_pattern, leaves, all_leaves, pattern, target, exported, all_exported}
use Rattle.bqn_compile.specs.Translation.{setting}
use Rattle.bqn_compile.proofs.verified.Tests.{both_true}
use Rattle.bqn_compile.proofs.verified.slots.Fronts.{Front, front_same, front_more, front_at, at_end}
use Rattle.bqn_compile.proofs.verified.slots.Seeing.{ok_same, IsUse}
use Rattle.bqn_compile.proofs.verified.slots.Walking.{split, Grown, grown_trans, pooled_there, Made, the_code, AllPlaced, Passes, Fits, Here, State, Walked, Walk, both, because, skip}
use Rattle.bqn_compile.proofs.verified.slots.NameWalks.{Keeps, pool_keeps, uses, named_walk, constant_walk, judged_walk, TokenFits, word_fits, name_word, token_walk}

no_pattern : (k : Kind) → (in_kind k).patterns ≡ 0
no_pattern (kind.Word name r) = refl
no_pattern _ = refl

mutual
  no_patterns_inside : (q : Pattern) → (in_leaves q).patterns ≡ 0
  no_patterns_inside (Name t) = no_pattern t.kind
  no_patterns_inside (Skip place) = refl
  no_patterns_inside (Literal t) = refl
  no_patterns_inside (ListPattern qs) = none_inside qs
  no_patterns_inside (StrandPattern qs) = none_inside qs

  none_inside : (qs : Patterns) → (in_all_leaves qs).patterns ≡ 0
  none_inside no_patterns = refl
  none_inside (and_patterns q qs) = omega (arith, no_patterns_inside q, none_inside qs)

joined_well : (literals : Bool) (qs : Patterns) → WellJoined literals qs → WellPatterns literals qs
joined_well literals no_patterns w = tt
joined_well literals (and_patterns q qs) w = (w.1, joined_well literals qs w.2)

module _ (o : Made) where
  -- what a pattern stores into in the body with this number is there
  record Stores (n : ℕ) (p : code.Pattern) : Type 0 where
    pub all : AllPlaced o → (b : Standing) → b.number ≡ n → leaves_pass (leaf_has_slot (the_code o) b) p ≡ true

  record AllStore (n : ℕ) (ps : code.Patterns) : Type 0 where
    pub all : AllPlaced o → (b : Standing) → b.number ≡ n → all_leaves_pass (leaf_has_slot (the_code o) b) ps ≡ true

  -- the slots of this pattern are there, whatever pools it is coded with
  abbrev PatternStores : Here o → How → ℕ → Pattern → Type 0
  PatternStores h how k q = (cs : List Const) (ns : List (List ℕ)) → Stores h.number (pattern_code (uses o) cs ns how k q)

  abbrev PatternsStore : Here o → How → ℕ → Patterns → Type 0
  PatternsStore h how k qs = (cs : List Const) (ns : List (List ℕ)) → AllStore h.number (code.patterns (patterns_code (uses o) cs ns how k qs))

  below_at : (how : How) (n : ℕ) (at : Seen) → Fits o how n at → AllPlaced o → (b : Standing) → b.number ≡ n → has_slot (the_code o) b at.up at.slot ≡ true
  below_at how n at f all b e = subst (λ (k : ℕ). is_below at.slot (slots_up (standing (the_code o)) at.up k) ≡ true) (sym e) (f.below all)

  own_at : (how : How) (n : ℕ) (at : Seen) → Fits o how n at → defines how ≡ true → AllPlaced o → (b : Standing) → b.number ≡ n → has_slot (the_code o) b 0 at.slot ≡ true
  own_at how n at f d all b e = subst (λ (up : ℕ). has_slot (the_code o) b up at.slot ≡ true) (f.own d) (below_at how n at f all b e)

  -- stored into, rather than read
  abbrev pub IsStore : How → Type 0
  IsStore Defines = Unit {0}
  IsStore Exports = Unit {0}
  IsStore Changes = Unit {0}
  IsStore _ = ⊥

  leaf_stores : (how : How) → IsStore how → (n : ℕ) (at : Seen) (name : ℕ) → Fits o how n at → Stores n (stored_leaf how at name)
  leaf_stores Defines w n at name f = record { all = own_at Defines n at f refl }
  leaf_stores Exports w n at name f = record { all = own_at Exports n at f refl }
  leaf_stores Changes w n at name f = record { all = below_at Changes n at f }
  leaf_stores _ w n at name f = elim w [ ]

  literal_stores : (n : ℕ) (cs : List Const) (c : Option Const) → Stores n (literal_leaf cs c)
  literal_stores n cs None = record { all = λ all b e. refl }
  literal_stores n cs (Some c) = record { all = λ all b e. refl }

  -- ---- leaves

  pub is_use : (how : How) → IsStore how → IsUse how
  is_use Shows w = elim w [ ]
  is_use _ w = tt

  name_walk : (h : Here o) (how : How) → IsStore how → (k : Kind) (t : Token) → spelling k ≡ name_of t → is_word k ≡ true → Walk o h (pattern_leaf the_most (uses o) how k t.place) (λ ms. leaf_mention how k t ms) (in_kind k) (TokenFits o h how k)
  name_walk h how is (kind.Word name r) t e w = named_walk o h how (is_use how is) t (defines how) t.place (pooled name) (λ g g' q. subst (λ l. Keeps how l g g') e (pool_keeps how name g g' q))
  name_walk h how is _ t e w = absurd (false≢true w)

  literal_walk : (h : Here o) (how : How) (k : Kind) (place : Place) → IsLiteral k → Walk o h (pattern_leaf the_most (uses o) how k place) (λ ms. ms) nothing (λ c. Unit {0})
  literal_walk h how (kind.Number z) place w = constant_walk o h (kind.Number z) place
  literal_walk h how (kind.Char z) place w = constant_walk o h (kind.Char z) place
  literal_walk h how (kind.Text z) place w = constant_walk o h (kind.Text z) place
  literal_walk h how _ place w = elim w [ ]

  mutual
    leaves_walk : (h : Here o) (how : How) → IsStore how → (literals : Bool) (q : Pattern) → WellPattern literals q → Walk o h (leaves the_most (uses o) how q) (λ ms. pattern_mentions how q ms) (in_leaves q) (λ c. PatternStores h how c.uses q)
    leaves_walk h how is literals (Name t) w = because o (λ c f cs ns. leaf_stores how is h.number (seen_at (uses o) c.uses) (name_number ns (name_of t)) (word_fits o h how t.kind c w f)) (name_walk h how is t.kind t refl w)
    leaves_walk h how is literals (Skip place) w = because o (λ c f cs ns. record { all = λ all b e. refl }) (skip o {h = h})
    leaves_walk h how is literals (Literal t) w = because o (λ c f cs ns. literal_stores h.number cs (constant_of t.kind)) (literal_walk h how t.kind t.place w.1)
    leaves_walk h how is literals (ListPattern qs) w = because o (λ c f cs ns. record { all = λ all b e. (f cs ns).all all b e }) (all_leaves_walk h how is literals qs w)
    leaves_walk h how is literals (StrandPattern qs) w = because o (λ c f cs ns. record { all = λ all b e. (f cs ns).all all b e }) (all_leaves_walk h how is literals qs (joined_well literals qs w.1))

    all_leaves_walk : (h : Here o) (how : How) → IsStore how → (literals : Bool) (qs : Patterns) → WellPatterns literals qs → Walk o h (all_leaves the_most (uses o) how qs) (λ ms. patterns_mentions how qs ms) (in_all_leaves qs) (λ c. PatternsStore h how c.uses qs)
    all_leaves_walk h how is literals no_patterns w = because o (λ c f cs ns. record { all = λ all b e. refl }) (skip o {h = h})
    all_leaves_walk h how is literals (and_patterns q qs) w = because o (λ c f cs ns. record { all = λ all b e. both_true _ _ ((f.0 cs ns).all all b e) ((f.1 cs ns).all all b e) }) (both o (leaves_walk h how is literals q w.0) (all_leaves_walk h how is literals qs w.1))

  -- ---- patterns

  abbrev pub IsNamed : Here o → Count → Type 0
  IsNamed h c = Passes o h.number (i.Bind c.patterns ∷ []) × Passes o h.number (i.Match c.patterns ∷ [])

  pattern_there : (h : Here o) (c : Count) (p : code.Pattern) → slice_get o.pools.patterns c.patterns ≡ Some p → Stores h.number p → IsNamed h c
  pattern_there h c p e s = (record { all = λ all b q. both_true _ _ (there all b q) refl }, record { all = λ all b q. both_true _ _ (there all b q) refl })
    where
      there : AllPlaced o → (b : Standing) → b.number ≡ h.number → pattern_passes (leaves_pass (leaf_has_slot (the_code o) b)) (slice_get o.pools.patterns c.patterns) ≡ true
      there all b q = subst (λ (z : Option code.Pattern). pattern_passes (leaves_pass (leaf_has_slot (the_code o) b)) z ≡ true) (sym e) (s.all all b q)

  behind_zero : (n a b : ℕ) → n ≡ a + b → n ≡ a + (0 + b)
  behind_zero n a b h = omega arith

  behind_one : (n m a b : ℕ) → n ≡ m + 1 → m ≡ a + b → n ≡ a + (1 + b)
  behind_one n m a b h k = omega arith

  none_between : (m a b : ℕ) → m ≡ a + b → b ≡ 0 → m ≡ a
  none_between m a b h k = omega arith

  pub pattern_walk : (h : Here o) (how : How) → IsStore how → (literals : Bool) (q : Pattern) → WellPattern literals q → Walk o h (pattern the_most (uses o) how q) (λ ms. pattern_mentions how q ms) (in_pattern q) (IsNamed h)
  pattern_walk h how is literals q w = record { run = go }
    where
      go : (k : Mentions) (c : Count) (g g' : Gathered) → State o h (pattern_mentions how q k) c g → pattern the_most (uses o) how q g ≡ Ok g' → Walked o h (pattern_mentions how q k) k (past c (in_pattern q)) g g' (IsNamed h c)
      go k c g g' st e =
          let s : (mid : Gathered) × (leaves the_most (uses o) how q g ≡ Ok mid) × (with_pattern (uses o) how q g.uses mid ≡ Ok g') = split (leaves the_most (uses o) how q g) (with_pattern (uses o) how q g.uses) g' e in
          let x : Walked o h (pattern_mentions how q k) k (past c (in_leaves q)) g s.0 (PatternStores h how c.uses q) = (leaves_walk h how is literals q w).run k c g s.0 st s.1 in
          let p : code.Pattern = pattern_code (uses o) s.0.constants s.0.names how g.uses q in
          let now : record s.0 { patterns = s.0.patterns ++ p ∷ [] } ≡ g' = ok_same s.2 in
          let all : g'.patterns ≡ s.0.patterns ++ p ∷ [] = sym (ap (λ (z : Gathered). z.patterns) now) in
          let more : Grown s.0 g' = record { names = subst (λ (z : Gathered). Front s.0.names z.names) now (front_same s.0.names); patterns = subst (λ (z : Gathered). Front s.0.patterns z.patterns) now (front_more s.0.patterns (p ∷ [])) } in
          let y : State o h k (past c (in_leaves q)) s.0 = x.state in
          record {
            state = record {
              before = y.before;
              resolves = y.resolves;
              uses = behind_zero (length y.before) c.uses (in_leaves q).uses y.uses;
              found = y.found;
              numbers = y.numbers;
              bodies = behind_zero (length y.found) c.bodies (in_leaves q).bodies y.bodies;
              some = subst (λ (n : ℕ). 0 < n) (behind_zero (c.bodies + (in_leaves q).bodies) c.bodies (in_leaves q).bodies refl) y.some;
              patterns = behind_one (length g'.patterns) (length s.0.patterns) c.patterns (in_leaves q).patterns (ap (λ l. length l) all ∙ length-append s.0.patterns (p ∷ [])) y.patterns;
              gathered = behind_zero g'.uses c.uses (in_leaves q).uses (sym (ap (λ (z : Gathered). z.uses) now) ∙ y.gathered);
              defined = y.defined;
            };
            grows = grown_trans x.grows more;
            pooled = λ z v. x.pooled (grown_trans more z) v;
            facts = λ z.
                let at : slice_get g'.patterns (length s.0.patterns) ≡ Some p = subst (λ l. slice_get l (length s.0.patterns) ≡ Some p) (sym all) (at_end s.0.patterns p []) in
                let place : length s.0.patterns ≡ c.patterns = none_between (length s.0.patterns) c.patterns (in_leaves q).patterns y.patterns (no_patterns_inside q) in
                pattern_there h c p (subst (λ n. slice_get o.pools.patterns n ≡ Some p) place (front_at (length s.0.patterns) p z.patterns at))
                (subst (λ n. Stores h.number (pattern_code (uses o) s.0.constants s.0.names how n q)) (sym st.gathered) (x.facts (grown_trans more z) s.0.constants s.0.names));
          }

  -- ---- targets

  pub is_store : (a : Arrow) → IsStore (by_arrow a)
  is_store arrow.Define = tt
  is_store arrow.Export = tt
  is_store arrow.Change = tt

  pub store_passes : (a : Arrow) (n : ℕ) (at : Seen) → Fits o (by_arrow a) n at → Passes o n (store a at ∷ [])
  store_passes arrow.Define n at f = record { all = λ all b e. both_true _ _ (own_at Defines n at f refl all b e) refl }
  store_passes arrow.Export n at f = record { all = λ all b e. both_true _ _ (own_at Exports n at f refl all b e) refl }
  store_passes arrow.Change n at f = record { all = λ all b e. both_true _ _ (below_at Changes n at f all b e) refl }

  pub load_passes : (how : How) (n : ℕ) (at : Seen) → Fits o how n at → Passes o n (load at ∷ [])
  load_passes how n at f = record { all = λ all b e. both_true _ _ (below_at how n at f all b e) refl }

  pub own_passes : (n : ℕ) (at : Seen) → Fits o Defines n at → Passes o n (i.Define at.slot ∷ [])
  own_passes n at f = record { all = λ all b e. both_true _ _ (own_at Defines n at f refl all b e) refl }

  pub target_walk : (h : Here o) (q : Pattern) (a : Arrow) → IsTarget q → WellPattern false q → Walk o h (target the_most (uses o) (by_arrow a) q) (λ ms. pattern_mentions (by_arrow a) q ms) (in_target q) (λ c. Passes o h.number (target_instr (setting (uses o) o.pools) c q a ∷ []))
  target_walk h (Name t) a is w = because o (λ c f. store_passes a h.number (seen_at (uses o) c.uses) (word_fits o h (by_arrow a) t.kind c (name_word o tag.Subject t.kind is) f)) (token_walk o h (by_arrow a) (is_use (by_arrow a) (is_store a)) t)
  target_walk h (Skip place) a is w = elim is [ ]
  target_walk h (Literal t) a is w = elim is [ ]
  target_walk h (ListPattern qs) a is w = because o (λ c f. f.0) (pattern_walk h (by_arrow a) (is_store a) false (ListPattern qs) w)
  target_walk h (StrandPattern qs) a is w = because o (λ c f. f.0) (pattern_walk h (by_arrow a) (is_store a) false (StrandPattern qs) w)

  -- ---- exported names without a value

  exported_kind : (h : Here o) (k : Kind) (t : Token) → spelling k ≡ name_of t → is_word k ≡ true → Walk o h (pooled (name_of t)) (λ ms. leaf_mention Shows k t ms) nothing (λ c. Unit {0})
  exported_kind h (kind.Word name r) t e w = judged_walk o h (pooled (name_of t)) (Named Shows t) tt (λ g g' q. (pooled_there (name_of t) g g' q).kept) (λ g g' q. (pooled_there (name_of t) g g' q).there)
  exported_kind h _ t e w = absurd (false≢true w)

  mutual
    pub exported_walk : (h : Here o) (q : Pattern) → WellPattern false q → Walk o h (exported q) (λ ms. pattern_mentions Shows q ms) nothing (λ c. Unit {0})
    exported_walk h (Name t) w = exported_kind h t.kind t refl w
    exported_walk h (Skip place) w = skip o {h = h}
    exported_walk h (Literal t) w = absurd (false≢true w.0)
    exported_walk h (ListPattern qs) w = all_exported_walk h qs w
    exported_walk h (StrandPattern qs) w = all_exported_walk h qs (joined_well false qs w.1)

    all_exported_walk : (h : Here o) (qs : Patterns) → WellPatterns false qs → Walk o h (all_exported qs) (λ ms. patterns_mentions Shows qs ms) nothing (λ c. Unit {0})
    all_exported_walk h no_patterns w = skip o {h = h}
    all_exported_walk h (and_patterns q qs) w = because o (λ c f. tt) (both o (exported_walk h q w.0) (all_exported_walk h qs w.1))
