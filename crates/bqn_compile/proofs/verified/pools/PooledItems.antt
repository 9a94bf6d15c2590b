-- Once gathered, each literal, name and pattern is in the pools, and stays there.
use Rattle.std.proofs.Common.{◌≡◌, ◌≤◌, ◌<◌, ◌||◌, ◌&&◌, ℕ, zero, suc, Bool, true, false, List, [], ◌∷◌, ◌++◌, length, slice_get, position, Option, Some, None, Ok, arith, refl, sym, ap, ◌∙◌, subst}
use Rattle.std.specs.List.{list_any}
use Rattle.std.proofs.lemmas.Bool.{eq-eqb}
use Rattle.std.specs.Cmp.{int_eq_equiv}
use Rattle.std.proofs.lemmas.List.Folds.{list_any-append, list_any_at}
use Rattle.std.proofs.lemmas.List.Quantifiers.{position-Some}
use Rattle.bqn_base.specs.declared.place.Place.{Place}
use Rattle.bqn_syntax.specs.declared.token.Kind.{Kind}
use Rattle.bqn_syntax.specs.declared.token.Kind.TheVariants as kind
use Rattle.bqn_syntax.specs.declared.token.Token.{Token}
use Rattle.bqn_syntax.specs.grammar.Trees.{Pattern, Name, Skip, Literal, ListPattern, StrandPattern, Patterns, no_patterns, and_patterns}
use Rattle.bqn_syntax.specs.grammar.Well.{WellPattern, WellPatterns, WellJoined}
use Rattle.bqn_syntax.specs.scope.Order.{How}
use Rattle.bqn_syntax.specs.scope.Scope as scope
use Rattle.bqn_syntax.specs.scope.Scope.{has, defines, name_of, same_name}
use Rattle.bqn_syntax.specs.scope.Bodies.{exports_it}
use Rattle.bqn_code.specs.declared.constant.Const.{Const}
use Rattle.bqn_code.specs.declared.constant.Const.TheVariants as const
use Rattle.bqn_code.specs.Plain as code
use Rattle.bqn_compile.specs.declared.count.Count.{Count}
use Rattle.bqn_compile.specs.Counting.{past, in_leaves}
use Rattle.bqn_compile.specs.Pools.{constant_of, same_constant, place_among, or_none, name_number, constant_number}
use Rattle.bqn_compile.specs.Patterns.{pattern_code}
use Rattle.bqn_compile.specs.Gathering as gather
use Rattle.bqn_compile.specs.Gathering.{Gathered, Most, and_on, if_room}
use Rattle.bqn_compile.proofs.verified.pools.Items.{Item, Alone, Fields, Taken, Opened, Shown, WellItem, EveryItem, EachItem, item_count, item_gathering, items_gathering}
use Rattle.bqn_compile.proofs.verified.pools.Growth.{Begins, begins_same, begins_through, ok_same, Between, between, roomed, fields_grow, all_exported_grow, leaves_grow, all_leaves_grow, joined_leaves_grow, leaves_are_uses, item_grows, all_grow}

-- ---- numbers of what is pooled

number_below : {A : Type 0} (test : A → Bool) (xs : List A) → 1 ≤ length xs → or_none (position test xs) < length xs
number_below test [] h = absurd (omega arith)
number_below {A = A} test (x ∷ xs) h = by (position test (x ∷ xs)) refl
  where
    by : (o : Option ℕ) → position test (x ∷ xs) ≡ o → or_none o < length (x ∷ xs)
    by None e = omega arith
    by (Some i) e = (position-Some test (x ∷ xs) i x e).0

pub constant_below : (constants : List Const) (c : Const) → 1 ≤ length constants → constant_number constants c < length constants
constant_below constants c h = number_below _ constants h

has_some : (names : List (List ℕ)) (name : List ℕ) → has names name ≡ true → 1 ≤ length names
has_some [] name h = absurd (cc)
has_some (x ∷ xs) name h = omega arith

pub name_below : (names : List (List ℕ)) (name : List ℕ) → has names name ≡ true → name_number names name < length names
name_below names name h = number_below _ names (has_some names name h)

-- ---- what is pooled

-- whether a constant is among these
abbrev pub is_among : List Const → Const → Bool
is_among cs z = list_any (same_constant z) cs

pub among_some : (cs : List Const) (z : Const) → is_among cs z ≡ true → 1 ≤ length cs
among_some [] z h = absurd (cc)
among_some (x ∷ cs) z h = omega arith

-- a literal's constant is among these, and so is a name where it is pooled
abbrev pub KindPooled : (named : Bool) → List Const → List (List ℕ) → Kind → Type 0
KindPooled named cs ns (kind.Word name r) = named ≡ true → has ns name ≡ true
KindPooled named cs ns k = (z : Const) → constant_of k ≡ Some z → is_among cs z ≡ true

abbrev mutual
  pub PatternPooled : List Const → List (List ℕ) → Pattern → Type 0
  PatternPooled cs ns (Name t) = KindPooled true cs ns t.kind
  PatternPooled cs ns (Skip place) = Unit {0}
  PatternPooled cs ns (Literal t) = KindPooled true cs ns t.kind
  PatternPooled cs ns (ListPattern qs) = PatternsPooled cs ns qs
  PatternPooled cs ns (StrandPattern qs) = PatternsPooled cs ns qs

  pub PatternsPooled : List Const → List (List ℕ) → Patterns → Type 0
  PatternsPooled cs ns no_patterns = Unit {0}
  PatternsPooled cs ns (and_patterns q qs) = PatternPooled cs ns q × PatternsPooled cs ns qs

abbrev pub FieldsPooled : List (List ℕ) → List Token → Type 0
FieldsPooled ns [] = Unit {0}
FieldsPooled ns (t ∷ ts) = (has ns (name_of t) ≡ true) × FieldsPooled ns ts

abbrev mutual
  pub ExportedPooled : List (List ℕ) → Pattern → Type 0
  ExportedPooled ns (Name t) = has ns (name_of t) ≡ true
  ExportedPooled ns (Skip place) = Unit {0}
  ExportedPooled ns (Literal t) = Unit {0}
  ExportedPooled ns (ListPattern qs) = AllExportedPooled ns qs
  ExportedPooled ns (StrandPattern qs) = AllExportedPooled ns qs

  pub AllExportedPooled : List (List ℕ) → Patterns → Type 0
  AllExportedPooled ns no_patterns = Unit {0}
  AllExportedPooled ns (and_patterns q qs) = ExportedPooled ns q × AllExportedPooled ns qs

-- a pattern with its number, made with pools that these begin with
pub record IsTaken (uses : List scope.Use) (pools : Gathered) (c : Count) (how : How) (q : Pattern) : Type 0 where
  pub constants : List Const
  pub names : List (List ℕ)
  pub more_constants : Begins constants pools.constants
  pub more_names : Begins names pools.names
  pub pooled : PatternPooled constants names q
  pub there : slice_get pools.patterns c.patterns ≡ Some (pattern_code uses constants names how c.uses q)

abbrev pub ItemPooled : List scope.Use → Gathered → Count → Item → Type 0
ItemPooled uses g c (Alone how t) = KindPooled (exports_it how) g.constants g.names t.kind
ItemPooled uses g c (Fields ts) = FieldsPooled g.names ts
ItemPooled uses g c (Taken l how q) = IsTaken uses g c how q
ItemPooled uses g c (Opened place n) = Unit {0}
ItemPooled uses g c (Shown q) = ExportedPooled g.names q

-- ---- it stays

pub has_more : (ns ms : List (List ℕ)) (name : List ℕ) → Begins ns ms → has ns name ≡ true → has ms name ≡ true
has_more ns ms name b h =
    ap (λ (l : List (List ℕ)). has l name) b.are ∙ list_any-append (λ (other : List ℕ). same_name other name) ns b.rest ∙ ap (λ (t : Bool). t || has b.rest name) h

among_more : (cs ds : List Const) (z : Const) → Begins cs ds → is_among cs z ≡ true → is_among ds z ≡ true
among_more cs ds z b h = ap (λ (l : List Const). is_among l z) b.are ∙ list_any-append (same_constant z) cs b.rest ∙ ap (λ (t : Bool). t || is_among b.rest z) h

append_front : {A : Type 0} (xs ys : List A) (k : ℕ) (x : A) → slice_get xs k ≡ Some x → slice_get (xs ++ ys) k ≡ Some x
append_front [] ys k x h = absurd (cc)
append_front (y ∷ xs) ys zero x h = h
append_front (y ∷ xs) ys (suc k) x h = append_front xs ys k x h

at_end : {A : Type 0} (xs : List A) (x : A) (k : ℕ) → k ≡ length xs → slice_get (xs ++ x ∷ []) k ≡ Some x
at_end [] x zero e = refl
at_end [] x (suc k) e = absurd (omega arith)
at_end (y ∷ xs) x zero e = absurd (omega arith)
at_end (y ∷ xs) x (suc k) e = at_end xs x k (omega arith)

module _ (cs ds : List Const) (ns ms : List (List ℕ)) (bc : Begins cs ds) (bn : Begins ns ms) where
  kind_stays : (b : Bool) (k : Kind) → KindPooled b cs ns k → KindPooled b ds ms k
  kind_stays b (kind.Word name r) h = λ e. has_more ns ms name bn (h e)
  kind_stays b k h = λ z e. among_more cs ds z bc (h z e)

  mutual
    pub pattern_stays : (q : Pattern) → PatternPooled cs ns q → PatternPooled ds ms q
    pattern_stays (Name t) h = kind_stays true t.kind h
    pattern_stays (Skip place) h = tt
    pattern_stays (Literal t) h = kind_stays true t.kind h
    pattern_stays (ListPattern qs) h = patterns_stay qs h
    pattern_stays (StrandPattern qs) h = patterns_stay qs h

    patterns_stay : (qs : Patterns) → PatternsPooled cs ns qs → PatternsPooled ds ms qs
    patterns_stay no_patterns h = tt
    patterns_stay (and_patterns q qs) h = (pattern_stays q h.0, patterns_stay qs h.1)

  fields_stay : (ts : List Token) → FieldsPooled ns ts → FieldsPooled ms ts
  fields_stay [] h = tt
  fields_stay (t ∷ ts) h = (has_more ns ms (name_of t) bn h.0, fields_stay ts h.1)

  mutual
    exported_stays : (q : Pattern) → ExportedPooled ns q → ExportedPooled ms q
    exported_stays (Name t) h = has_more ns ms (name_of t) bn h
    exported_stays (Skip place) h = tt
    exported_stays (Literal t) h = tt
    exported_stays (ListPattern qs) h = all_exported_stay qs h
    exported_stays (StrandPattern qs) h = all_exported_stay qs h

    all_exported_stay : (qs : Patterns) → AllExportedPooled ns qs → AllExportedPooled ms qs
    all_exported_stay no_patterns h = tt
    all_exported_stay (and_patterns q qs) h = (exported_stays q h.0, all_exported_stay qs h.1)

-- ---- one step

name_pooled : (name : List ℕ) (g h : Gathered) → gather.pooled name g ≡ Ok h → has h.names name ≡ true
name_pooled name g h e = by (has g.names name) refl e
  where
    same : (cs : List ℕ) → same_name cs cs ≡ true
    same [] = refl
    same (c ∷ cs) = ap (λ (t : Bool). t && same_name cs cs) (eq-eqb c c refl) ∙ same cs

    by : (b : Bool) → has g.names name ≡ b → gather.add_name b name g ≡ Ok h → has h.names name ≡ true
    by true p e = ap (λ (g : Gathered). has g.names name) (sym (ok_same g h e)) ∙ p
    by false p e =
        ap (λ (g : Gathered). has g.names name) (sym (ok_same _ h e))
        ∙ list_any-append (λ (other : List ℕ). same_name other name) g.names (name ∷ [])
        ∙ ap (λ (t : Bool). t || (same_name name name || false)) p
        ∙ ap (λ (t : Bool). t || false) (same name)

same_itself : (z : Const) → same_constant z z ≡ true
same_itself (const.Number z) = int_eq_equiv.refl z
same_itself (const.Char c) = eq-eqb c c refl
same_itself (const.Text cs) = same cs
  where
    same : (cs : List ℕ) → same_name cs cs ≡ true
    same [] = refl
    same (c ∷ cs) = ap (λ (t : Bool). t && same_name cs cs) (eq-eqb c c refl) ∙ same cs

some_is : {A : Type 0} {x y : A} → Some x ≡ Some y → x ≡ y
some_is {x = x} q = ap (λ o. elim o [ None ↦ x | Some z ↦ z ]) q

constant_pooled : (m : Most) (o : Option Const) (place : Place) (g h : Gathered) → gather.constant m o place g ≡ Ok h → (z : Const) → o ≡ Some z → is_among h.constants z ≡ true
constant_pooled m None place g h e z s = absurd (cc)
constant_pooled m (Some c) place g h e z s = subst (λ (z : Const). is_among h.constants z ≡ true) (some_is s) (by (place_among g.constants c) refl e)
  where
    placed : (cs : List Const) (n : ℕ) → place_among cs c ≡ Some n → is_among cs c ≡ true
    placed cs n p = let at = position-Some (same_constant c) cs n c p in list_any_at (same_constant c) cs n c at.0 at.1

    by : (o : Option ℕ) → place_among g.constants c ≡ o → gather.add_constant m c place o g ≡ Ok h → is_among h.constants c ≡ true
    by (Some n) p e = subst (λ (h : Gathered). is_among h.constants c ≡ true) (ok_same g h e) (placed g.constants n p)
    by None p e =
        let q : record g { constants = g.constants ++ c ∷ [] } ≡ h = roomed _ place (λ (g : Gathered). record g { constants = g.constants ++ c ∷ [] }) g h e in
        subst (λ (h : Gathered). is_among h.constants c ≡ true) q (list_any-append (same_constant c) g.constants (c ∷ []) ∙ at_last (is_among g.constants c))
      where
        at_last : (b : Bool) → (b || (same_constant c c || false)) ≡ true
        at_last true = refl
        at_last false = ap (λ (t : Bool). t || false) (same_itself c)

leaf_pooled : (m : Most) (uses : List scope.Use) (how : How) (k : Kind) (place : Place) (g h : Gathered) → gather.leaf m uses how k place g ≡ Ok h → KindPooled (exports_it how) h.constants h.names k
leaf_pooled m uses how (kind.Word name r) place g h e = by (exports_it how) (o.second)
  where
    o : Between (gather.refers m uses (defines how) place g) (gather.pooled_if (exports_it how) name) h
    o = between (gather.refers m uses (defines how) place g) (gather.pooled_if (exports_it how) name) h e

    by : (b : Bool) → gather.pooled_if b name o.middle ≡ Ok h → b ≡ true → has h.names name ≡ true
    by true e t = name_pooled name o.middle h e
    by false e t = absurd (cc)
leaf_pooled m uses how k place g h e = constant_pooled m (constant_of k) place g h e

pattern_leaf_pooled : (m : Most) (uses : List scope.Use) (how : How) (k : Kind) (place : Place) (g h : Gathered) → gather.pattern_leaf m uses how k place g ≡ Ok h → KindPooled true h.constants h.names k
pattern_leaf_pooled m uses how (kind.Word name r) place g h e = λ t. let o = between (gather.refers m uses (defines how) place g) (gather.pooled name) h e in name_pooled name o.middle h o.second
pattern_leaf_pooled m uses how k place g h e = constant_pooled m (constant_of k) place g h e

fields_pooled : (ts : List Token) (g h : Gathered) → gather.fields ts g ≡ Ok h → FieldsPooled h.names ts
fields_pooled [] g h e = tt
fields_pooled (t ∷ ts) g h e =
    let o = between (gather.pooled (name_of t) g) (gather.fields ts) h e in
    (has_more o.middle.names h.names (name_of t) (fields_grow ts o.middle h o.second).names (name_pooled (name_of t) g o.middle o.first), fields_pooled ts o.middle h o.second)

mutual
  exported_pooled : (q : Pattern) (g h : Gathered) → gather.exported q g ≡ Ok h → ExportedPooled h.names q
  exported_pooled (Name t) g h e = name_pooled (name_of t) g h e
  exported_pooled (Skip place) g h e = tt
  exported_pooled (Literal t) g h e = tt
  exported_pooled (ListPattern qs) g h e = all_exported_pooled qs g h e
  exported_pooled (StrandPattern qs) g h e = all_exported_pooled qs g h e

  all_exported_pooled : (qs : Patterns) (g h : Gathered) → gather.all_exported qs g ≡ Ok h → AllExportedPooled h.names qs
  all_exported_pooled no_patterns g h e = tt
  all_exported_pooled (and_patterns q qs) g h e =
      let o = between (gather.exported q g) (gather.all_exported qs) h e in
      let b = all_exported_grow qs o.middle h o.second in
      (exported_stays o.middle.constants h.constants o.middle.names h.names b.constants b.names q (exported_pooled q g o.middle o.first), all_exported_pooled qs o.middle h o.second)

module _ (m : Most) (uses : List scope.Use) where
  mutual
    leaves_pooled : (l : Bool) (how : How) (q : Pattern) → WellPattern l q → (g h : Gathered) → gather.leaves m uses how q g ≡ Ok h → PatternPooled h.constants h.names q
    leaves_pooled l how (Name t) w g h e = pattern_leaf_pooled m uses how t.kind t.place g h e
    leaves_pooled l how (Skip place) w g h e = tt
    leaves_pooled l how (Literal t) w g h e = pattern_leaf_pooled m uses how t.kind t.place g h e
    leaves_pooled l how (ListPattern qs) w g h e = all_leaves_pooled l how qs w g h e
    leaves_pooled l how (StrandPattern qs) w g h e = joined_leaves_pooled l how qs w.1 g h e

    all_leaves_pooled : (l : Bool) (how : How) (qs : Patterns) → WellPatterns l qs → (g h : Gathered) → gather.all_leaves m uses how qs g ≡ Ok h → PatternsPooled h.constants h.names qs
    all_leaves_pooled l how no_patterns w g h e = tt
    all_leaves_pooled l how (and_patterns q qs) w g h e =
        let o = between (gather.leaves m uses how q g) (gather.all_leaves m uses how qs) h e in
        let b = all_leaves_grow m uses l how qs w.1 o.middle h o.second in
        (pattern_stays o.middle.constants h.constants o.middle.names h.names b.constants b.names q (leaves_pooled l how q w.0 g o.middle o.first), all_leaves_pooled l how qs w.1 o.middle h o.second)

    joined_leaves_pooled : (l : Bool) (how : How) (qs : Patterns) → WellJoined l qs → (g h : Gathered) → gather.all_leaves m uses how qs g ≡ Ok h → PatternsPooled h.constants h.names qs
    joined_leaves_pooled l how no_patterns w g h e = tt
    joined_leaves_pooled l how (and_patterns q qs) w g h e =
        let o = between (gather.leaves m uses how q g) (gather.all_leaves m uses how qs) h e in
        let b = joined_leaves_grow m uses l how qs w.2 o.middle h o.second in
        (pattern_stays o.middle.constants h.constants o.middle.names h.names b.constants b.names q (leaves_pooled l how q w.1 g o.middle o.first), joined_leaves_pooled l how qs w.2 o.middle h o.second)

  pattern_taken : (l : Bool) (how : How) (q : Pattern) → WellPattern l q → (g h : Gathered) (c : Count) → c.uses ≡ g.uses → c.patterns ≡ length g.patterns → gather.pattern m uses how q g ≡ Ok h → IsTaken uses h c how q
  pattern_taken l how q w g h c u p e =
      let o = between (gather.leaves m uses how q g) (gather.with_pattern uses how q g.uses) h e in
      let b = leaves_grow m uses l how q w g o.middle o.first in
      let none : (in_leaves q).patterns ≡ 0 = ap (λ (c : Count). c.patterns) (leaves_are_uses q) in
      subst (λ (h : Gathered). IsTaken uses h c how q) (ok_same _ h o.second) (record {
        constants = o.middle.constants;
        names = o.middle.names;
        more_constants = begins_same o.middle.constants;
        more_names = begins_same o.middle.names;
        pooled = leaves_pooled l how q w g o.middle o.first;
        there = at_end o.middle.patterns (pattern_code uses o.middle.constants o.middle.names how g.uses q) c.patterns (omega (arith, b.many_patterns, none))
            ∙ ap (λ (k : ℕ). Some (pattern_code uses o.middle.constants o.middle.names how k q)) (sym u);
      })

  item_pooled : (x : Item) → WellItem x → (g h : Gathered) (c : Count) → c.uses ≡ g.uses → c.patterns ≡ length g.patterns → item_gathering m uses x g ≡ Ok h → ItemPooled uses h c x
  item_pooled (Alone how t) w g h c u p e = leaf_pooled m uses how t.kind t.place g h e
  item_pooled (Fields ts) w g h c u p e = fields_pooled ts g h e
  item_pooled (Taken l how q) w g h c u p e = pattern_taken l how q w.pattern g h c u p e
  item_pooled (Opened place n) w g h c u p e = tt
  item_pooled (Shown q) w g h c u p e = exported_pooled q g h e

  -- ---- all of them

  -- pools that these begin with
  pub record Within (g h : Gathered) : Type 0 where
    pub constants : Begins g.constants h.constants
    pub names : Begins g.names h.names
    pub patterns : Begins g.patterns h.patterns

  item_stays : (g h : Gathered) → Within g h → (c : Count) (x : Item) → ItemPooled uses g c x → ItemPooled uses h c x
  item_stays g h b c (Alone how t) p = kind_stays g.constants h.constants g.names h.names b.constants b.names (exports_it how) t.kind p
  item_stays g h b c (Fields ts) p = fields_stay g.constants h.constants g.names h.names b.constants b.names ts p
  item_stays g h b c (Taken l how q) p = record {
    constants = p.constants;
    names = p.names;
    more_constants = begins_through p.constants g.constants h.constants p.more_constants b.constants;
    more_names = begins_through p.names g.names h.names p.more_names b.names;
    pooled = p.pooled;
    there = subst (λ (l : List code.Pattern). slice_get l c.patterns ≡ Some (pattern_code uses p.constants p.names how c.uses q)) (sym b.patterns.are) (append_front g.patterns b.patterns.rest c.patterns _ p.there);
  }
  item_stays g h b c (Opened place n) p = tt
  item_stays g h b c (Shown q) p = exported_stays g.constants h.constants g.names h.names b.constants b.names q p

  pub all_pooled : (xs : List Item) → EveryItem WellItem xs → (g h f : Gathered) (c : Count) → c.uses ≡ g.uses → c.patterns ≡ length g.patterns → items_gathering m uses xs g ≡ Ok h → Within h f → EachItem (ItemPooled uses f) c xs
  all_pooled [] w g h f c u p e b = tt
  all_pooled (x ∷ xs) w g h f c u p e b =
      let o = between (item_gathering m uses x g) (items_gathering m uses xs) h e in
      let a = item_grows m uses x w.0 g o.middle o.first in
      let d = all_grow m uses xs w.1 o.middle h o.second in
      let i : Within o.middle f = record {
        constants = begins_through o.middle.constants h.constants f.constants d.constants b.constants;
        names = begins_through o.middle.names h.names f.names d.names b.names;
        patterns = begins_through o.middle.patterns h.patterns f.patterns d.patterns b.patterns;
      } in
      (item_stays o.middle f i c x (item_pooled x w.0 g o.middle c u p o.first), all_pooled xs w.1 o.middle h f (past c (item_count x)) (omega (arith, u, a.uses)) (omega (arith, p, a.many_patterns)) o.second b)
