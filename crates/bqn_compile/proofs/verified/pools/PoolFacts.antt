-- What is known of each thing that a tree of a source has, and of its pools.
use Rattle.std.proofs.Common.{◌≡◌, ◌≤◌, ◌<◌, ◌+◌, ◌^◌, ◌∙◌, ℕ, zero, suc, Bool, true, false, List, [], ◌∷◌, length, slice_get, Option, Some, None, Ok, arith, refl, sym, ap, subst}
use Rattle.std.specs.List.{list_all}
use Rattle.std.proofs.lemmas.Bool.{lt-ltb}
use Rattle.bqn_syntax.specs.declared.token.Kind.{Kind}
use Rattle.bqn_syntax.specs.declared.token.Kind.TheVariants as kind
use Rattle.bqn_syntax.specs.declared.token.Token.{Token}
use Rattle.bqn_syntax.specs.grammar.Sorts.{is_word}
use Rattle.bqn_syntax.specs.grammar.Trees.{Pattern, Name, Skip, Literal, ListPattern, StrandPattern, Patterns, no_patterns, and_patterns, Stmts}
use Rattle.bqn_syntax.specs.grammar.Spells.{Gap, stmts_signs}
use Rattle.bqn_syntax.specs.grammar.Well.{WellPattern, WellPatterns, WellJoined, AreTwo}
use Rattle.bqn_syntax.specs.scope.Scope as scope
use Rattle.bqn_syntax.specs.scope.Scope.{name_of, spelling}
use Rattle.bqn_syntax.specs.scope.Bodies.{Resolution, exports_it}
use Rattle.bqn_syntax.specs.scope.Order.{How}
use Rattle.bqn_syntax.specs.text.Fitting.{KindFits, TokenFits, KindBegins, TokenBegins, begins_with_letter}
use Rattle.bqn_code.specs.Plain as code
use Rattle.bqn_code.specs.Conditions.{is_few, text_is_short}
use Rattle.bqn_compile.specs.declared.count.Count.{Count}
use Rattle.bqn_compile.specs.Counting.{past, in_kind, in_leaves}
use Rattle.bqn_compile.specs.Gathering as gather
use Rattle.bqn_compile.specs.Gathering.{Gathered, Most, the_most, gathered}
use Rattle.bqn_compile.specs.Items.{AllTokens, PatternTokens, PatternsTokens}
use Rattle.bqn_compile.specs.Sources.{ItemBegins, FromSource}
use Rattle.bqn_compile.specs.Translation as translation
use Rattle.bqn_compile.proofs.verified.pools.Items.{Item, Alone, Fields, Taken, Opened, Shown, AreWords, WellItem, EveryItem, EachItem, item_count, items_count, items_gathering, stmts_items}
use Rattle.bqn_compile.proofs.verified.Tests.{both_true}
use Rattle.bqn_compile.proofs.verified.pools.GatheredItems.{stmts_has}
use Rattle.bqn_compile.proofs.verified.pools.Growth.{begins_same, Grows, leaves_are_uses, all_grow}
use Rattle.bqn_compile.proofs.verified.pools.WellItems.{program_well}
use Rattle.bqn_compile.proofs.verified.pools.SpelledItems.{ItemTokens, pattern_size, patterns_size, item_size, items_size, fits_size, exacts_hold, stmts_give}
use Rattle.bqn_compile.proofs.verified.pools.PooledItems.{ItemPooled, Within, all_pooled}
use Rattle.bqn_compile.proofs.verified.pools.Passing.{KindPasses, AlonePasses, PatternPasses, PatternsPass, FieldsPass, ExportedPasses, AllExportedPass, ItemPasses, Passes, all_pass}

-- ---- all of what is known of one thing

pub record Facts (uses : List scope.Use) (pools : Gathered) (c : Count) (x : Item) : Type 0 where
  pub pooled : ItemPooled uses pools c x
  pub well : WellItem x
  pub tokens : ItemTokens TokenFits x
  pub letters : ItemBegins x
  pub size : item_size x ≤ 2 ^ 28

every_size : (xs : List Item) (n : ℕ) → items_size xs ≤ n → EveryItem (λ x. item_size x ≤ n) xs
every_size [] n h = tt
every_size (x ∷ xs) n h = (omega arith, every_size xs n (omega arith))

all_facts : (uses : List scope.Use) (pools : Gathered) (c : Count) (xs : List Item) → EachItem (ItemPooled uses pools) c xs → EveryItem WellItem xs → EveryItem (ItemTokens TokenFits) xs → EveryItem ItemBegins xs → EveryItem (λ x. item_size x ≤ 2 ^ 28) xs → EachItem (Facts uses pools) c xs
all_facts uses pools c [] p w t l s = tt
all_facts uses pools c (x ∷ xs) p w t l s = (record { pooled = p.0; well = w.0; tokens = t.0; letters = l.0; size = s.0 }, all_facts uses pools (past c (item_count x)) xs p.1 w.1 t.1 l.1 s.1)

pub each_every : (P : Count → Item → Type 0) (Q : Item → Type 0) (c : Count) (xs : List Item) → ((c : Count) (x : Item) → P c x → Q x) → EachItem P c xs → EveryItem Q xs
each_every P Q c [] f h = tt
each_every P Q c (x ∷ xs) f h = (f c x h.0, each_every P Q (past c (item_count x)) xs f h.1)

pub each_as : (P Q : Count → Item → Type 0) (c : Count) (xs : List Item) → ((c : Count) (x : Item) → P c x → Q c x) → EachItem P c xs → EachItem Q c xs
each_as P Q c [] f h = tt
each_as P Q c (x ∷ xs) f h = (f c x h.0, each_as P Q (past c (item_count x)) xs f h.1)

-- ---- what the tokens pass, the pools pass

module _ (m : Most) (test : List ℕ → Bool) (passes : (name : List ℕ) → begins_with_letter name ≡ true → length name ≤ 2 ^ 28 → test name ≡ true) where
  short : (cs : List ℕ) → length cs ≤ 2 ^ 28 → is_few (length cs) ≡ true
  short cs h = lt-ltb (length cs) (2 ^ 32) (omega arith)

  kind_passes : (k : Kind) → KindFits k → KindBegins k → KindPasses m text_is_short test k
  kind_passes (kind.Word name r) h l = passes name l h.short
  kind_passes (kind.Text cs) h l = short cs h
  kind_passes (kind.Number z) h l = refl
  kind_passes (kind.Char c) h l = refl
  kind_passes k h l = tt

  alone_passes : (how : How) (k : Kind) → KindFits k → (exports_it how ≡ true → KindBegins k) → AlonePasses m text_is_short test how k
  alone_passes how (kind.Word name r) h l = λ e. passes name (l e) h.short
  alone_passes how (kind.Text cs) h l = short cs h
  alone_passes how (kind.Number z) h l = refl
  alone_passes how (kind.Char c) h l = refl
  alone_passes how k h l = tt

  word_passes : (k : Kind) (t : Token) → t.kind ≡ k → is_word k ≡ true → KindFits k → KindBegins k → test (name_of t) ≡ true
  word_passes (kind.Word name r) t e w h l = subst (λ (k : Kind). test (spelling k) ≡ true) (sym e) (passes name l h.short)
  word_passes k t e w h l = absurd (cc)

  fields_pass : (ts : List Token) → AreWords ts → AllTokens TokenFits ts → AllTokens TokenBegins ts → FieldsPass m text_is_short test ts
  fields_pass [] w h l = tt
  fields_pass (t ∷ ts) w h l = (word_passes t.kind t refl w.0 h.0 l.0, fields_pass ts w.1 h.1 l.1)

  mutual
    pattern_passes : (q : Pattern) → PatternTokens TokenFits q → PatternTokens TokenBegins q → PatternPasses m text_is_short test q
    pattern_passes (Name t) h l = kind_passes t.kind h l
    pattern_passes (Skip place) h l = tt
    pattern_passes (Literal t) h l = kind_passes t.kind h l
    pattern_passes (ListPattern qs) h l = patterns_pass qs h l
    pattern_passes (StrandPattern qs) h l = patterns_pass qs h l

    patterns_pass : (qs : Patterns) → PatternsTokens TokenFits qs → PatternsTokens TokenBegins qs → PatternsPass m text_is_short test qs
    patterns_pass no_patterns h l = tt
    patterns_pass (and_patterns q qs) h l = (pattern_passes q h.0 l.0, patterns_pass qs h.1 l.1)

  mutual
    exported_passes : (q : Pattern) → WellPattern false q → PatternTokens TokenFits q → PatternTokens TokenBegins q → ExportedPasses m text_is_short test q
    exported_passes (Name t) w h l = word_passes t.kind t refl w h l
    exported_passes (Skip place) w h l = tt
    exported_passes (Literal t) w h l = tt
    exported_passes (ListPattern qs) w h l = all_exported_pass qs w h l
    exported_passes (StrandPattern qs) w h l = joined_shown_pass qs w.1 h l

    all_exported_pass : (qs : Patterns) → WellPatterns false qs → PatternsTokens TokenFits qs → PatternsTokens TokenBegins qs → AllExportedPass m text_is_short test qs
    all_exported_pass no_patterns w h l = tt
    all_exported_pass (and_patterns q qs) w h l = (exported_passes q w.0 h.0 l.0, all_exported_pass qs w.1 h.1 l.1)

    joined_shown_pass : (qs : Patterns) → WellJoined false qs → PatternsTokens TokenFits qs → PatternsTokens TokenBegins qs → AllExportedPass m text_is_short test qs
    joined_shown_pass no_patterns w h l = tt
    joined_shown_pass (and_patterns q qs) w h l = (exported_passes q w.1 h.0 l.0, joined_shown_pass qs w.2 h.1 l.1)

  item_passes : (x : Item) → WellItem x → ItemTokens TokenFits x → ItemBegins x → ItemPasses m text_is_short test x
  item_passes (Alone how t) w h l = alone_passes how t.kind h l
  item_passes (Fields ts) w h l = fields_pass ts w h l
  item_passes (Taken literals how q) w h l = pattern_passes q h l
  item_passes (Opened place n) w h l = tt
  item_passes (Shown q) w h l = exported_passes q w h l

-- ---- how many patterns

some_size : (l : Bool) (q : Pattern) → WellPattern l q → 1 ≤ pattern_size q
some_size l (Name t) w = omega arith
some_size l (Skip place) w = omega arith
some_size l (Literal t) w = omega arith
some_size l (ListPattern qs) w = omega arith
some_size l (StrandPattern qs) w = two_some qs w.0
  where
    two_some : (qs : Patterns) → AreTwo qs → 1 ≤ patterns_size qs
    two_some no_patterns t = elim t [ ]
    two_some (and_patterns q no_patterns) t = elim t [ ]
    two_some (and_patterns q (and_patterns r qs)) t = omega arith

kind_patterns : (k : Kind) → (in_kind k).patterns ≡ 0
kind_patterns (kind.Word name r) = refl
kind_patterns k = refl

pub item_patterns : (x : Item) → WellItem x → (item_count x).patterns ≤ item_size x
item_patterns (Alone how t) w = omega (arith, kind_patterns t.kind)
item_patterns (Fields ts) w = omega arith
item_patterns (Taken l how q) w = omega (arith, some_size l q w.pattern, ap (λ (c : Count). c.patterns) (leaves_are_uses q))
item_patterns (Opened place n) w = omega arith
item_patterns (Shown q) w = omega arith

few_patterns : (xs : List Item) → EveryItem WellItem xs → (items_count xs).patterns ≤ items_size xs
few_patterns [] w = omega arith
few_patterns (x ∷ xs) w = omega (arith, item_patterns x w.0, few_patterns xs w.1)

-- ---- a pattern at each number

pub record Found (test : code.Pattern → Bool) (ps : List code.Pattern) (k : ℕ) : Type 0 where
  pub pattern : code.Pattern
  pub there : slice_get ps k ≡ Some pattern
  pub passes : test pattern ≡ true

abbrev pub FoundTaken : (code.Pattern → Bool) → List code.Pattern → Count → Item → Type 0
FoundTaken test ps c (Taken l how q) = Found test ps c.patterns
FoundTaken test ps c x = Unit {0}

found_at : (test : code.Pattern → Bool) (ps : List code.Pattern) (j k : ℕ) → j ≡ k → Found test ps j → Found test ps k
found_at test ps j k e f = subst (λ (k : ℕ). Found test ps k) e f

all_found : (test : code.Pattern → Bool) (ps : List code.Pattern) (xs : List Item) (c : Count) → EachItem (FoundTaken test ps) c xs → (j : ℕ) → j < (items_count xs).patterns → Found test ps (c.patterns + j)
all_found test ps [] c h j l = absurd (omega arith)
all_found test ps (Alone how t ∷ xs) c h j l = found_at test ps ((c.patterns + (in_kind t.kind).patterns) + j) (c.patterns + j) (omega (arith, kind_patterns t.kind)) (all_found test ps xs (past c (item_count (Alone how t))) h.1 j (omega (arith, kind_patterns t.kind)))
all_found test ps (Fields ts ∷ xs) c h j l = found_at test ps ((c.patterns + 0) + j) (c.patterns + j) (omega arith) (all_found test ps xs (past c (item_count (Fields ts))) h.1 j (omega arith))
all_found test ps (Taken t how q ∷ xs) c h zero l = found_at test ps c.patterns (c.patterns + 0) (omega arith) h.0
all_found test ps (Taken t how q ∷ xs) c h (suc j) l =
    let e : (in_leaves q).patterns ≡ 0 = ap (λ (c : Count). c.patterns) (leaves_are_uses q) in
    found_at test ps ((c.patterns + (1 + (in_leaves q).patterns)) + j) (c.patterns + suc j) (omega (arith, e)) (all_found test ps xs (past c (item_count (Taken t how q))) h.1 j (omega (arith, e)))
all_found test ps (Opened place n ∷ xs) c h j l = found_at test ps ((c.patterns + 0) + j) (c.patterns + j) (omega arith) (all_found test ps xs (past c (item_count (Opened place n))) h.1 j (omega arith))
all_found test ps (Shown q ∷ xs) c h j l = found_at test ps ((c.patterns + 0) + j) (c.patterns + j) (omega arith) (all_found test ps xs (past c (item_count (Shown q))) h.1 j (omega arith))

found_pass : (test : code.Pattern → Bool) (ps : List code.Pattern) → ((k : ℕ) → k < length ps → Found test ps k) → list_all test ps ≡ true
found_pass test [] f = refl
found_pass test (p ∷ ps) f =
    let x = f 0 (omega arith) in
    let first : test p ≡ true = ap (λ (o : Option code.Pattern). elim o [ None ↦ true | Some p ↦ test p ]) x.there ∙ x.passes in
    both_true (test p) (list_all test ps) first (found_pass test ps (λ k l. let y = f (suc k) (omega arith) in record { pattern = y.pattern; there = y.there; passes = y.passes }))

-- ---- the pools of a source

pub record SourcePools (uses : List scope.Use) (pools : Gathered) (ss : Stmts) : Type 0 where
  pub facts : EachItem (Facts uses pools) translation.at_start (stmts_items ss)
  pub passes : (test : List ℕ → Bool) → ((name : List ℕ) → begins_with_letter name ≡ true → length name ≤ 2 ^ 28 → test name ≡ true) → list_all test pools.names ≡ true
  pub texts : list_all text_is_short pools.constants ≡ true
  pub few_constants : length pools.constants ≤ 65535
  pub few_names : length pools.names ≤ 2 ^ 28
  pub few_patterns : length pools.patterns ≤ 2 ^ 28
  pub patterns : (test : code.Pattern → Bool) → EachItem (FoundTaken test pools.patterns) translation.at_start (stmts_items ss) → list_all test pools.patterns ≡ true

module _ (outer : List (List ℕ)) (ss : Stmts) (tokens : List Token) (r : Resolution) (pools : Gathered) (s : FromSource outer ss tokens r) (e : gathered the_most r.uses ss ≡ Ok pools) where
  abbrev xs : List Item
  xs = stmts_items ss

  run : items_gathering the_most r.uses xs gather.at_start ≡ Ok pools
  run = sym ((stmts_has the_most r.uses ss).gathering gather.at_start) ∙ e

  are_well : EveryItem WellItem xs
  are_well = program_well ss s.well

  fit : EveryItem (ItemTokens TokenFits) xs
  fit = ((stmts_give TokenFits true ss (Gap ∷ [])).tokens (exacts_hold TokenFits (stmts_signs true ss (Gap ∷ [])) tokens s.spells s.tokens_fit)).0

  size : items_size xs ≤ 2 ^ 28
  size = omega (arith, (stmts_give TokenFits true ss (Gap ∷ [])).sizes, fits_size (stmts_signs true ss (Gap ∷ [])) tokens s.spells, s.few)

  grows : Grows (items_count xs) gather.at_start pools
  grows = all_grow the_most r.uses xs are_well gather.at_start pools run

  same : Within the_most r.uses pools pools
  same = record { constants = begins_same pools.constants; names = begins_same pools.names; patterns = begins_same pools.patterns }

  facts : EachItem (Facts r.uses pools) translation.at_start xs
  facts = all_facts r.uses pools translation.at_start xs (all_pooled the_most r.uses xs are_well gather.at_start pools pools translation.at_start refl refl run same) are_well fit s.letters (every_size xs (2 ^ 28) size)

  passing : (test : List ℕ → Bool) → ((name : List ℕ) → begins_with_letter name ≡ true → length name ≤ 2 ^ 28 → test name ≡ true) → Passes the_most text_is_short test (items_size xs) gather.at_start pools
  passing test h =
      all_pass the_most text_is_short test r.uses xs (each_every (Facts r.uses pools) (ItemPasses the_most text_is_short test) translation.at_start xs (λ c x f. item_passes the_most test h x f.well f.tokens f.letters) facts) gather.at_start pools run

  pub source_pools : SourcePools r.uses pools ss
  source_pools =
      let any = passing (λ name. true) (λ name a b. refl) in
      record {
        facts = facts;
        passes = λ test h. (passing test h).names refl;
        texts = any.constants refl;
        few_constants = any.few_constants (omega arith);
        few_names = omega (arith, any.few_names, size);
        few_patterns = omega (arith, grows.many_patterns, few_patterns xs are_well, size);
        patterns = λ test h. found_pass test pools.patterns (λ k l. found_at test pools.patterns (0 + k) k (omega arith) (all_found test pools.patterns xs translation.at_start h k (omega (arith, l, grows.many_patterns))));
      }
