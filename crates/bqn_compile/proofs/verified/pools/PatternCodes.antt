-- The patterns of a code: their leaves are there, they are not deep, and their lists are not long.
use Rattle.std.proofs.Common.{◌≡◌, ◌≤◌, ◌<◌, ◌+◌, ◌*◌, ◌^◌, ℕ, max, nat_lt, Bool, true, false, List, length, Option, Some, None, arith, refl, sym, ap, ◌∙◌, subst}
use Rattle.std.proofs.lemmas.Bool.{lt-ltb}
use Rattle.std.proofs.lemmas.List.{length-append}
use Rattle.bqn_syntax.specs.declared.token.Kind.{Kind}
use Rattle.bqn_syntax.specs.declared.token.Kind.TheVariants as kind
use Rattle.bqn_syntax.specs.declared.token.Token.{Token}
use Rattle.bqn_syntax.specs.grammar.Sorts.{is_word}
use Rattle.bqn_syntax.specs.grammar.Trees as tree
use Rattle.bqn_syntax.specs.grammar.Trees.{Name, StrandPattern, no_patterns, and_patterns}
use Rattle.bqn_syntax.specs.grammar.Well.{IsNoStrand, WellPattern, WellPatterns, WellJoined, pattern_depth, patterns_depth}
use Rattle.bqn_syntax.specs.scope.Order.{How, Reads, Defines, Exports, Changes, Shows}
use Rattle.bqn_syntax.specs.scope.Scope.{Seen, Use, has, name_of, spelling}
use Rattle.bqn_code.specs.declared.constant.Const.{Const}
use Rattle.bqn_code.specs.declared.constant.Const.TheVariants as const
use Rattle.bqn_code.specs.Plain.{Pattern, Skip, Code, patterns}
use Rattle.bqn_code.specs.Plain.{parts}
use Rattle.bqn_code.specs.Conditions.{leaves, all_leaves, leaf_constant_is_there, leaf_name_is_there, is_no_literal, nesting, all_nesting, is_few, lists_are_few, all_lists_are_few}
use Rattle.bqn_compile.specs.Counting.{in_leaves}
use Rattle.bqn_compile.specs.Pools.{constant_of, constant_number, name_number, seen_at}
use Rattle.bqn_compile.specs.Patterns.{stored_leaf, literal_leaf, pattern_code, patterns_code}
use Rattle.bqn_compile.proofs.verified.Tests.{both_true}
use Rattle.bqn_compile.proofs.verified.pools.Growth.{Begins}
use Rattle.bqn_compile.proofs.verified.pools.PooledItems.{KindPooled, PatternPooled, PatternsPooled, among_some, constant_below, name_below}
use Rattle.bqn_compile.proofs.verified.pools.SpelledItems.{pattern_size, patterns_size, more_size}

-- ---- leaves

module _ (uses : List Use) (cs : List Const) (ns : List (List ℕ)) (how : How) (test : Pattern → Bool) (skips : test Skip ≡ true) where
  -- a test passes for each leaf
  abbrev mutual
    pub LeavesPass : tree.Pattern → Type 0
    LeavesPass (tree.Name t) = (at : Seen) → test (stored_leaf how at (name_number ns (name_of t))) ≡ true
    LeavesPass (tree.Skip place) = Unit {0}
    LeavesPass (tree.Literal t) = test (literal_leaf cs (constant_of t.kind)) ≡ true
    LeavesPass (tree.ListPattern qs) = AllLeavesPass qs
    LeavesPass (tree.StrandPattern qs) = AllLeavesPass qs

    pub AllLeavesPass : tree.Patterns → Type 0
    AllLeavesPass tree.no_patterns = Unit {0}
    AllLeavesPass (tree.and_patterns q qs) = LeavesPass q × AllLeavesPass qs

  stored_is_leaf : (how : How) (at : Seen) (name : ℕ) → leaves test (stored_leaf how at name) ≡ test (stored_leaf how at name)
  stored_is_leaf Reads at name = refl
  stored_is_leaf Defines at name = refl
  stored_is_leaf Exports at name = refl
  stored_is_leaf Changes at name = refl
  stored_is_leaf Shows at name = refl

  literal_is_leaf : (o : Option Const) → leaves test (literal_leaf cs o) ≡ test (literal_leaf cs o)
  literal_is_leaf None = refl
  literal_is_leaf (Some c) = refl

  mutual
    pub leaves_pass : (k : ℕ) (q : tree.Pattern) → LeavesPass q → leaves test (pattern_code uses cs ns how k q) ≡ true
    leaves_pass k (tree.Name t) h = stored_is_leaf how (seen_at uses k) (name_number ns (name_of t)) ∙ h (seen_at uses k)
    leaves_pass k (tree.Skip place) h = skips
    leaves_pass k (tree.Literal t) h = literal_is_leaf (constant_of t.kind) ∙ h
    leaves_pass k (tree.ListPattern qs) h = all_leaves_pass k qs h
    leaves_pass k (tree.StrandPattern qs) h = all_leaves_pass k qs h

    all_leaves_pass : (k : ℕ) (qs : tree.Patterns) → AllLeavesPass qs → all_leaves test (patterns (patterns_code uses cs ns how k qs)) ≡ true
    all_leaves_pass k tree.no_patterns h = refl
    all_leaves_pass k (tree.and_patterns q qs) h =
        both_true (leaves test (pattern_code uses cs ns how k q)) (all_leaves test (patterns (patterns_code uses cs ns how (k + (in_leaves q).uses) qs))) (leaves_pass k q h.0) (all_leaves_pass (k + (in_leaves q).uses) qs h.1)

within : {A : Type 0} (old new : List A) (k : ℕ) → Begins old new → k < length old → nat_lt k (length new) ≡ true
within old new k b h = lt-ltb k (length new) (omega (arith, h, ap (λ (l : List _). length l) b.are, length-append old b.rest))

module _ (uses : List Use) (cs : List Const) (ns : List (List ℕ)) (how : How) (code : Code) (more_constants : Begins cs code.constants) (more_names : Begins ns code.names) where
  stored_constant : (how : How) (at : Seen) (name : ℕ) → leaf_constant_is_there code (stored_leaf how at name) ≡ true
  stored_constant Reads at name = refl
  stored_constant Defines at name = refl
  stored_constant Exports at name = refl
  stored_constant Changes at name = refl
  stored_constant Shows at name = refl

  pooled_there : (c : Const) → 1 ≤ length cs → nat_lt (constant_number cs c) (length code.constants) ≡ true
  pooled_there c h = within cs code.constants (constant_number cs c) more_constants (constant_below cs c h)

  literal_there : (k : Kind) → KindPooled true cs ns k → leaf_constant_is_there code (literal_leaf cs (constant_of k)) ≡ true
  literal_there (kind.Number z) h = pooled_there (const.Number z) (among_some cs (const.Number z) (h (const.Number z) refl))
  literal_there (kind.Char z) h = pooled_there (const.Char z) (among_some cs (const.Char z) (h (const.Char z) refl))
  literal_there (kind.Text z) h = pooled_there (const.Text z) (among_some cs (const.Text z) (h (const.Text z) refl))
  literal_there k h = refl

  mutual
    constants_there : (q : tree.Pattern) → PatternPooled cs ns q → LeavesPass uses cs ns how (leaf_constant_is_there code) refl q
    constants_there (tree.Name t) h = λ at. stored_constant how at (name_number ns (name_of t))
    constants_there (tree.Skip place) h = tt
    constants_there (tree.Literal t) h = literal_there t.kind h
    constants_there (tree.ListPattern qs) h = all_constants_there qs h
    constants_there (tree.StrandPattern qs) h = all_constants_there qs h

    all_constants_there : (qs : tree.Patterns) → PatternsPooled cs ns qs → AllLeavesPass uses cs ns how (leaf_constant_is_there code) refl qs
    all_constants_there tree.no_patterns h = tt
    all_constants_there (tree.and_patterns q qs) h = (constants_there q h.0, all_constants_there qs h.1)

  pub pattern_constants : (k : ℕ) (q : tree.Pattern) → PatternPooled cs ns q → leaves (leaf_constant_is_there code) (pattern_code uses cs ns how k q) ≡ true
  pattern_constants k q h = leaves_pass uses cs ns how (leaf_constant_is_there code) refl k q (constants_there q h)

  stored_name : (how : How) (at : Seen) (name : ℕ) → name < length ns → leaf_name_is_there code (stored_leaf how at name) ≡ true
  stored_name Reads at name h = within ns code.names name more_names h
  stored_name Defines at name h = within ns code.names name more_names h
  stored_name Exports at name h = within ns code.names name more_names h
  stored_name Changes at name h = within ns code.names name more_names h
  stored_name Shows at name h = within ns code.names name more_names h

  literal_nameless : (o : Option Const) → leaf_name_is_there code (literal_leaf cs o) ≡ true
  literal_nameless None = refl
  literal_nameless (Some c) = refl

  word_pooled : (k : Kind) (t : Token) → t.kind ≡ k → is_word k ≡ true → KindPooled true cs ns k → has ns (name_of t) ≡ true
  word_pooled (kind.Word name r) t e w h = subst (λ (k : Kind). has ns (spelling k) ≡ true) (sym e) (h refl)
  word_pooled k t e w h = absurd (cc)

  mutual
    names_there : (l : Bool) (q : tree.Pattern) → WellPattern l q → PatternPooled cs ns q → LeavesPass uses cs ns how (leaf_name_is_there code) refl q
    names_there l (tree.Name t) w h = λ at. stored_name how at (name_number ns (name_of t)) (name_below ns (name_of t) (word_pooled t.kind t refl w h))
    names_there l (tree.Skip place) w h = tt
    names_there l (tree.Literal t) w h = literal_nameless (constant_of t.kind)
    names_there l (tree.ListPattern qs) w h = all_names_there l qs w h
    names_there l (tree.StrandPattern qs) w h = joined_names_there l qs w.1 h

    all_names_there : (l : Bool) (qs : tree.Patterns) → WellPatterns l qs → PatternsPooled cs ns qs → AllLeavesPass uses cs ns how (leaf_name_is_there code) refl qs
    all_names_there l tree.no_patterns w h = tt
    all_names_there l (tree.and_patterns q qs) w h = (names_there l q w.0 h.0, all_names_there l qs w.1 h.1)

    joined_names_there : (l : Bool) (qs : tree.Patterns) → WellJoined l qs → PatternsPooled cs ns qs → AllLeavesPass uses cs ns how (leaf_name_is_there code) refl qs
    joined_names_there l tree.no_patterns w h = tt
    joined_names_there l (tree.and_patterns q qs) w h = (names_there l q w.1 h.0, joined_names_there l qs w.2 h.1)

  pub pattern_names : (l : Bool) (k : ℕ) (q : tree.Pattern) → WellPattern l q → PatternPooled cs ns q → leaves (leaf_name_is_there code) (pattern_code uses cs ns how k q) ≡ true
  pattern_names l k q w h = leaves_pass uses cs ns how (leaf_name_is_there code) refl k q (names_there l q w h)

module _ (uses : List Use) (cs : List Const) (ns : List (List ℕ)) (how : How) where
  stored_no_literal : (how : How) (at : Seen) (name : ℕ) → is_no_literal (stored_leaf how at name) ≡ true
  stored_no_literal Reads at name = refl
  stored_no_literal Defines at name = refl
  stored_no_literal Exports at name = refl
  stored_no_literal Changes at name = refl
  stored_no_literal Shows at name = refl

  mutual
    without_literals : (q : tree.Pattern) → WellPattern false q → LeavesPass uses cs ns how is_no_literal refl q
    without_literals (tree.Name t) w = λ at. stored_no_literal how at (name_number ns (name_of t))
    without_literals (tree.Skip place) w = tt
    without_literals (tree.Literal t) w = absurd (cc (w.0))
    without_literals (tree.ListPattern qs) w = all_without_literals qs w
    without_literals (tree.StrandPattern qs) w = joined_without_literals qs w.1

    all_without_literals : (qs : tree.Patterns) → WellPatterns false qs → AllLeavesPass uses cs ns how is_no_literal refl qs
    all_without_literals tree.no_patterns w = tt
    all_without_literals (tree.and_patterns q qs) w = (without_literals q w.0, all_without_literals qs w.1)

    joined_without_literals : (qs : tree.Patterns) → WellJoined false qs → AllLeavesPass uses cs ns how is_no_literal refl qs
    joined_without_literals tree.no_patterns w = tt
    joined_without_literals (tree.and_patterns q qs) w = (without_literals q w.1, joined_without_literals qs w.2)

  pub pattern_no_literal : (k : ℕ) (q : tree.Pattern) → WellPattern false q → leaves is_no_literal (pattern_code uses cs ns how k q) ≡ true
  pattern_no_literal k q w = leaves_pass uses cs ns how is_no_literal refl k q (without_literals q w)

  -- ---- depth

  stored_nesting : (how : How) (at : Seen) (name : ℕ) → nesting (stored_leaf how at name) ≡ 0
  stored_nesting Reads at name = refl
  stored_nesting Defines at name = refl
  stored_nesting Exports at name = refl
  stored_nesting Changes at name = refl
  stored_nesting Shows at name = refl

  literal_nesting : (o : Option Const) → nesting (literal_leaf cs o) ≡ 0
  literal_nesting None = refl
  literal_nesting (Some c) = refl

  greater : (a b d e n : ℕ) → a ≤ 2 * d + n → b ≤ 2 * e + n → max a b ≤ 2 * max d e + n
  greater a b d e n h k = omega arith

  mutual
    -- a strand adds one list in each bracket and around it
    pub pattern_nesting : (l : Bool) (k : ℕ) (q : tree.Pattern) → WellPattern l q → nesting (pattern_code uses cs ns how k q) ≤ 2 * pattern_depth q + 1
    pattern_nesting l k (tree.Name t) w = omega (arith, stored_nesting how (seen_at uses k) (name_number ns (name_of t)))
    pattern_nesting l k (tree.Skip place) w = omega arith
    pattern_nesting l k (tree.Literal t) w = omega (arith, literal_nesting (constant_of t.kind))
    pattern_nesting l k (tree.ListPattern qs) w = omega (arith, patterns_nesting l k qs w)
    pattern_nesting l k (tree.StrandPattern qs) w = omega (arith, joined_nesting l k qs w.1)

    flat_nesting : (l : Bool) (k : ℕ) (q : tree.Pattern) → IsNoStrand q → WellPattern l q → nesting (pattern_code uses cs ns how k q) ≤ 2 * pattern_depth q + 0
    flat_nesting l k (tree.Name t) n w = omega (arith, stored_nesting how (seen_at uses k) (name_number ns (name_of t)))
    flat_nesting l k (tree.Skip place) n w = omega arith
    flat_nesting l k (tree.Literal t) n w = omega (arith, literal_nesting (constant_of t.kind))
    flat_nesting l k (tree.ListPattern qs) n w = omega (arith, patterns_nesting l k qs w)
    flat_nesting l k (tree.StrandPattern qs) n w = elim n [ ]

    patterns_nesting : (l : Bool) (k : ℕ) (qs : tree.Patterns) → WellPatterns l qs → all_nesting (patterns (patterns_code uses cs ns how k qs)) ≤ 2 * patterns_depth qs + 1
    patterns_nesting l k tree.no_patterns w = omega arith
    patterns_nesting l k (tree.and_patterns q qs) w = greater _ _ (pattern_depth q) (patterns_depth qs) 1 (pattern_nesting l k q w.0) (patterns_nesting l (k + (in_leaves q).uses) qs w.1)

    joined_nesting : (l : Bool) (k : ℕ) (qs : tree.Patterns) → WellJoined l qs → all_nesting (patterns (patterns_code uses cs ns how k qs)) ≤ 2 * patterns_depth qs + 0
    joined_nesting l k tree.no_patterns w = omega arith
    joined_nesting l k (tree.and_patterns q qs) w = greater _ _ (pattern_depth q) (patterns_depth qs) 0 (flat_nesting l k q w.0 w.1) (joined_nesting l (k + (in_leaves q).uses) qs w.2)

  -- ---- lengths

  few : (n : ℕ) → n ≤ 2 ^ 28 + 1 → is_few n ≡ true
  few n h = lt-ltb n (2 ^ 32) (omega arith)

  more_parts : (k : ℕ) (qs : tree.Patterns) → parts (patterns (patterns_code uses cs ns how k qs)) ≤ more_size qs
  more_parts k tree.no_patterns = omega arith
  more_parts k (tree.and_patterns q qs) = omega (arith, more_parts (k + (in_leaves q).uses) qs)

  few_parts : (k : ℕ) (qs : tree.Patterns) → parts (patterns (patterns_code uses cs ns how k qs)) ≤ patterns_size qs + 1
  few_parts k tree.no_patterns = omega arith
  few_parts k (tree.and_patterns q qs) = omega (arith, more_parts (k + (in_leaves q).uses) qs)

  stored_few : (how : How) (at : Seen) (name : ℕ) → lists_are_few (stored_leaf how at name) ≡ true
  stored_few Reads at name = refl
  stored_few Defines at name = refl
  stored_few Exports at name = refl
  stored_few Changes at name = refl
  stored_few Shows at name = refl

  literal_few : (o : Option Const) → lists_are_few (literal_leaf cs o) ≡ true
  literal_few None = refl
  literal_few (Some c) = refl

  mutual
    pub pattern_few : (k : ℕ) (q : tree.Pattern) → pattern_size q ≤ 2 ^ 28 → lists_are_few (pattern_code uses cs ns how k q) ≡ true
    pattern_few k (tree.Name t) h = stored_few how (seen_at uses k) (name_number ns (name_of t))
    pattern_few k (tree.Skip place) h = refl
    pattern_few k (tree.Literal t) h = literal_few (constant_of t.kind)
    pattern_few k (tree.ListPattern qs) h = both_true _ _ (few _ (omega (arith, few_parts k qs))) (patterns_few k qs (omega arith))
    pattern_few k (tree.StrandPattern qs) h = both_true _ _ (few _ (omega (arith, few_parts k qs))) (patterns_few k qs h)

    patterns_few : (k : ℕ) (qs : tree.Patterns) → patterns_size qs ≤ 2 ^ 28 → all_lists_are_few (patterns (patterns_code uses cs ns how k qs)) ≡ true
    patterns_few k tree.no_patterns h = refl
    patterns_few k (tree.and_patterns q qs) h = both_true _ _ (pattern_few k q (omega arith)) (more_few (k + (in_leaves q).uses) qs (omega arith))

    more_few : (k : ℕ) (qs : tree.Patterns) → more_size qs ≤ 2 ^ 28 → all_lists_are_few (patterns (patterns_code uses cs ns how k qs)) ≡ true
    more_few k tree.no_patterns h = refl
    more_few k (tree.and_patterns q qs) h = both_true _ _ (pattern_few k q (omega arith)) (more_few (k + (in_leaves q).uses) qs (omega arith))
