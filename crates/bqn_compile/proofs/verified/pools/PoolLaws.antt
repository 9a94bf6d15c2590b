-- The code of a source is verified, as far as its pools go.
use Rattle.std.proofs.Common.{◌≡◌, ◌≤◌, ◌^◌, ℕ, Bool, true, length, slice_get, nat_le, arith, IsTrue, List, [], ◌∷◌, Ok}
use Rattle.std.specs.List.{list_all}
use Rattle.std.proofs.lemmas.Bool.{lt-ltb, le-leb}
use Rattle.bqn_syntax.specs.declared.token.Token.{Token}
use Rattle.bqn_syntax.specs.grammar.Trees.{Stmts, BodyTree, body}
use Rattle.bqn_syntax.specs.grammar.Trees as tree
use Rattle.bqn_syntax.specs.scope.Order.{How}
use Rattle.bqn_syntax.specs.scope.Bodies.{Resolution}
use Rattle.bqn_code.specs.declared.instr.Instr.{Instr}
use Rattle.bqn_code.specs.Plain.{Pattern, Code}
use Rattle.bqn_code.specs.Standing.{every_body, every_instr}
use Rattle.bqn_code.specs.Conditions as is
use Rattle.bqn_code.specs.Conditions.{leaves, has_name, leaf_constant_is_there, leaf_name_is_there, instr_constant_is_there, instr_name_is_there, instr_pattern_is_there, is_given_code, binds_no_literal, begins_with_letter, nesting, is_few, lists_are_few}
use Rattle.bqn_compile.specs.declared.count.Count.{Count}
use Rattle.bqn_compile.specs.Patterns.{pattern_code}
use Rattle.bqn_compile.specs.Gathering.{Gathered, the_most, gathered}
use Rattle.bqn_compile.specs.Bodies.{names_in, calls_of, exports_code, body_code}
use Rattle.bqn_compile.specs.Translation.{at_start, setting, translation}
use Rattle.bqn_compile.specs.Sources.{FromSource}
use Rattle.bqn_compile.proofs.verified.Tests.{both_true}
use Rattle.bqn_compile.proofs.verified.bodies.EveryBody.{every-body}
use Rattle.bqn_compile.proofs.verified.pools.Items.{Item, Alone, Fields, Taken, Opened, Shown, stmts_items}
use Rattle.bqn_compile.proofs.verified.pools.CodePasses.{Tested, body_passes}
use Rattle.bqn_compile.proofs.verified.pools.HeldBodies.{Held, program_holds}
use Rattle.bqn_compile.proofs.verified.pools.PatternCodes.{pattern_constants, pattern_names, pattern_nesting, pattern_few}
use Rattle.bqn_compile.proofs.verified.pools.PoolFacts.{Facts, FoundTaken, SourcePools, source_pools, each_as}
use Rattle.bqn_compile.proofs.verified.pools.PoolTests as tests
use Rattle.bqn_compile.proofs.verified.pools.PoolExports.{exports_there, exports_pooled}

-- each constant, name and pattern that is named is there and well, and there are not too many of them
pub record PoolsVerified (code : Code) : Type 0 where
  pub constants : IsTrue (is.constants_are_there code)
  pub names : IsTrue (is.names_are_there code)
  pub patterns : IsTrue (is.patterns_are_there code)
  pub given_values : IsTrue (is.given_values_are_there code)
  pub letters : IsTrue (is.names_begin_with_letters code)
  pub literals : IsTrue (is.literals_are_matched code)
  pub flat_patterns : IsTrue (is.patterns_are_flat code)
  pub few_constants : IsTrue (is.constants_are_few code)
  pub few_names : IsTrue (is.names_are_few code)
  pub few_patterns : IsTrue (is.patterns_are_few code)

module _ (ss : Stmts) (r : Resolution) (pools : Gathered) (s : SourcePools r.uses pools ss) where
  abbrev code : Code
  code = translation r pools ss

  every_passes : (test : Instr → Bool) → Tested (Facts r.uses pools) (setting r.uses pools) test → every_instr (λ body i. test i) code ≡ true
  every_passes test t =
      every-body (Held (Facts r.uses pools)) (λ b. list_all test b.body.code) r pools ss
      (λ kind b n k plain before bodies c x h. body_passes (Facts r.uses pools) (setting r.uses pools) test t (names_in (slice_get r.bodies k)) (calls_of plain before x) c x h)
      (program_holds (Facts r.uses pools) ss s.facts)

  exports_are : (all : (k : ℕ) → list_all (λ e. has_name code e.0) (exports_code pools.names (names_in (slice_get r.bodies k)).exports) ≡ true) → every_body (λ b. list_all (λ e. has_name code e.0) b.body.exports) code ≡ true
  exports_are all =
      every-body (Held (Facts r.uses pools)) (λ b. list_all (λ e. has_name code e.0) b.body.exports) r pools ss (λ kind b n k plain before bodies c x h. by k plain before c x)
      (program_holds (Facts r.uses pools) ss s.facts)
    where
      by : (k plain before : ℕ) (c : Count) (x : BodyTree) → list_all (λ e. has_name code e.0) (body_code (setting r.uses pools) (names_in (slice_get r.bodies k)) (calls_of plain before x) c x).exports ≡ true
      by k plain before c (body h ss) = all k

  -- a test that each pattern passes
  patterns_pass : (test : Pattern → Bool) → ((c : Count) (l : Bool) (how : How) (q : tree.Pattern) (f : Facts r.uses pools c (Taken l how q)) → test (pattern_code r.uses f.pooled.constants f.pooled.names how c.uses q) ≡ true) → list_all test pools.patterns ≡ true
  patterns_pass test h = s.patterns test (each_as (Facts r.uses pools) (FoundTaken test pools.patterns) at_start (stmts_items ss) found s.facts)
    where
      found : (c : Count) (x : Item) → Facts r.uses pools c x → FoundTaken test pools.patterns c x
      found c (Alone how t) f = tt
      found c (Fields ts) f = tt
      found c (Taken l how q) f = record { pattern = pattern_code r.uses f.pooled.constants f.pooled.names how c.uses q; there = f.pooled.there; passes = h c l how q f }
      found c (Opened place n) f = tt
      found c (Shown q) f = tt

  few : (n : ℕ) → n ≤ 2 ^ 28 → is_few n ≡ true
  few n h = lt-ltb n (2 ^ 32) (omega arith)

  flat : (c : Count) (l : Bool) (how : How) (q : tree.Pattern) (f : Facts r.uses pools c (Taken l how q)) → nat_le (nesting (pattern_code r.uses f.pooled.constants f.pooled.names how c.uses q)) 257 ≡ true
  flat c l how q f = le-leb _ 257 (omega (arith, pattern_nesting r.uses f.pooled.constants f.pooled.names how l c.uses q f.well.pattern, f.well.depth))

  verified_pools : ((k : ℕ) → list_all (λ e. has_name code e.0) (exports_code pools.names (names_in (slice_get r.bodies k)).exports) ≡ true) → PoolsVerified code
  verified_pools exports = record {
    constants = both_true _ _ (every_passes (instr_constant_is_there code) (tests.constants_tested r pools ss))
        (patterns_pass (leaves (leaf_constant_is_there code)) (λ c l how q f. pattern_constants r.uses f.pooled.constants f.pooled.names how code f.pooled.more_constants f.pooled.more_names c.uses q f.pooled.pooled));
    names = both_true _ _ (every_passes (instr_name_is_there code) (tests.names_tested r pools ss))
        (both_true _ _
        (patterns_pass (leaves (leaf_name_is_there code)) (λ c l how q f. pattern_names r.uses f.pooled.constants f.pooled.names how code f.pooled.more_constants f.pooled.more_names l c.uses q f.well.pattern f.pooled.pooled))
        (exports_are exports));
    patterns = every_passes (instr_pattern_is_there code) (tests.patterns_tested r pools ss);
    given_values = every_passes is_given_code (tests.given_tested r pools ss);
    letters = s.passes begins_with_letter (λ name h l. h);
    literals = every_passes (binds_no_literal code) (tests.literals_tested r pools ss);
    flat_patterns = patterns_pass (λ p. nat_le (nesting p) 257) flat;
    few_constants = both_true _ _ (le-leb (length pools.constants) 65535 s.few_constants) s.texts;
    few_names = both_true _ _ (few (length pools.names) s.few_names) (s.passes (λ name. is_few (length name)) (λ name h l. few (length name) l));
    few_patterns = both_true _ _ (few (length pools.patterns) s.few_patterns) (patterns_pass lists_are_few (λ c l how q f. pattern_few r.uses f.pooled.constants f.pooled.names how c.uses q f.size));
  }

pub pools_verified : (outer : List (List ℕ)) (ss : Stmts) (tokens : List Token) (r : Resolution) (pools : Gathered) → FromSource outer ss tokens r → gathered the_most r.uses ss ≡ Ok pools → PoolsVerified (translation r pools ss)
pools_verified outer ss tokens r pools from gathers =
    let s = source_pools outer ss tokens r pools from gathers in
    verified_pools ss r pools s (λ k. exports_there pools.constants pools.names (names_in (slice_get r.bodies k)).exports (exports_pooled outer ss r pools from.resolves s k))
