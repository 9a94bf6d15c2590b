-- The code of a tree that comes from a source is verified: all conditions together.
use Rattle.std.proofs.Common.{◌≡◌, ℕ, List, Result, Ok, Err, subst}
use Rattle.std.specs.Prelude.{IfOk}
use Rattle.bqn_syntax.specs.declared.token.Token.{Token}
use Rattle.bqn_syntax.specs.grammar.Trees.{Stmts}
use Rattle.bqn_syntax.specs.scope.Bodies.{Resolution}
use Rattle.bqn_code.specs.declared.code.Code.{Code as CodeCode}
use Rattle.bqn_code.specs.Plain.{code_of}
use Rattle.bqn_code.specs.Verified.{Verified}
use Rattle.bqn_compile.specs.Gathering.{Gathered, the_most, gathered}
use Rattle.bqn_compile.specs.declared.error.CompileError.{CompileError}
use Rattle.bqn_compile.specs.Translation.{translation, translated}
use Rattle.bqn_compile.specs.Shown.{CompilesTo}
use Rattle.bqn_compile.specs.Sources.{FromSource}
use Rattle.bqn_compile.specs.Laws.{IsVerified, HasFew, TranslatedCodeIsVerified}
use Rattle.bqn_compile.proofs.verified.TheCode.{IsTranslation, is_translation}
use Rattle.bqn_compile.proofs.verified.bodies.Bodies.{BodiesVerified, bodies_verified}
use Rattle.bqn_compile.proofs.verified.blocks.Blocks.{BlocksVerified, blocks_verified}
use Rattle.bqn_compile.proofs.verified.slots.Slots.{SlotsVerified, slots_verified}
use Rattle.bqn_compile.proofs.verified.blocks.BlocksAndNames.{blocks_and_names_few}
use Rattle.bqn_compile.proofs.verified.pools.PoolLaws.{PoolsVerified, pools_verified}

translation_verified : (outer : List (List ℕ)) (ss : Stmts) (tokens : List Token) (r : Resolution) (pools : Gathered) → FromSource outer ss tokens r → gathered the_most r.uses ss ≡ Ok pools → Verified (translation r pools ss)
translation_verified outer ss tokens r pools source e =
    let of_bodies : BodiesVerified (translation r pools ss) = bodies_verified outer ss tokens r pools source in
    let of_blocks : BlocksVerified (translation r pools ss) = blocks_verified outer ss tokens r pools source e in
    let of_slots : SlotsVerified (translation r pools ss) = slots_verified outer ss tokens r pools source e in
    let of_pools : PoolsVerified (translation r pools ss) = pools_verified outer ss tokens r pools source e in
    record {
      program = of_bodies.program;
      parents = of_blocks.parents;
      blocks_inside = of_blocks.blocks_inside;
      immediate = of_blocks.immediate;
      bodies = of_bodies.bodies;
      kinds = of_bodies.kinds;
      constants = of_pools.constants;
      names = of_pools.names;
      patterns = of_pools.patterns;
      given_values = of_pools.given_values;
      letters = of_pools.letters;
      slots = of_slots.slots;
      literals = of_pools.literals;
      flat_patterns = of_pools.flat_patterns;
      classes = of_bodies.classes;
      exports = of_slots.exports;
      distinct_exports = of_slots.distinct_exports;
      few_constants = of_pools.few_constants;
      few_names = of_pools.few_names;
      few_patterns = of_pools.few_patterns;
      few_blocks = of_blocks.few_blocks;
      stacks = of_bodies.stacks;
    }

pub code_verified : TranslatedCodeIsVerified
code_verified outer ss tokens r code source q =
    let it : IsTranslation r ss code = is_translation r ss code q in
    subst Verified it.is (translation_verified outer ss tokens r it.pools source it.gathers)

-- what was given is verified, and has few blocks and names
pub given_verified : (ss : Stmts) (r : Resolution) (result : Result CodeCode CompileError) → CompilesTo (translated r ss) result → IfOk result (λ code. IsVerified ss r (code_of code))
given_verified ss r (Ok code) e = λ outer tokens source. code_verified outer ss tokens r (code_of code) source e
given_verified ss r (Err error) e = tt

pub given_few : (ss : Stmts) (r : Resolution) (result : Result CodeCode CompileError) → CompilesTo (translated r ss) result → IfOk result (λ code. HasFew ss (code_of code))
given_few ss r (Ok code) e = λ tokens spells. blocks_and_names_few ss tokens r (code_of code) spells e
given_few ss r (Err error) e = tt
