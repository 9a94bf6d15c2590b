-- The blocks and names of a code are few.
use Rattle.std.proofs.Common.{◌≡◌, ◌≤◌, suc, ◌+◌, List, length, Ok, subst, arith}
use Rattle.bqn_syntax.specs.declared.token.Token.{Token}
use Rattle.bqn_syntax.specs.grammar.Trees.{Stmts}
use Rattle.bqn_syntax.specs.grammar.Spells.{Spells}
use Rattle.bqn_syntax.specs.scope.Bodies.{Resolution}
use Rattle.bqn_code.specs.declared.code.Block.{Block}
use Rattle.bqn_code.specs.Plain.{Code}
use Rattle.bqn_compile.specs.Counting.{in_stmts}
use Rattle.bqn_compile.specs.Gathering.{Gathered, the_most, gathered}
use Rattle.bqn_compile.specs.Blocks.{stmts_blocks}
use Rattle.bqn_compile.specs.Translation.{at_start, setting, translation}
use Rattle.bqn_compile.specs.Laws.{BlocksAndNamesAreFew}
use Rattle.bqn_compile.proofs.verified.blocks.BlockCounts.{stmts_counts}
use Rattle.bqn_compile.proofs.verified.blocks.Sizes.{stmts_size, spelled_size}
use Rattle.bqn_compile.proofs.verified.pools.GatheredNames.{few_gathered}
use Rattle.bqn_compile.proofs.verified.TheCode.{IsTranslation, is_translation}

pub translation_few : (r : Resolution) (ss : Stmts) (tokens : List Token) (pools : Gathered) → Spells ss tokens → gathered the_most r.uses ss ≡ Ok pools → length (translation r pools ss).blocks + length (translation r pools ss).names ≤ suc (length tokens)
translation_few r ss tokens pools f e =
    let inner : List Block = stmts_blocks (setting r.uses pools) r.bodies 0 ss at_start in
    let many : length inner ≡ (in_stmts ss).blocks = (stmts_counts (setting r.uses pools) r.bodies 0 ss at_start).blocks in
    let few : (in_stmts ss).blocks + length pools.names ≤ stmts_size ss = few_gathered the_most r.uses ss pools e in
    let spelled : stmts_size ss ≤ length tokens = spelled_size ss tokens f in
    omega arith

pub blocks_and_names_few : BlocksAndNamesAreFew
blocks_and_names_few ss tokens r code f q =
    let p : IsTranslation r ss code = is_translation r ss code q in
    subst (λ (c : Code). length c.blocks + length c.names ≤ suc (length tokens)) p.is (translation_few r ss tokens p.pools f p.gathers)

pub ruleset blocks_and_names_laws = (blocks_and_names_few)
