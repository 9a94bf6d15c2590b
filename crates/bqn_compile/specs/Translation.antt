-- The code of a program: this project's own.
use Rattle.std.specs.Prelude.{true, List, [], ◌∷◌, slice_get, None, Result, Ok, Err}
use Rattle.bqn_base.specs.declared.refusal.Refusal.{Refusal}
use Rattle.bqn_syntax.specs.declared.tree.Class.TheVariants as class
use Rattle.bqn_syntax.specs.grammar.Trees.{Stmts, body}
use Rattle.bqn_syntax.specs.grammar.Classes.{Both}
use Rattle.bqn_syntax.specs.scope.Scope as scope
use Rattle.bqn_syntax.specs.scope.Bodies.{BodyNames, Resolution}
use Rattle.bqn_code.specs.declared.code.Block.{Block}
use Rattle.bqn_code.specs.Plain.{Code}
use Rattle.bqn_compile.specs.declared.count.Count.{Count}
use Rattle.bqn_compile.specs.Gathering.{Gathered, Most, the_most, gathered}
use Rattle.bqn_compile.specs.Expressions.{Setting}
use Rattle.bqn_compile.specs.Bodies.{names_in, body_code}
use Rattle.bqn_compile.specs.Blocks.{stmts_blocks}

-- the program and its body come before everything else
abbrev pub at_start : Count
at_start = record { uses = 0; blocks = 1; bodies = 1; patterns = 0 }

abbrev pub setting : List scope.Use → Gathered → Setting
setting uses pools = record { uses = uses; constants = pools.constants; names = pools.names }

abbrev pub program : Setting → List BodyNames → Stmts → Block
program g names ss = record { class = class.Immediate; parent = 0; bodies = body_code g (names_in (slice_get names 0)) Both at_start (body None ss) ∷ [] }

-- the code of a tree with these bodies and uses, and with these pools
abbrev pub translation : Resolution → Gathered → Stmts → Code
translation r pools ss = record {
  placed = true;
  names = pools.names;
  constants = pools.constants;
  patterns = pools.patterns;
  blocks = program (setting r.uses pools) r.bodies ss ∷ stmts_blocks (setting r.uses pools) r.bodies 0 ss at_start;
}

abbrev pub with_pools : Resolution → Stmts → Result Gathered Refusal → Result Code Refusal
with_pools r ss (Ok pools) = Ok (translation r pools ss)
with_pools r ss (Err refusal) = Err refusal

-- where there may be so many constants, names and blocks
abbrev pub translated_within : Most → Resolution → Stmts → Result Code Refusal
translated_within m r ss = with_pools r ss (gathered m r.uses ss)

-- the code of a tree, or the first token of the text that is one too many
abbrev pub translated : Resolution → Stmts → Result Code Refusal
translated = translated_within the_most
