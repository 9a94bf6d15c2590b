-- What a body of the source and its code share where they run.
use Rattle.std.proofs.Common.{◌≡◌, ℕ, ◌+◌, ◌<◌, List, slice_get, Some}
use Rattle.bqn_syntax.specs.blocks.Blocks.{class_of}
use Rattle.bqn_meaning.specs.Environments as s
use Rattle.bqn_meaning.specs.Frames.{Setting, Frame}
use Rattle.bqn_code.specs.declared.code.Block.{Block}
use Rattle.bqn_execution.specs.States as c
use Rattle.bqn_code.specs.Numbering as numbering
use Rattle.bqn_code.specs.Numbering.{Placed, Table}
use Rattle.bqn_simulation.specs.Views.{view, Agree}
use Rattle.bqn_simulation.proofs.running.Variables.{Linked}
use Rattle.bqn_simulation.proofs.running.Fields.{Exporting}

-- the blocks of a code have their classes in the table
abbrev pub IsPlaced : Table → Placed → Type 0
IsPlaced tb here = (k : ℕ) (b : Block) → slice_get here.code.blocks k ≡ Some b → 0 < k → numbering.class_of tb (here.blocks + k) ≡ Some b.class

-- what both sides share, where the code of a body is
pub record Shared (names : ℕ → List (List ℕ)) (tb : Table) (here : Placed) (g : Setting) (f : Frame) (h : s.Calling) (h2 : c.Calling) : Type 0 where
  pub linked : Linked names tb f.scopes
  pub agree : Agree (view names) h h2
  pub classes : (k : ℕ) → class_of g.blocks k ≡ numbering.class_of tb k
  pub exporting : Exporting names tb g.blocks
  pub placed : IsPlaced tb here
