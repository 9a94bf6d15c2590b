-- The bodies of translated code are verified.
use Rattle.std.proofs.Common.{◌≡◌, ℕ, true, false, slice_get, IsTrue, List}
use Rattle.std.specs.List.{list_all}
use Rattle.bqn_syntax.specs.declared.tree.Class.{Class}
use Rattle.bqn_syntax.specs.grammar.Trees.{Stmts, BodyTree, body}
use Rattle.bqn_syntax.specs.blocks.Exporting.{stmts_export}
use Rattle.bqn_syntax.specs.scope.Bodies.{Resolution}
use Rattle.bqn_syntax.specs.grammar.Classes.{waits}
use Rattle.bqn_syntax.specs.grammar.Well.{WellStmts}
use Rattle.bqn_code.specs.Plain.{Code}
use Rattle.bqn_code.specs.Heights.{is_balanced}
use Rattle.bqn_code.specs.Conditions as is
use Rattle.bqn_compile.specs.declared.count.Count.{Count}
use Rattle.bqn_compile.specs.Counting as counting
use Rattle.bqn_compile.specs.Gathering.{Gathered}
use Rattle.bqn_compile.specs.Bodies.{names_in, body_code, calls_of}
use Rattle.bqn_compile.specs.Translation.{at_start, setting, translation}
use Rattle.bqn_syntax.specs.declared.token.Token.{Token}
use Rattle.bqn_compile.specs.Sources.{FromSource}
use Rattle.bqn_compile.proofs.verified.bodies.EveryBody.{EveryInProgram, every-body}
use Rattle.bqn_compile.proofs.verified.stacks.BodyStacks.{body_balanced}
use Rattle.bqn_compile.proofs.verified.bodies.BodyFits.{BodyFits}
use Rattle.bqn_compile.proofs.verified.bodies.BodyInstructions.{body_runs, program_goes_on}
use Rattle.bqn_compile.proofs.verified.bodies.SpecialNames.{no_special_names}
use Rattle.bqn_compile.proofs.verified.bodies.WellBodies.{Fitting, well_bodies_fit}
use Rattle.bqn_compile.proofs.verified.blocks.HaveBodies.{stmts_have}

-- the program, the kinds and classes of bodies, and their stacks
pub record BodiesVerified (code : Code) : Type 0 where
  pub program : IsTrue (is.has_program code)
  pub bodies : IsTrue (is.blocks_have_bodies code)
  pub kinds : IsTrue (is.kinds_fit code)
  pub classes : IsTrue (is.classes_fit code)
  pub stacks : IsTrue (is.stacks_are_balanced code)

body_kind_fits : (r : Resolution) (pools : Gathered) (kind : Class) (k plain before : ℕ) (c : Count) (x : BodyTree) → BodyFits kind plain x →
    is.is_kind_for (waits kind) (body_code (setting r.uses pools) (names_in (slice_get r.bodies k)) (calls_of plain before x) c x).kind ≡ true
body_kind_fits r pools kind k plain before c (body h ss) fits = fits.kind before

module _ (r : Resolution) (pools : Gathered) (ss : Stmts) (well : WellStmts false ss) where
  bodies_there : is.blocks_have_bodies (translation r pools ss) ≡ true
  bodies_there = (stmts_have (setting r.uses pools) r.bodies 0 ss at_start false well).all

  program_there : is.has_program (translation r pools ss) ≡ true
  program_there = program_goes_on (setting r.uses pools) (stmts_export ss) (counting.past at_start counting.nothing) ss well

  module _ (every : EveryInProgram Fitting ss) where
    kinds_there : is.kinds_fit (translation r pools ss) ≡ true
    kinds_there = every-body Fitting (λ b. is.is_kind_for (waits b.block.class) b.body.kind) r pools ss (λ kind b n k plain before bodies c x h. body_kind_fits r pools kind k plain before c x h) every

    classes_there : is.classes_fit (translation r pools ss) ≡ true
    classes_there = every-body Fitting (λ b. list_all (λ i. is.is_run_on b.block.class i) b.body.code) r pools ss
        (λ kind b n k plain before bodies c x h. body_runs kind (setting r.uses pools) (names_in (slice_get r.bodies k)) (calls_of plain before x) c plain x h) every

    stacks_there : is.stacks_are_balanced (translation r pools ss) ≡ true
    stacks_there = every-body Fitting (λ b. is_balanced 0 b.body.code) r pools ss
        (λ kind b n k plain before bodies c x h. body_balanced (setting r.uses pools) (names_in (slice_get r.bodies k)) (calls_of plain before x) c x h.well) every

pub bodies_verified : (outer : List (List ℕ)) (ss : Stmts) (tokens : List Token) (r : Resolution) (pools : Gathered) → FromSource outer ss tokens r → BodiesVerified (translation r pools ss)
bodies_verified outer ss tokens r pools source =
    let every : EveryInProgram Fitting ss = well_bodies_fit ss (no_special_names outer ss r source.resolves) source.well.statements in
    record {
      program = program_there r pools ss source.well.statements;
      bodies = bodies_there r pools ss source.well.statements;
      kinds = kinds_there r pools ss source.well.statements every;
      classes = classes_there r pools ss source.well.statements every;
      stacks = stacks_there r pools ss source.well.statements every;
    }
