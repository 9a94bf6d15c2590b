-- Tables in which each instruction names a variable, a block or an operand that its body has, and the laws on running their code: this
-- project's own.
use Rattle.std.specs.Prelude.{◌≡◌, ℕ, zero, suc, ◌≤◌, max, Bool, true, not, List, [], ◌∷◌, ◌++◌, IsTrue, slice_get, Option, Some, None}
use Rattle.std.specs.Option.{option_map}
use Rattle.std.specs.List.{All}
use Rattle.bqn_base.specs.declared.place.Place.{Place}
use Rattle.bqn_rows.specs.Plain.{Value}
use Rattle.bqn_rows.specs.Calls.{Call, System, called_system}
use Rattle.bqn_syntax.specs.declared.tree.Class.{Class}
use Rattle.bqn_syntax.specs.declared.tree.Class.TheVariants as class
use Rattle.bqn_code.specs.declared.instr.Instr.{Instr}
use Rattle.bqn_code.specs.declared.instr.Instr.TheVariants as instr
use Rattle.bqn_code.specs.declared.code.Body.{Body}
use Rattle.bqn_code.specs.declared.code.Block.{Block}
use Rattle.bqn_code.specs.Plain.{Pattern, Define, Change, Code}
use Rattle.bqn_code.specs.Numbering.{Placed, Table, BlockAt, BodyAt, block_number, body_number, parent_of, table_of}
use Rattle.bqn_code.specs.Conditions.{is_immediate, is_below, leaves, pattern_passes}
use Rattle.bqn_code.specs.Conditions as condition
use Rattle.bqn_code.specs.Verified.{Verified}
use Rattle.bqn_execution.specs.States.{Environment, State}
use Rattle.bqn_execution.specs.Variables.{Frame}
use Rattle.bqn_execution.specs.Operands.{Stack}
use Rattle.bqn_execution.specs.Execution.{exec, runs}
use Rattle.bqn_execution.specs.Programs.{Kept, begun, codes_with, exec_within, fresh, kept_behind, state_of}
use Rattle.bqn_execution.specs.Soundness.{Each, Sound, Standing, Good, GoodIfAny, GoodStack, GoodEnding, Fine, GivenCallsKeep, Keeps, LooksUp}

-- ---- how many variables there are

-- of the top bodies of all codes, which share an environment
abbrev pub program_slots : List Body → ℕ
program_slots [] = 0
program_slots (body ∷ bodies) = body.slots

abbrev pub top_slots : List Block → ℕ
top_slots [] = 0
top_slots (block ∷ blocks) = program_slots block.bodies

abbrev pub widest : List Code → ℕ
widest [] = 0
widest (code ∷ codes) = max (top_slots code.blocks) (widest codes)

-- of the body so many bodies up, where a top body has so many
abbrev pub width_up : Table → (top up body : ℕ) → Option ℕ
width_up t top zero zero = Some top
width_up t top zero (suc k) = option_map (λ y. y.body.slots) (slice_get t.bodies (suc k))
width_up t top (suc up) zero = None
width_up t top (suc up) (suc k) = width_up t top up (parent_of t (suc k))

-- ---- what an instruction names

module _ (t : Table) (top body : ℕ) where
  abbrev pub names_slot : (up slot : ℕ) → Bool
  names_slot up slot = is_below slot (width_up t top up body)

  abbrev pub leaf_names_slot : Pattern → Bool
  leaf_names_slot (Define slot name) = names_slot 0 slot
  leaf_names_slot (Change up slot name) = names_slot up slot
  leaf_names_slot p = true

  -- a block of this code that stands in the body
  pub record BlockInside (here : Placed) (fits : Class → Type 0) (b : ℕ) : Type 0 where
    pub before : ℕ
    pub is_number : block_number here b ≡ suc before
    pub block : BlockAt
    pub is_block : slice_get t.blocks (block_number here b) ≡ Some block
    pub class_fits : fits block.block.class
    pub stands : body_number block.here block.block.parent ≡ body

  -- an instruction of the body, whose block is of this class
  abbrev pub Names : (here : Placed) → Class → Instr → Type 0
  Names here c (instr.Load up slot) = IsTrue (names_slot up slot)
  Names here c (instr.Define slot) = IsTrue (names_slot 0 slot)
  Names here c (instr.Change up slot) = IsTrue (names_slot up slot)
  Names here c (instr.Bind k) = IsTrue (pattern_passes (leaves leaf_names_slot) (slice_get here.code.patterns k))
  Names here c (instr.Match k) = IsTrue (pattern_passes (leaves leaf_names_slot) (slice_get here.code.patterns k))
  Names here c (instr.Block b) = BlockInside here (λ d. IsTrue (not (is_immediate d))) b
  Names here c (instr.Run b) = BlockInside here (λ d. IsTrue (is_immediate d)) b
  Names here c i = IsTrue (condition.is_run_on c i)

-- ---- tables

module _ (t : Table) (top : ℕ) where
  -- a body of a block, with this number in its own code, is in the table, and its instructions name what is there
  pub record FormedBody (b : BlockAt) (k : ℕ) (body : Body) : Type 0 where
    pub before : ℕ
    pub is_number : body_number b.here k ≡ suc before
    pub is_body : slice_get t.bodies (body_number b.here k) ≡ Some (record { here = b.here; parent = body_number b.here b.block.parent; body = body })
    pub code : Each (Names t top (body_number b.here k) b.here b.block.class) body.code

  abbrev pub FormedBodies : BlockAt → (first : ℕ) → List Body → Type 0
  FormedBodies b k [] = Unit {0}
  FormedBodies b k (body ∷ bodies) = FormedBody b k body × FormedBodies b (suc k) bodies

  pub record FormedTop (y : BodyAt) : Type 0 where
    pub slots : y.body.slots ≤ top
    pub code : Each (Names t top 0 y.here class.Immediate) y.body.code

  pub record FormedTable : Type 0 where
    pub blocks : (k : ℕ) (b : BlockAt) → slice_get t.blocks (suc k) ≡ Some b → FormedBodies b b.first b.block.bodies
    pub program : (y : BodyAt) → slice_get t.bodies 0 ≡ Some y → FormedTop y

-- ---- the laws

-- what is kept between codes is sound for the codes so far
abbrev pub SoundKept : Kept → Type 0
SoundKept kept = Sound (table_of kept.codes) (widest kept.codes) kept.environments

-- from a sound kept state on, where `•args` has no block
pub record ProgramKeeps (room : ℕ) (args : Value) (kept : Kept) (code : Code) : Type 0 where
  pub run : Keeps (table_of (codes_with kept code)) (widest (codes_with kept code)) (begun (table_of (codes_with kept code)) (state_of kept)).environments
      (GoodIfAny (table_of (codes_with kept code))) (exec_within room args kept code)
  pub behind : SoundKept (kept_behind kept code (exec_within room args kept code))

-- Verified code names what is there; in a frame that stands, in a sound state, each instruction then finds what it looks up; and code,
-- calls and programs keep states sound.
pub record VerifiedCodeFindsWhatItNames : Type 0 where
  pub of_tables : (codes : List Code) (code : Code) → All Verified codes → Verified code →
      FormedTable (table_of (codes ++ code ∷ [])) (widest (codes ++ code ∷ []))
  pub of_instructions : (t : Table) (top : ℕ) (f : Frame) (i : Instr) (s : State) →
      Sound t top s.environments → Standing t s.environments f → Names t top f.body f.here f.class i → LooksUp t f s i
  pub of_code : (t : Table) (top : ℕ) (args : Value) (room : ℕ) (f : Frame) (code : List (Instr × Place)) (st : Stack) (s : State) →
      FormedTable t top → GivenCallsKeep t → Good t [] args → Sound t top s.environments → Standing t s.environments f →
      Each (λ i. Names t top f.body f.here f.class i.0) code → GoodStack t s.environments st →
      Keeps t top s.environments (GoodEnding t) (exec t args (runs t args room) f code st s)
  pub of_calls : (t : Table) (top : ℕ) (args : Value) (room : ℕ) (c : Call) (s : State) →
      FormedTable t top → GivenCallsKeep t → Good t [] args → Sound t top s.environments → Fine t s.environments c →
      Keeps t top s.environments (Good t) (runs t args room c s)
  -- the part of the premise on given values that isn't owed: the system functions
  pub of_systems : (t : Table) (es : List Environment) (f : Option System) (w : Option Value) (x : Value) → Good t es x → Fine t es (called_system f w x)
  pub of_first : (steps : ℕ) → SoundKept (fresh steps)
  pub of_programs : (room : ℕ) (args : Value) (kept : Kept) (code : Code) → All Verified kept.codes → Verified code →
      GivenCallsKeep (table_of (codes_with kept code)) → Good (table_of (codes_with kept code)) [] args → SoundKept kept → ProgramKeeps room args kept code
