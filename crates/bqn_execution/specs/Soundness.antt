-- States, values and frames in which every look-up finds what it names: the environments have the bodies and the variables that code
-- expects, a block's value has its block and an environment of the body in which that block stands, and operands stand in modifiers.
-- This project's own.
use Rattle.std.specs.Prelude.{◌≡◌, ℕ, zero, suc, ◌<◌, ◌≤◌, nat_eq, Bool, not, ◌&&◌, List, [], ◌∷◌, length, is_some, IsTrue, slice_get, Option, Some, None, Result, Ok, Err}
use Rattle.std.specs.Option.{option_map}
use Rattle.bqn_rows.specs.Plain.{Maker, Value, Number, Character, Array, Given, Derived, Function, Modifier1, Modifier2, Namespace, Values, none, more, Fill, unfilled, filled, count}
use Rattle.bqn_rows.specs.Raised.{Raised, Answer}
use Rattle.bqn_rows.specs.Calls.{Arguments, no_arguments, alone, two, Call, End, Enter, Turn, Write, Inside, given_call, modifier_to_come}
use Rattle.bqn_rows.specs.Running.{Res, Gives, Ends}
use Rattle.bqn_syntax.specs.declared.tree.Class.{Class}
use Rattle.bqn_syntax.specs.declared.tree.Class.TheVariants as class
use Rattle.bqn_syntax.specs.grammar.Classes.{waits}
use Rattle.bqn_meaning.specs.Frames.{right_of, left_operand, right_operand, modifier_of}
use Rattle.bqn_meaning.specs.Meaning.{Ending, NextBody, EndsWith}
use Rattle.bqn_code.specs.declared.instr.Instr.{Instr}
use Rattle.bqn_code.specs.declared.instr.Instr.TheVariants as instr
use Rattle.bqn_code.specs.Plain.{Pattern, Define, Change, ListPattern, Patterns, no_patterns, and_patterns}
use Rattle.bqn_code.specs.Numbering.{Table, BlockAt, BodyAt, block_number, body_number}
use Rattle.bqn_code.specs.Conditions.{is_immediate, is_modifier2}
use Rattle.bqn_execution.specs.States.{Environment, State, Halted, Spends, Sticks}
use Rattle.bqn_execution.specs.Variables.{Frame, place}
use Rattle.bqn_execution.specs.Operands.{Stack}

abbrev pub Each : {A : Type 0} → (A → Type 0) → List A → Type 0
Each P [] = Unit {0}
Each P (x ∷ xs) = P x × Each P xs

-- of what is there, if anything is
abbrev pub OfSome : {A : Type 0} → (A → Type 0) → Option A → Type 0
OfSome P None = Unit {0}
OfSome P (Some x) = P x

-- ---- environments

-- what of an environment no instruction changes; the width is how many variables it has
pub record Shape : Type 0 where
  pub body : ℕ
  pub parent : ℕ
  pub width : ℕ

abbrev pub shape : Environment → Shape
shape e = record { body = e.body; parent = e.parent; width = length e.variables }

abbrev pub shape_at : List Environment → ℕ → Option Shape
shape_at es n = option_map shape (slice_get es n)

-- environments are only added, and keep their shapes
abbrev pub Later : (before after : List Environment) → Type 0
Later u w = (n : ℕ) (x : Shape) → shape_at u n ≡ Some x → shape_at w n ≡ Some x

-- the body for which the environment with this number was made
abbrev pub body_at : List Environment → ℕ → Option ℕ
body_at es n = option_map (λ x. x.body) (shape_at es n)

-- ---- blocks behind values

-- how many operands a block of this class is run on
abbrev pub operands_of : Class → ℕ
operands_of class.Immediate = 0
operands_of class.Function = 0
operands_of class.Mod1 = 1
operands_of class.Mod1Deferred = 1
operands_of class.Mod2 = 2
operands_of class.Mod2Deferred = 2

abbrev pub is_modifier1 : Class → Bool
is_modifier1 c = nat_eq (operands_of c) 1

-- a block of this class, with its operands, is a function
abbrev pub is_function : (operands : ℕ) → Class → Bool
is_function n c = waits c && nat_eq n (operands_of c)

-- a block of this class is run on so many operands and these arguments
abbrev pub is_run_on : (operands : ℕ) → Arguments → Class → Bool
is_run_on n no_arguments c = not (waits c) && nat_eq n (operands_of c)
is_run_on n (alone x) c = is_function n c
is_run_on n (two w x) c = is_function n c

-- a block with this number, not a program's, of a fitting class; and an environment that was made for the body in which it stands
pub record Behind (t : Table) (es : List Environment) (fits : Class → Type 0) (number environment : ℕ) : Type 0 where
  pub before : ℕ
  pub is_number : number ≡ suc before
  pub block : BlockAt
  pub is_block : slice_get t.blocks number ≡ Some block
  pub class_fits : fits block.block.class
  pub made : body_at es environment ≡ Some (body_number block.here block.block.parent)

-- ---- values

-- among these environments
module _ (t : Table) (es : List Environment) where
  abbrev mutual
    -- each block value, modifier and namespace in a value has its block and its environment
    pub Good : Value → Type 0
    Good (Number n) = Unit {0}
    Good (Character c) = Unit {0}
    Good (Array shape xs f) = AllGood xs × GoodFill f
    Good (Given code) = Unit {0}
    Good (Derived maker parts) = AllGood parts
    Good (Function b e operands) = Behind t es (λ c. IsTrue (is_function (count operands) c)) b e × AllGood operands
    Good (Modifier1 b e) = Behind t es (λ c. IsTrue (is_modifier1 c)) b e
    Good (Modifier2 b e) = Behind t es (λ c. IsTrue (is_modifier2 c)) b e
    Good (Namespace e) = IsTrue (is_some (body_at es e))

    pub AllGood : Values → Type 0
    AllGood none = Unit {0}
    AllGood (more x xs) = Good x × AllGood xs

    pub GoodFill : Fill → Type 0
    GoodFill unfilled = Unit {0}
    GoodFill (filled v) = Good v

  abbrev pub GoodIfAny : Option Value → Type 0
  GoodIfAny x = OfSome Good x

  abbrev pub GoodStack : Stack → Type 0
  GoodStack st = Each GoodIfAny st

  abbrev pub GoodArguments : Arguments → Type 0
  GoodArguments no_arguments = Unit {0}
  GoodArguments (alone x) = Good x
  GoodArguments (two w x) = Good w × Good x

  abbrev pub GoodAnswer : Answer → Type 0
  GoodAnswer (Ok v) = Good v
  GoodAnswer (Err f) = Unit {0}

  abbrev pub GoodEnding : Ending → Type 0
  GoodEnding NextBody = Unit {0}
  GoodEnding (EndsWith p x) = GoodIfAny x

-- a call enters blocks as their classes ask, on good values, and ends in good ones, whatever good answers come
abbrev pub Fine : Table → List Environment → Call → Type 0
Fine t es (End r) = GoodAnswer t es r
Fine t es (Enter b e operands arguments go) =
    Behind t es (λ c. IsTrue (is_run_on (count operands) arguments c)) b e × AllGood t es operands × GoodArguments t es arguments
    × ((u : List Environment) → Later es u → (r : Answer) → GoodAnswer t u r → Fine t u (go r))
Fine t es (Turn go) = (u : List Environment) → Later es u → Fine t u (go tt)
Fine t es (Write text go) = (u : List Environment) → Later es u → Fine t u (go tt)
Fine t es (Inside c go) = Fine t es c × ((u : List Environment) → Later es u → (r : Answer) → GoodAnswer t u r → Fine t u (go r))

-- What a given value answers has no block, modifier or namespace but from its arguments and operands. It is owed with the rows of
-- arrays and with the modifiers.
pub record GivenCallsKeep (t : Table) : Type 0 where
  pub functions : (es : List Environment) (code : ℕ) (w : Option Value) (x : Value) → GoodIfAny t es w → Good t es x → Fine t es (given_call code w x)
  pub modifiers : (es : List Environment) (maker : Maker) (operands : Values) (w : Option Value) (x : Value) →
      AllGood t es operands → GoodIfAny t es w → Good t es x → Fine t es (modifier_to_come maker operands w x)

-- ---- states

-- Where the top environment has at least so many variables: environments of top bodies are shared. Any other environment was made for a
-- body in the table, with its variables, within one that was made for the body around it.
module _ (t : Table) (top : ℕ) (es : List Environment) where
  pub record MadeWithin (e : Environment) : Type 0 where
    pub body : BodyAt
    pub is_body : slice_get t.bodies e.body ≡ Some body
    pub width : body.body.slots ≤ length e.variables
    pub parent : body_at es e.parent ≡ Some body.parent

  abbrev pub Made : Environment → (body : ℕ) → Type 0
  Made e zero = top ≤ length e.variables
  Made e (suc k) = MadeWithin e

  pub record SoundEnvironment (e : Environment) : Type 0 where
    pub made : Made e e.body
    pub values : Each (GoodIfAny t es) e.variables

pub record Sound (t : Table) (top : ℕ) (es : List Environment) : Type 0 where
  pub program : body_at es 0 ≡ Some 0
  pub environments : Each (SoundEnvironment t top es) es

-- From these environments on, an answer is good, and ends and answers leave a sound state.
abbrev pub Keeps : (t : Table) (top : ℕ) {A : Type 0} → List Environment → (List Environment → A → Type 0) → Res Halted State (Result A Raised) → Type 0
Keeps t top es Answers (Gives (Ok x) s) = Later es s.environments × Sound t top s.environments × Answers s.environments x
Keeps t top es Answers (Gives (Err f) s) = Later es s.environments × Sound t top s.environments
Keeps t top es Answers (Ends (Spends s)) = Later es s.environments × Sound t top s.environments
Keeps t top es Answers (Ends (Sticks u)) = Unit {0}

-- ---- frames

-- the frame's environment was made for its body; a block that isn't immediate is there, so that its own value is good
pub record Standing (t : Table) (es : List Environment) (f : Frame) : Type 0 where
  pub made : body_at es f.environment ≡ Some f.body
  pub block : IsTrue (not (is_immediate f.class)) → Behind t es (λ c. c ≡ f.class) f.block f.outer
  pub is_run_on : IsTrue (is_run_on (count f.operands) f.arguments f.class)
  pub operands : AllGood t es f.operands
  pub arguments : GoodArguments t es f.arguments

-- ---- what an instruction looks up

-- the environment so many bodies up is there, and has this slot
pub record SlotThere (t : Table) (f : Frame) (up slot : ℕ) (s : State) : Type 0 where
  pub number : ℕ
  pub is_place : place t f up s ≡ Some number
  pub environment : Environment
  pub is_there : slice_get s.environments number ≡ Some environment
  pub has_slot : slot < length environment.variables

module _ (t : Table) (f : Frame) (s : State) where
  abbrev mutual
    pub LeavesThere : Pattern → Type 0
    LeavesThere (Define slot name) = SlotThere t f 0 slot s
    LeavesThere (Change up slot name) = SlotThere t f up slot s
    LeavesThere (ListPattern ps) = AllLeavesThere ps
    LeavesThere p = Unit {0}

    pub AllLeavesThere : Patterns → Type 0
    AllLeavesThere no_patterns = Unit {0}
    AllLeavesThere (and_patterns p ps) = LeavesThere p × AllLeavesThere ps

  -- what an instruction looks up is there
  abbrev pub LooksUp : Instr → Type 0
  LooksUp (instr.Load up slot) = SlotThere t f up slot s
  LooksUp (instr.Define slot) = SlotThere t f 0 slot s
  LooksUp (instr.Change up slot) = SlotThere t f up slot s
  LooksUp (instr.Bind k) = OfSome LeavesThere (slice_get f.here.code.patterns k)
  LooksUp (instr.Match k) = OfSome LeavesThere (slice_get f.here.code.patterns k)
  LooksUp (instr.Block b) = Behind t s.environments (λ c. IsTrue (not (is_immediate c))) (block_number f.here b) f.environment
  LooksUp (instr.Run b) = Behind t s.environments (λ c. IsTrue (is_immediate c)) (block_number f.here b) f.environment
  LooksUp instr.Right = IsTrue (is_some (right_of f.arguments))
  LooksUp instr.Own = Good t s.environments (Function f.block f.outer f.operands)
  LooksUp instr.LeftOperand = IsTrue (is_some (left_operand f.operands))
  LooksUp instr.RightOperand = IsTrue (is_some (right_operand f.operands))
  LooksUp instr.Modifier = IsTrue (is_some (modifier_of f.class f.block f.outer))
  LooksUp i = Unit {0}
