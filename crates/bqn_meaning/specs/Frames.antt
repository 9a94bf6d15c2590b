-- Where an expression stands, and what literals and names mean there: BQN's pages on tokens, on blocks and on system values.
use Rattle.std.specs.Prelude.{ℕ, ◌+◌, nat_lt, if◌then◌else◌, List, [], ◌∷◌, length, map, position, Option, Some, None, Result, Ok, Err}
use Rattle.bqn_base.specs.declared.fault.Fault.{Fault}
use Rattle.bqn_base.specs.declared.fault.Fault.TheVariants.{Undefined}
use Rattle.bqn_rows.specs.Plain.{Value, Number, Character, Given, Function, Modifier1, Modifier2, Values, none, more, values}
use Rattle.bqn_rows.specs.Limits.{array}
use Rattle.bqn_rows.specs.Arrays.{text_value, and_then, all_ok}
use Rattle.bqn_rows.specs.Calls.{Arguments, no_arguments, alone, two}
use Rattle.bqn_syntax.specs.declared.token.Special.{Special}
use Rattle.bqn_syntax.specs.declared.token.Special.TheVariants as special
use Rattle.bqn_syntax.specs.declared.token.Kind.{Kind}
use Rattle.bqn_syntax.specs.declared.token.Kind.TheVariants as kind
use Rattle.bqn_syntax.specs.declared.tree.Class.{Class}
use Rattle.bqn_syntax.specs.declared.tree.Class.TheVariants as class
use Rattle.bqn_syntax.specs.scope.Scope.{same_name, system_names}
use Rattle.bqn_meaning.specs.Actions.{Action, ◌>>=◌, pure, known}
use Rattle.bqn_syntax.specs.blocks.Blocks.{Numbered, Block}
use Rattle.bqn_meaning.specs.Environments.{Does, look}

-- what no evaluation changes: the blocks by their numbers, and the value of `•args`
pub record Setting : Type 0 where
  pub blocks : List Block
  pub args : Value

-- a run of a block: its number, the environment where its value was made, and what it is run on
pub record Entry : Type 0 where
  pub block : ℕ
  pub outer : ℕ
  pub operands : Values
  pub arguments : Arguments

-- The body and those around it, and its environment; the block, its class, the environment where it was made, and what it is run
-- on.
pub record Frame : Type 0 where
  pub scopes : List Numbered
  pub environment : ℕ
  pub block : ℕ
  pub class : Class
  pub outer : ℕ
  pub operands : Values
  pub arguments : Arguments

-- ---- literals

-- the value of `•args` for these words
abbrev pub args_value : List (List ℕ) → Result Value Fault
args_value words = and_then (all_ok (map text_value words)) (λ texts. array (length words ∷ []) (values texts) None)

-- a number, a character or a text
abbrev pub literal : Kind → Result Value Fault
literal (kind.Number z) = Ok (Number z)
literal (kind.Char c) = Ok (Character c)
literal (kind.Text cs) = text_value cs
literal _ = Err Undefined

-- ---- special names

abbrev pub left_of : Arguments → Option Value
left_of (two w x) = Some w
left_of _ = None

abbrev pub right_of : Arguments → Option Value
right_of no_arguments = None
right_of (alone x) = Some x
right_of (two w x) = Some x

abbrev pub left_operand : Values → Option Value
left_operand none = None
left_operand (more f fs) = Some f

abbrev pub right_operand : Values → Option Value
right_operand (more f (more g gs)) = Some g
right_operand _ = None

-- a block's modifier
abbrev pub modifier_of : Class → (block environment : ℕ) → Option Value
modifier_of class.Mod1 b e = Some (Modifier1 b e)
modifier_of class.Mod1Deferred b e = Some (Modifier1 b e)
modifier_of class.Mod2 b e = Some (Modifier2 b e)
modifier_of class.Mod2Deferred b e = Some (Modifier2 b e)
modifier_of _ b e = None

-- what is there; in a block of a class that has such a name it always is
abbrev pub there : Option Value → Result (Option Value) Fault
there None = Err Undefined
there (Some v) = Ok (Some v)

-- a special name; `𝕨` may be Nothing, and so would `𝕩` be where nothing is given
abbrev pub special_value : Frame → Special → Result (Option Value) Fault
special_value f special.Left = Ok (left_of f.arguments)
special_value f special.Right = Ok (right_of f.arguments)
special_value f special.Own = Ok (Some (Function f.block f.outer f.operands))
special_value f special.LeftOperand = there (left_operand f.operands)
special_value f special.RightOperand = there (right_operand f.operands)
special_value f special.Modifier = there (modifier_of f.class f.block f.outer)

-- ---- system values

-- the system functions have the codes behind the primitives; `•args` is the last name
abbrev pub system_at : Value → Option ℕ → Result (Option Value) Fault
system_at args None = Err Undefined
system_at args (Some k) = Ok (Some (if nat_lt k 5 then Given (64 + k) else args))

abbrev pub system_value : Value → List ℕ → Result (Option Value) Fault
system_value args name = system_at args (position (λ other. same_name other name) system_names)

-- ---- a token

-- a value as a part gives it
abbrev pub given : {X S : Type 0} → Value → Action X S (Option Value)
given v = pure (Some v)

abbrev pub leaf : Setting → Frame → Kind → Does (Option Value)
leaf g f (kind.Word name r) = look f.scopes f.environment name >>= given
leaf g f (kind.Special s r) = known (special_value f s)
leaf g f (kind.System name r) = known (system_value g.args name)
leaf g f (kind.Given code) = given (Given code)
leaf g f k = known (literal k) >>= given
