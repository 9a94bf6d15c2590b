-- Each instruction in small codes, run.
use Rattle.std.proofs.Common.{◌≡◌, List, [], ◌∷◌, ◌++◌, Some, None, refl}
use lib.Chars.{codes}
use Rattle.bqn_rows.specs.Raised.{unplaced}
use Rattle.bqn_base.specs.declared.fault.Fault.TheVariants.{Domain, Undefined, NoBody, NotCallable, NothingUsed}
use Rattle.bqn_rows.specs.Plain.{Atop, One, Two, Character, Array, Given, Derived, Function, Modifier1, Modifier2, Namespace, none, more, unfilled, filled}
use Rattle.bqn_syntax.specs.declared.tree.Class.TheVariants as class
use Rattle.bqn_code.specs.declared.instr.Instr.{Instr}
use Rattle.bqn_code.specs.declared.instr.Instr.TheVariants as i
use Rattle.bqn_code.specs.declared.code.Body.{Body}
use Rattle.bqn_execution.specs.Programs.{Outcome, Done, Faulted, Stuck, outcome, exec_program}
use Rattle.bqn_code.proofs.SmallCodes.{body, body_for, block, program, code}
use Rattle.bqn_execution.proofs.SmallRuns.{n, m, runs, straight, with_block}

-- ---- constants, given values and calls

constants : straight (i.Const 3 ∷ i.Return ∷ []) ≡ Done (Some (n 3))
constants = refl

character : straight (i.Const 6 ∷ i.Return ∷ []) ≡ Done (Some (Character 120))
character = refl

text : straight (i.Const 7 ∷ i.Return ∷ []) ≡ Done (Some (Array (2 ∷ []) (more (Character 97) (more (Character 98) none)) unfilled))
text = refl

empty_text : straight (i.Const 8 ∷ i.Return ∷ []) ≡ Done (Some (Array (0 ∷ []) none (filled (Character 32))))
empty_text = refl

no_constant : straight (i.Const 9 ∷ i.Return ∷ []) ≡ Stuck
no_constant = refl

given_function : straight (i.Given 68 ∷ i.Return ∷ []) ≡ Done (Some (Given 68))
given_function = refl

arguments_of_the_command : straight (i.Given 69 ∷ i.Return ∷ []) ≡ Done (Some (Array (0 ∷ []) none unfilled))
arguments_of_the_command = refl

-- an empty word has the space as fill
words : outcome (exec_program (code [] (program 0 (i.Given 69 ∷ i.Return ∷ []) ∷ [])) (codes "a" ∷ [] ∷ []) 1) ≡
    Done (Some (Array (2 ∷ []) (more (Array (1 ∷ []) (more (Character 97) none) unfilled) (more (Array (0 ∷ []) none (filled (Character 32))) none)) unfilled))
words = refl

no_given_value : straight (i.Given 70 ∷ i.Return ∷ []) ≡ Stuck
no_given_value = refl

-- `2-5`: the right argument, the function, the left argument
call_with_two : straight (i.Const 5 ∷ i.Given 1 ∷ i.Const 2 ∷ i.Call2 ∷ i.Return ∷ []) ≡ Done (Some (m 2))
call_with_two = refl

call_with_one : straight (i.Const 5 ∷ i.Given 1 ∷ i.Call1 ∷ i.Return ∷ []) ≡ Done (Some (m 4))
call_with_one = refl

call_of_constant : straight (i.Const 5 ∷ i.Const 4 ∷ i.Call1 ∷ i.Return ∷ []) ≡ Done (Some (n 4))
call_of_constant = refl

call_of_modifier : straight (i.Const 5 ∷ i.Given 44 ∷ i.Call1 ∷ i.Return ∷ []) ≡ Faulted (unplaced NotCallable)
call_of_modifier = refl

-- ---- Nothing

empty_program : straight (i.Nothing ∷ i.Return ∷ []) ≡ Done None
empty_program = refl

dropped : straight (i.Nothing ∷ i.Pop ∷ i.Const 1 ∷ i.Return ∷ []) ≡ Done (Some (n 1))
dropped = refl

nothing_left : straight (i.Const 5 ∷ i.Given 1 ∷ i.Nothing ∷ i.Call2 ∷ i.Return ∷ []) ≡ Done (Some (m 4))
nothing_left = refl

-- no call is made, so a modifier there is no fault
nothing_right : straight (i.Nothing ∷ i.Given 44 ∷ i.Const 1 ∷ i.Call2 ∷ i.Return ∷ []) ≡ Done None
nothing_right = refl

nothing_called : straight (i.Nothing ∷ i.Nothing ∷ i.Call1 ∷ i.Return ∷ []) ≡ Faulted (unplaced NothingUsed)
nothing_called = refl

nothing_derived : straight (i.Const 1 ∷ i.Nothing ∷ i.Derive1 ∷ i.Return ∷ []) ≡ Faulted (unplaced NothingUsed)
nothing_derived = refl

nothing_defined : straight (i.Nothing ∷ i.Define 0 ∷ i.Return ∷ []) ≡ Faulted (unplaced NothingUsed)
nothing_defined = refl

-- before the variable is looked for
nothing_changed : straight (i.Nothing ∷ i.Change 0 0 ∷ i.Return ∷ []) ≡ Faulted (unplaced NothingUsed)
nothing_changed = refl

nothing_listed : straight (i.Const 1 ∷ i.Nothing ∷ i.List 2 ∷ i.Return ∷ []) ≡ Faulted (unplaced NothingUsed)
nothing_listed = refl

nothing_field : straight (i.Nothing ∷ i.Field 0 ∷ i.Return ∷ []) ≡ Faulted (unplaced NothingUsed)
nothing_field = refl

nothing_answered : with_block class.Immediate (body 0 (i.Nothing ∷ i.Return ∷ []) ∷ []) (i.Run 1 ∷ i.Return ∷ []) ≡ Faulted (unplaced NothingUsed)
nothing_answered = refl

-- ---- variables

defined : straight (i.Const 1 ∷ i.Define 0 ∷ i.Pop ∷ i.Const 2 ∷ i.Change 0 0 ∷ i.Pop ∷ i.Load 0 0 ∷ i.Return ∷ []) ≡ Done (Some (n 2))
defined = refl

-- what is stored stays on the stack
kept_on_the_stack : straight (i.Const 4 ∷ i.Define 1 ∷ i.Return ∷ []) ≡ Done (Some (n 4))
kept_on_the_stack = refl

undefined : straight (i.Load 0 0 ∷ i.Return ∷ []) ≡ Faulted (unplaced Undefined)
undefined = refl

undefined_changed : straight (i.Const 1 ∷ i.Change 0 0 ∷ i.Return ∷ []) ≡ Faulted (unplaced Undefined)
undefined_changed = refl

-- `a←1⋄{a↩3}⋄a`: a body changes what the body around it defines
outer_changed : with_block class.Immediate (body 0 (i.Const 3 ∷ i.Change 1 0 ∷ i.Return ∷ []) ∷ []) (i.Const 1 ∷ i.Define 0 ∷ i.Pop ∷ i.Run 1 ∷ i.Pop ∷ i.Load 0 0 ∷ i.Return ∷ []) ≡ Done (Some (n 3))
outer_changed = refl

-- ---- lists, trains and derived functions

list : straight (i.Const 1 ∷ i.Const 2 ∷ i.List 2 ∷ i.Return ∷ []) ≡ Done (Some (Array (2 ∷ []) (more (n 1) (more (n 2) none)) unfilled))
list = refl

empty_list : straight (i.List 0 ∷ i.Return ∷ []) ≡ Done (Some (Array (0 ∷ []) none unfilled))
empty_list = refl

-- `(-+)5` after `+` and `-` are read from the right
train_of_two : straight (i.Const 5 ∷ i.Given 0 ∷ i.Given 1 ∷ i.Train2 ∷ i.Call1 ∷ i.Return ∷ []) ≡ Done (Some (m 4))
train_of_two = refl

-- `2(+×-)5`
train_of_three : straight (i.Const 5 ∷ i.Given 1 ∷ i.Given 2 ∷ i.Given 0 ∷ i.Train3 ∷ i.Const 2 ∷ i.Call2 ∷ i.Return ∷ []) ≡ Done (Some (m 20))
train_of_three = refl

train_without_left : straight (i.Given 1 ∷ i.Given 2 ∷ i.Nothing ∷ i.Train3 ∷ i.Return ∷ []) ≡ Done (Some (Derived Atop (more (Given 2) (more (Given 1) none))))
train_without_left = refl

train_without_middle : straight (i.Given 1 ∷ i.Nothing ∷ i.Given 2 ∷ i.Train3 ∷ i.Return ∷ []) ≡ Faulted (unplaced NothingUsed)
train_without_middle = refl

derived_by_one : straight (i.Given 45 ∷ i.Given 1 ∷ i.Derive1 ∷ i.Return ∷ []) ≡ Done (Some (Derived (One 45) (more (Given 1) none)))
derived_by_one = refl

-- the right operand, the modifier, the left operand
derived_by_two : straight (i.Given 0 ∷ i.Given 53 ∷ i.Given 1 ∷ i.Derive2 ∷ i.Return ∷ []) ≡ Done (Some (Derived (Two 53) (more (Given 1) (more (Given 0) none))))
derived_by_two = refl

derived_by_function : straight (i.Given 0 ∷ i.Given 1 ∷ i.Derive1 ∷ i.Return ∷ []) ≡ Faulted (unplaced NotCallable)
derived_by_function = refl

derived_by_other_kind : straight (i.Given 53 ∷ i.Given 1 ∷ i.Derive1 ∷ i.Return ∷ []) ≡ Faulted (unplaced NotCallable)
derived_by_other_kind = refl

-- ---- blocks

abbrev successor : List Body
successor = body 0 (i.Const 1 ∷ i.Given 0 ∷ i.Right ∷ i.Call2 ∷ i.Return ∷ []) ∷ []

block_function : with_block class.Function successor (i.Const 4 ∷ i.Block 1 ∷ i.Call1 ∷ i.Return ∷ []) ≡ Done (Some (n 5))
block_function = refl

block_value : with_block class.Function successor (i.Block 1 ∷ i.Return ∷ []) ≡ Done (Some (Function 1 0 none))
block_value = refl

immediate_block : with_block class.Immediate (body 0 (i.Const 4 ∷ i.Return ∷ []) ∷ []) (i.Run 1 ∷ i.Return ∷ []) ≡ Done (Some (n 4))
immediate_block = refl

immediate_block_as_value : with_block class.Immediate successor (i.Block 1 ∷ i.Return ∷ []) ≡ Stuck
immediate_block_as_value = refl

function_is_not_run : with_block class.Function successor (i.Run 1 ∷ i.Return ∷ []) ≡ Stuck
function_is_not_run = refl

-- `⟨𝕨,𝕩⟩` with a left argument, and without one
abbrev both_arguments : List Body
both_arguments = body 0 (i.Left ∷ i.Right ∷ i.List 2 ∷ i.Return ∷ []) ∷ []

with_left : with_block class.Function both_arguments (i.Const 4 ∷ i.Block 1 ∷ i.Const 5 ∷ i.Call2 ∷ i.Return ∷ []) ≡ Done (Some (Array (2 ∷ []) (more (n 5) (more (n 4) none)) unfilled))
with_left = refl

without_left : with_block class.Function both_arguments (i.Const 4 ∷ i.Block 1 ∷ i.Call1 ∷ i.Return ∷ []) ≡ Faulted (unplaced NothingUsed)
without_left = refl

-- bodies for the two kinds of call
abbrev two_kinds : List Body
two_kinds = body_for 1 0 (i.Const 1 ∷ i.Return ∷ []) ∷ body_for 2 0 (i.Const 2 ∷ i.Return ∷ []) ∷ []

for_calls_without : with_block class.Function two_kinds (i.Const 4 ∷ i.Block 1 ∷ i.Call1 ∷ i.Return ∷ []) ≡ Done (Some (n 1))
for_calls_without = refl

-- a body that is skipped takes no step
for_calls_with : runs 2 (code [] (program 0 (i.Const 4 ∷ i.Block 1 ∷ i.Const 5 ∷ i.Call2 ∷ i.Return ∷ []) ∷ block class.Function 0 two_kinds ∷ [])) ≡ Done (Some (n 2))
for_calls_with = refl

-- and where no body is meant, none is taken
for_no_call : runs 1 (code [] (program 0 (i.Const 4 ∷ i.Block 1 ∷ i.Call1 ∷ i.Return ∷ []) ∷ block class.Function 0 (body_for 2 0 (i.Const 2 ∷ i.Return ∷ []) ∷ []) ∷ [])) ≡ Faulted (unplaced NoBody)
for_no_call = refl

own_value : with_block class.Function (body 0 (i.Own ∷ i.Return ∷ []) ∷ []) (i.Const 4 ∷ i.Block 1 ∷ i.Call1 ∷ i.Return ∷ []) ≡ Done (Some (Function 1 0 none))
own_value = refl

-- a modifier that runs once it has its operand, and one that waits for arguments
modifier_at_once : with_block class.Mod1 (body 0 (i.Const 5 ∷ i.LeftOperand ∷ i.Call1 ∷ i.Return ∷ []) ∷ []) (i.Block 1 ∷ i.Given 1 ∷ i.Derive1 ∷ i.Return ∷ []) ≡ Done (Some (m 4))
modifier_at_once = refl

abbrev deferred : List Body
deferred = body 0 (i.Right ∷ i.LeftOperand ∷ i.Call1 ∷ i.Return ∷ []) ∷ []

modifier_deferred : with_block class.Mod1Deferred deferred (i.Const 5 ∷ i.Block 1 ∷ i.Given 1 ∷ i.Derive1 ∷ i.Call1 ∷ i.Return ∷ []) ≡ Done (Some (m 4))
modifier_deferred = refl

function_of_deferred : with_block class.Mod1Deferred deferred (i.Block 1 ∷ i.Given 1 ∷ i.Derive1 ∷ i.Return ∷ []) ≡ Done (Some (Function 1 0 (more (Given 1) none)))
function_of_deferred = refl

right_operand : with_block class.Mod2 (body 0 (i.Const 5 ∷ i.RightOperand ∷ i.Call1 ∷ i.Return ∷ []) ∷ []) (i.Given 1 ∷ i.Block 1 ∷ i.Given 0 ∷ i.Derive2 ∷ i.Return ∷ []) ≡ Done (Some (m 4))
right_operand = refl

function_of_two_operands : with_block class.Mod2Deferred deferred (i.Given 1 ∷ i.Block 1 ∷ i.Given 0 ∷ i.Derive2 ∷ i.Return ∷ []) ≡ Done (Some (Function 1 0 (more (Given 0) (more (Given 1) none))))
function_of_two_operands = refl

own_modifier : with_block class.Mod1 (body 0 (i.Modifier ∷ i.Return ∷ []) ∷ []) (i.Block 1 ∷ i.Given 1 ∷ i.Derive1 ∷ i.Return ∷ []) ≡ Done (Some (Modifier1 1 0))
own_modifier = refl

own_modifier_of_two : with_block class.Mod2 (body 0 (i.Modifier ∷ i.Return ∷ []) ∷ []) (i.Given 1 ∷ i.Block 1 ∷ i.Given 0 ∷ i.Derive2 ∷ i.Return ∷ []) ≡ Done (Some (Modifier2 1 0))
own_modifier_of_two = refl

other_modifier : with_block class.Mod2 deferred (i.Block 1 ∷ i.Given 1 ∷ i.Derive1 ∷ i.Return ∷ []) ≡ Faulted (unplaced NotCallable)
other_modifier = refl

-- ---- predicates

abbrev checked : List Instr → Outcome
checked is = with_block class.Immediate (body 0 (is ++ i.Check ∷ i.Const 4 ∷ i.Return ∷ []) ∷ body 0 (i.Const 5 ∷ i.Return ∷ []) ∷ []) (i.Run 1 ∷ i.Return ∷ [])

check_of_one : checked (i.Const 1 ∷ []) ≡ Done (Some (n 4))
check_of_one = refl

check_of_zero : checked (i.Const 0 ∷ []) ≡ Done (Some (n 5))
check_of_zero = refl

check_of_two : checked (i.Const 2 ∷ []) ≡ Faulted (unplaced Domain)
check_of_two = refl

check_of_character : checked (i.Const 6 ∷ []) ≡ Faulted (unplaced Domain)
check_of_character = refl

check_of_nothing : checked (i.Nothing ∷ []) ≡ Faulted (unplaced NothingUsed)
check_of_nothing = refl

-- ---- ends

two_values_left : straight (i.Const 1 ∷ i.Const 2 ∷ i.Return ∷ []) ≡ Stuck
two_values_left = refl

no_value_left : straight (i.Return ∷ []) ≡ Stuck
no_value_left = refl

no_end : straight (i.Const 1 ∷ []) ≡ Stuck
no_end = refl

no_operand : straight (i.Const 1 ∷ i.Call1 ∷ i.Return ∷ []) ≡ Stuck
no_operand = refl

too_short_list : straight (i.Const 1 ∷ i.List 2 ∷ i.Return ∷ []) ≡ Stuck
too_short_list = refl

space : straight (i.Space ∷ []) ≡ Done (Some (Namespace 0))
space = refl

space_with_value : straight (i.Const 1 ∷ i.Space ∷ []) ≡ Stuck
space_with_value = refl

no_pattern : straight (i.Const 1 ∷ i.Bind 0 ∷ i.Return ∷ []) ≡ Stuck
no_pattern = refl
