-- Codes that are verified, and codes at each of which one condition fails.
use Rattle.std.proofs.Common.{◌≡◌, ℕ, zero, suc, pos, List, [], ◌∷◌, ◌++◌, Bool, true, false, refl}
use lib.Chars.{codes}
use Rattle.bqn_syntax.specs.declared.tree.Class.{Class}
use Rattle.bqn_syntax.specs.declared.tree.Class.TheVariants as class
use Rattle.bqn_code.specs.declared.constant.Const.{Const}
use Rattle.bqn_code.specs.declared.constant.Const.TheVariants as const
use Rattle.bqn_code.specs.declared.instr.Instr.{Instr}
use Rattle.bqn_code.specs.declared.instr.Instr.TheVariants as i
use Rattle.bqn_code.specs.declared.code.Body.{Body}
use Rattle.bqn_code.specs.declared.code.Block.{Block}
use Rattle.bqn_code.specs.Plain.{Pattern, Skip, Define, Change, ListPattern, Literal, patterns, Code}
use Rattle.bqn_code.specs.Conditions as is
use Rattle.bqn_code.specs.Verified.{Verified}
use Rattle.bqn_code.proofs.SmallCodes.{body, body_for, exporting, block, program, code}

-- `2+3`
abbrev sum : Code
sum = record { placed = false; names = []; constants = const.Number (pos 2) ∷ const.Number (pos 3) ∷ []; patterns = []; blocks = program 0 (i.Const 1 ∷ i.Given 0 ∷ i.Const 0 ∷ i.Call2 ∷ i.Return ∷ []) ∷ [] }

sum_is_verified : Verified sum
sum_is_verified = record {
  program = refl;
  parents = refl;
  blocks_inside = refl;
  immediate = refl;
  bodies = refl;
  kinds = refl;
  constants = refl;
  names = refl;
  patterns = refl;
  given_values = refl;
  letters = refl;
  slots = refl;
  literals = refl;
  flat_patterns = refl;
  classes = refl;
  exports = refl;
  distinct_exports = refl;
  few_constants = refl;
  few_names = refl;
  few_patterns = refl;
  few_blocks = refl;
  stacks = refl;
}

-- blocks of four classes in one another, patterns of all kinds, exports and every way to go on
abbrev all_kinds : Code
all_kinds = code (ListPattern (patterns (Define 0 0 ∷ Skip ∷ Change 1 1 1 ∷ [])) ∷ ListPattern (patterns (Literal 7 ∷ Define 1 1 ∷ [])) ∷ [])
    (program 2 (i.Const 1 ∷ i.Define 1 ∷ i.Pop ∷ i.Run 1 ∷ i.Field 0 ∷ i.Given 53 ∷ i.Block 3 ∷ i.Given 1 ∷ i.Derive2 ∷ i.Given 44 ∷ i.Given 0 ∷ i.Derive1 ∷ i.Train2 ∷ i.Given 2 ∷ i.Nothing ∷ i.Train3 ∷ i.Call1 ∷ i.Return ∷ [])
    ∷ block class.Immediate 0 (exporting ((0, 0) ∷ (1, 1) ∷ []) 2 (i.Const 1 ∷ i.Const 2 ∷ i.Const 3 ∷ i.List 3 ∷ i.Bind 0 ∷ i.Block 2 ∷ i.Call1 ∷ i.Pop ∷ i.Space ∷ []) ∷ [])
    ∷ block class.Function 1 (body_for 1 2 (i.Right ∷ i.Match 1 ∷ i.Load 2 1 ∷ i.Return ∷ []) ∷ body_for 2 0 (i.Left ∷ i.Check ∷ i.Own ∷ i.Return ∷ []) ∷ [])
    ∷ block class.Mod2Deferred 0 (body 0 (i.Right ∷ i.RightOperand ∷ i.LeftOperand ∷ i.Call2 ∷ i.Change 1 1 ∷ i.Modifier ∷ i.Pop ∷ i.Return ∷ []) ∷ []) ∷ [])

all_kinds_are_verified : Verified all_kinds
all_kinds_are_verified = record {
  program = refl;
  parents = refl;
  blocks_inside = refl;
  immediate = refl;
  bodies = refl;
  kinds = refl;
  constants = refl;
  names = refl;
  patterns = refl;
  given_values = refl;
  letters = refl;
  slots = refl;
  literals = refl;
  flat_patterns = refl;
  classes = refl;
  exports = refl;
  distinct_exports = refl;
  few_constants = refl;
  few_names = refl;
  few_patterns = refl;
  few_blocks = refl;
  stacks = refl;
}

-- ---- the program

abbrev one : List Body
one = body 0 (i.Nothing ∷ i.Return ∷ []) ∷ []

no_block : is.has_program (code [] []) ≡ false
no_block = refl

program_of_other_class : is.has_program (code [] (block class.Function 0 one ∷ [])) ≡ false
program_of_other_class = refl

program_with_parent : is.has_program (code [] (block class.Immediate 1 one ∷ [])) ≡ false
program_with_parent = refl

program_of_two_bodies : is.has_program (code [] (block class.Immediate 0 (one ++ one) ∷ [])) ≡ false
program_of_two_bodies = refl

program_of_other_kind : is.has_program (code [] (block class.Immediate 0 (body_for 1 0 (i.Nothing ∷ i.Return ∷ []) ∷ []) ∷ [])) ≡ false
program_of_other_kind = refl

program_with_check : is.has_program (code [] (program 0 (i.Const 1 ∷ i.Check ∷ i.Nothing ∷ i.Return ∷ []) ∷ [])) ≡ false
program_with_check = refl

program_with_match : is.has_program (code [] (program 0 (i.Const 1 ∷ i.Match 0 ∷ i.Nothing ∷ i.Return ∷ []) ∷ [])) ≡ false
program_with_match = refl

-- ---- blocks and bodies

-- a program, and behind it blocks
abbrev with_blocks : List Instr → List Block → Code
with_blocks xs blocks = code [] (program 0 xs ∷ blocks)

abbrev empty : List Instr
empty = i.Nothing ∷ i.Return ∷ []

parent_of_itself : is.parents_come_first (with_blocks empty (block class.Function 1 one ∷ [])) ≡ false
parent_of_itself = refl

last_body_of_the_block_before : is.parents_come_first (with_blocks empty (block class.Function 0 (one ++ one) ∷ block class.Function 2 one ∷ [])) ≡ true
last_body_of_the_block_before = refl

block_elsewhere : is.blocks_stand_in_parents (with_blocks (i.Block 2 ∷ i.Return ∷ []) (block class.Function 0 one ∷ block class.Function 1 one ∷ [])) ≡ false
block_elsewhere = refl

block_that_is_missing : is.blocks_stand_in_parents (with_blocks (i.Block 1 ∷ i.Return ∷ []) []) ≡ false
block_that_is_missing = refl

program_is_not_run : is.blocks_stand_in_parents (with_blocks (i.Run 0 ∷ i.Return ∷ []) []) ≡ false
program_is_not_run = refl

function_is_not_run : is.immediate_blocks_are_run (with_blocks (i.Run 1 ∷ i.Return ∷ []) (block class.Function 0 one ∷ [])) ≡ false
function_is_not_run = refl

immediate_block_as_value : is.immediate_blocks_are_run (with_blocks (i.Block 1 ∷ i.Return ∷ []) (block class.Immediate 0 one ∷ [])) ≡ false
immediate_block_as_value = refl

block_without_body : is.blocks_have_bodies (with_blocks empty (block class.Function 0 [] ∷ [])) ≡ false
block_without_body = refl

kind_three : is.kinds_fit (with_blocks empty (block class.Function 0 (body_for 3 0 empty ∷ []) ∷ [])) ≡ false
kind_three = refl

kind_of_immediate : is.kinds_fit (with_blocks empty (block class.Mod1 0 (body_for 1 0 empty ∷ []) ∷ [])) ≡ false
kind_of_immediate = refl

kind_of_deferred : is.kinds_fit (with_blocks empty (block class.Mod1Deferred 0 (body_for 2 0 empty ∷ []) ∷ [])) ≡ true
kind_of_deferred = refl

-- ---- constants, names, patterns and given values; there are nine constants and two names

abbrev straight : List Pattern → List Instr → Code
straight ps xs = code ps (program 2 xs ∷ [])

constant_missing : is.constants_are_there (straight [] (i.Const 9 ∷ i.Return ∷ [])) ≡ false
constant_missing = refl

-- patterns count also where nothing names them
literal_missing : is.constants_are_there (straight (ListPattern (patterns (Literal 9 ∷ [])) ∷ []) empty) ≡ false
literal_missing = refl

field_name_missing : is.names_are_there (straight [] (i.Nothing ∷ i.Field 2 ∷ i.Return ∷ [])) ≡ false
field_name_missing = refl

leaf_name_missing : is.names_are_there (straight (Define 0 2 ∷ []) empty) ≡ false
leaf_name_missing = refl

exported_name_missing : is.names_are_there (with_blocks empty (block class.Immediate 0 (exporting ((2, 0) ∷ []) 1 (i.Space ∷ []) ∷ []) ∷ [])) ≡ false
exported_name_missing = refl

pattern_missing : is.patterns_are_there (straight (Skip ∷ []) (i.Const 1 ∷ i.Bind 1 ∷ i.Return ∷ [])) ≡ false
pattern_missing = refl

given_missing : is.given_values_are_there (straight [] (i.Given 70 ∷ i.Return ∷ [])) ≡ false
given_missing = refl

name_of_digits : is.names_begin_with_letters (record { placed = false; names = codes "a1" ∷ codes "1a" ∷ []; constants = []; patterns = []; blocks = [] }) ≡ false
name_of_digits = refl

empty_name : is.names_begin_with_letters (record { placed = false; names = [] ∷ []; constants = []; patterns = []; blocks = [] }) ≡ false
empty_name = refl

-- ---- variables

slot_missing : is.slots_are_there (straight [] (i.Load 0 2 ∷ i.Return ∷ [])) ≡ false
slot_missing = refl

defined_slot_missing : is.slots_are_there (straight [] (i.Const 1 ∷ i.Define 2 ∷ i.Return ∷ [])) ≡ false
defined_slot_missing = refl

-- nothing is around the program
body_missing : is.slots_are_there (straight [] (i.Const 1 ∷ i.Change 1 0 ∷ i.Return ∷ [])) ≡ false
body_missing = refl

-- a pattern is judged in each body that names it
abbrev named_twice : (slots : ℕ) → Code
named_twice slots = code (Define 1 0 ∷ []) (program 2 (i.Const 1 ∷ i.Bind 0 ∷ i.Return ∷ []) ∷ block class.Function 0 (body slots (i.Right ∷ i.Match 0 ∷ i.Nothing ∷ i.Return ∷ []) ∷ []) ∷ [])

pattern_fits_both : is.slots_are_there (named_twice 2) ≡ true
pattern_fits_both = refl

pattern_fits_one : is.slots_are_there (named_twice 1) ≡ false
pattern_fits_one = refl

-- ---- patterns

bound_literal : is.literals_are_matched (straight (ListPattern (patterns (Literal 0 ∷ [])) ∷ []) (i.Const 1 ∷ i.Bind 0 ∷ i.Return ∷ [])) ≡ false
bound_literal = refl

abbrev deep : ℕ → Pattern
deep zero = Skip
deep (suc k) = ListPattern (patterns (deep k ∷ Skip ∷ []))

deepest_pattern : is.patterns_are_flat (straight (deep 257 ∷ []) empty) ≡ true
deepest_pattern = refl

too_deep_pattern : is.patterns_are_flat (straight (deep 258 ∷ []) empty) ≡ false
too_deep_pattern = refl

-- ---- what a body is run on

abbrev of_class : Class → Instr → Bool
of_class c x = is.classes_fit (with_blocks empty (block c 0 (body 0 (x ∷ i.Return ∷ []) ∷ []) ∷ []))

arguments : of_class class.Immediate i.Left ∷ of_class class.Function i.Left ∷ of_class class.Mod1 i.Right ∷ of_class class.Mod1Deferred i.Right ∷ of_class class.Mod2 i.Own ∷ of_class class.Mod2Deferred i.Own ∷ [] ≡ false ∷ true ∷ false ∷ true ∷ false ∷ true ∷ []
arguments = refl

operands : of_class class.Immediate i.LeftOperand ∷ of_class class.Function i.Modifier ∷ of_class class.Mod1 i.LeftOperand ∷ of_class class.Mod2Deferred i.Modifier ∷ of_class class.Mod1Deferred i.RightOperand ∷ of_class class.Mod2 i.RightOperand ∷ [] ≡ false ∷ false ∷ true ∷ true ∷ false ∷ true ∷ []
operands = refl

-- ---- exports

abbrev exporter : List (ℕ × ℕ) → Code
exporter exports = with_blocks empty (block class.Immediate 0 (exporting exports 2 (i.Space ∷ []) ∷ []) ∷ [])

exported_slot_missing : is.exports_are_there (exporter ((0, 2) ∷ [])) ≡ false
exported_slot_missing = refl

exported_twice : is.exports_are_distinct (exporter ((0, 0) ∷ (0, 1) ∷ [])) ≡ false
exported_twice = refl

-- one name under two numbers
spelled_twice : is.exports_are_distinct (record { placed = false; names = codes "a" ∷ codes "a" ∷ []; constants = []; patterns = []; blocks = block class.Immediate 0 (exporting ((0, 0) ∷ (1, 1) ∷ []) 2 (i.Space ∷ []) ∷ []) ∷ [] }) ≡ false
spelled_twice = refl

-- ---- counts

abbrev doubled : (times : ℕ) → List Const → List Const
doubled zero cs = cs
doubled (suc k) cs = doubled k (cs ++ cs)

abbrev with_constants : List Const → Code
with_constants cs = record { placed = false; names = []; constants = cs; patterns = []; blocks = [] }

-- 2^15 constants, and 2^16
few_constants : is.constants_are_few (with_constants (doubled 15 (const.Char 97 ∷ []))) ≡ true
few_constants = refl

many_constants : is.constants_are_few (with_constants (doubled 16 (const.Char 97 ∷ []))) ≡ false
many_constants = refl

-- ---- the stack

abbrev balanced : List Instr → Bool
balanced xs = is.stacks_are_balanced (straight [] xs)

operand_missing : balanced (i.Const 1 ∷ i.Call1 ∷ i.Return ∷ []) ≡ false
operand_missing = refl

element_missing : balanced (i.Const 1 ∷ i.List 2 ∷ i.Return ∷ []) ≡ false
element_missing = refl

stored_value_missing : balanced (i.Define 0 ∷ i.Const 1 ∷ i.Return ∷ []) ≡ false
stored_value_missing = refl

two_values_left : balanced (i.Const 1 ∷ i.Const 2 ∷ i.Return ∷ []) ≡ false
two_values_left = refl

value_left_at_space : balanced (i.Const 1 ∷ i.Space ∷ []) ≡ false
value_left_at_space = refl

end_missing : balanced (i.Const 1 ∷ []) ≡ false
end_missing = refl

end_in_the_middle : balanced (i.Const 1 ∷ i.Return ∷ i.Const 1 ∷ i.Return ∷ []) ≡ false
end_in_the_middle = refl

no_code : balanced [] ≡ false
no_code = refl
