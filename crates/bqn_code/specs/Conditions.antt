-- The conditions on verified code, each by itself: this project's own.
use Rattle.std.specs.Prelude.{ℕ, zero, suc, ◌+◌, ◌^◌, max, nat_eq, nat_le, nat_lt, Bool, true, false, not, ◌&&◌, List, [], ◌∷◌, length, slice_get, Option, Some, None}
use Rattle.std.specs.List.{list_all, list_any}
pub use Rattle.bqn_syntax.specs.text.Fitting.{begins_with_letter}
use Rattle.bqn_syntax.specs.declared.tree.Class.{Class}
use Rattle.bqn_syntax.specs.declared.tree.Class.TheVariants as class
use Rattle.bqn_syntax.specs.grammar.Classes.{waits}
use Rattle.bqn_code.specs.declared.constant.Const.{Const}
use Rattle.bqn_code.specs.declared.constant.Const.TheVariants as const
use Rattle.bqn_code.specs.declared.instr.Instr.{Instr}
use Rattle.bqn_code.specs.declared.instr.Instr.TheVariants as instr
use Rattle.bqn_code.specs.declared.code.Body.{Body}
use Rattle.bqn_code.specs.declared.code.Block.{Block}
use Rattle.bqn_code.specs.Plain.{Pattern, Define, Change, ListPattern, Literal, Patterns, no_patterns, and_patterns, parts, Code}
use Rattle.bqn_code.specs.Numbering.{same_name}
use Rattle.bqn_code.specs.Heights.{is_empty, is_balanced}
use Rattle.bqn_code.specs.Standing.{Standing, standing, every_body, every_instr, slots_up}

-- ---- blocks and bodies

abbrev pub is_immediate : Class → Bool
is_immediate class.Immediate = true
is_immediate _ = false

-- it may go to the next body
abbrev pub may_fail : Instr → Bool
may_fail (instr.Match k) = true
may_fail instr.Check = true
may_fail _ = false

abbrev pub is_only_body : List Body → Bool
is_only_body (body ∷ []) = nat_eq body.kind 0 && not (list_any may_fail body.code)
is_only_body _ = false

-- block 0 is immediate, has parent 0, and one body, which is for all calls and never goes to a next one
abbrev pub has_program : Code → Bool
has_program code = elim code.blocks [ [] ↦ false | block ∷ blocks ↦ is_immediate block.class && (nat_eq block.parent 0 && is_only_body block.bodies) ]

-- the parent of each block is one of the bodies before it, which are so many
abbrev pub have_parents : (bodies : ℕ) → List Block → Bool
have_parents k [] = true
have_parents k (block ∷ blocks) = nat_lt block.parent k && have_parents (k + length block.bodies) blocks

-- the parent of each block but the program's is a body of a lower-numbered block
abbrev pub parents_come_first : Code → Bool
parents_come_first code = elim code.blocks [ [] ↦ true | block ∷ blocks ↦ have_parents (length block.bodies) blocks ]

-- the block with this number is there, is not the program's, and has this parent
abbrev pub is_inside : (parent block : ℕ) → Code → Bool
is_inside parent zero code = false
is_inside parent (suc b) code = elim (slice_get code.blocks (suc b)) [ None ↦ false | Some block ↦ nat_eq block.parent parent ]

abbrev pub names_block_inside : Code → Standing → Instr → Bool
names_block_inside code body (instr.Block b) = is_inside body.number b code
names_block_inside code body (instr.Run b) = is_inside body.number b code
names_block_inside code body i = true

-- Block and Run of a block stand in its parent alone
abbrev pub blocks_stand_in_parents : Code → Bool
blocks_stand_in_parents code = every_instr (names_block_inside code) code

-- whether there is a block with this number, and whether it is immediate
abbrev pub is_block_immediate : Bool → Option Block → Bool
is_block_immediate wanted None = false
is_block_immediate true (Some block) = is_immediate block.class
is_block_immediate false (Some block) = not (is_immediate block.class)

abbrev pub runs_immediate : Code → Instr → Bool
runs_immediate code (instr.Block b) = is_block_immediate false (slice_get code.blocks b)
runs_immediate code (instr.Run b) = is_block_immediate true (slice_get code.blocks b)
runs_immediate code i = true

-- Run is of an immediate block, and Block of another
abbrev pub immediate_blocks_are_run : Code → Bool
immediate_blocks_are_run code = every_instr (λ body i. runs_immediate code i) code

abbrev pub blocks_have_bodies : Code → Bool
blocks_have_bodies code = list_all (λ block. not (is_empty block.bodies)) code.blocks

abbrev pub is_kind_for : (arguments : Bool) → (kind : ℕ) → Bool
is_kind_for true kind = nat_le kind 2
is_kind_for false kind = nat_eq kind 0

-- each kind is 0, 1 or 2, and 0 where there are no arguments
abbrev pub kinds_fit : Code → Bool
kinds_fit code = every_body (λ b. is_kind_for (waits b.block.class) b.body.kind) code

-- ---- constants, names, patterns and given values

abbrev mutual
  -- whether all leaves of a pattern pass
  pub leaves : (Pattern → Bool) → Pattern → Bool
  leaves test (ListPattern ps) = all_leaves test ps
  leaves test p = test p

  pub all_leaves : (Pattern → Bool) → Patterns → Bool
  all_leaves test no_patterns = true
  all_leaves test (and_patterns p ps) = leaves test p && all_leaves test ps

abbrev pub has_constant : Code → ℕ → Bool
has_constant code k = nat_lt k (length code.constants)

abbrev pub has_name : Code → ℕ → Bool
has_name code k = nat_lt k (length code.names)

abbrev pub has_pattern : Code → ℕ → Bool
has_pattern code k = nat_lt k (length code.patterns)

abbrev pub instr_constant_is_there : Code → Instr → Bool
instr_constant_is_there code (instr.Const k) = has_constant code k
instr_constant_is_there code i = true

abbrev pub leaf_constant_is_there : Code → Pattern → Bool
leaf_constant_is_there code (Literal k) = has_constant code k
leaf_constant_is_there code p = true

abbrev pub constants_are_there : Code → Bool
constants_are_there code = every_instr (λ body i. instr_constant_is_there code i) code && list_all (leaves (leaf_constant_is_there code)) code.patterns

abbrev pub instr_name_is_there : Code → Instr → Bool
instr_name_is_there code (instr.Field k) = has_name code k
instr_name_is_there code i = true

abbrev pub leaf_name_is_there : Code → Pattern → Bool
leaf_name_is_there code (Define slot name) = has_name code name
leaf_name_is_there code (Change up slot name) = has_name code name
leaf_name_is_there code p = true

abbrev pub names_are_there : Code → Bool
names_are_there code =
    every_instr (λ body i. instr_name_is_there code i) code
    && (list_all (leaves (leaf_name_is_there code)) code.patterns && every_body (λ b. list_all (λ e. has_name code e.0) b.body.exports) code)

abbrev pub instr_pattern_is_there : Code → Instr → Bool
instr_pattern_is_there code (instr.Bind k) = has_pattern code k
instr_pattern_is_there code (instr.Match k) = has_pattern code k
instr_pattern_is_there code i = true

abbrev pub patterns_are_there : Code → Bool
patterns_are_there code = every_instr (λ body i. instr_pattern_is_there code i) code

abbrev pub is_given_code : Instr → Bool
is_given_code (instr.Given code) = nat_lt code 70
is_given_code i = true

abbrev pub given_values_are_there : Code → Bool
given_values_are_there code = every_instr (λ body i. is_given_code i) code

abbrev pub names_begin_with_letters : Code → Bool
names_begin_with_letters code = list_all begins_with_letter code.names

-- ---- variables

abbrev pub is_below : ℕ → Option ℕ → Bool
is_below k None = false
is_below k (Some n) = nat_lt k n

-- the body so many bodies up has this slot
abbrev pub has_slot : Code → Standing → (up slot : ℕ) → Bool
has_slot code body up slot = is_below slot (slots_up (standing code) up body.number)

abbrev pub leaf_has_slot : Code → Standing → Pattern → Bool
leaf_has_slot code body (Define slot name) = has_slot code body 0 slot
leaf_has_slot code body (Change up slot name) = has_slot code body up slot
leaf_has_slot code body p = true

abbrev pub pattern_passes : (Pattern → Bool) → Option Pattern → Bool
pattern_passes test None = true
pattern_passes test (Some p) = test p

abbrev pub instr_has_slot : Code → Standing → Instr → Bool
instr_has_slot code body (instr.Load up slot) = has_slot code body up slot
instr_has_slot code body (instr.Define slot) = has_slot code body 0 slot
instr_has_slot code body (instr.Change up slot) = has_slot code body up slot
instr_has_slot code body (instr.Bind k) = pattern_passes (leaves (leaf_has_slot code body)) (slice_get code.patterns k)
instr_has_slot code body (instr.Match k) = pattern_passes (leaves (leaf_has_slot code body)) (slice_get code.patterns k)
instr_has_slot code body i = true

-- each body that is meant is there and has the slot; the slots of a pattern are judged wherever a Bind or Match names it
abbrev pub slots_are_there : Code → Bool
slots_are_there code = every_instr (instr_has_slot code) code

-- ---- patterns

abbrev pub is_no_literal : Pattern → Bool
is_no_literal (Literal k) = false
is_no_literal p = true

abbrev pub binds_no_literal : Code → Instr → Bool
binds_no_literal code (instr.Bind k) = pattern_passes (leaves is_no_literal) (slice_get code.patterns k)
binds_no_literal code i = true

-- literals stand only in patterns that no Bind names
abbrev pub literals_are_matched : Code → Bool
literals_are_matched code = every_instr (λ body i. binds_no_literal code i) code

abbrev mutual
  -- how many lists stand in one another
  pub nesting : Pattern → ℕ
  nesting (ListPattern ps) = suc (all_nesting ps)
  nesting p = 0

  pub all_nesting : Patterns → ℕ
  all_nesting no_patterns = 0
  all_nesting (and_patterns p ps) = max (nesting p) (all_nesting ps)

abbrev pub patterns_are_flat : Code → Bool
patterns_are_flat code = list_all (λ p. nat_le (nesting p) 257) code.patterns

-- ---- what a body is run on

abbrev pub is_modifier : Class → Bool
is_modifier class.Immediate = false
is_modifier class.Function = false
is_modifier _ = true

abbrev pub is_modifier2 : Class → Bool
is_modifier2 class.Mod2 = true
is_modifier2 class.Mod2Deferred = true
is_modifier2 _ = false

abbrev pub is_run_on : Class → Instr → Bool
is_run_on c instr.Left = waits c
is_run_on c instr.Right = waits c
is_run_on c instr.Own = waits c
is_run_on c instr.LeftOperand = is_modifier c
is_run_on c instr.Modifier = is_modifier c
is_run_on c instr.RightOperand = is_modifier2 c
is_run_on c i = true

-- arguments and what is called are pushed only in functions and deferred modifiers, operands and modifiers only in modifiers, right
-- operands only in 2-modifiers
abbrev pub classes_fit : Code → Bool
classes_fit code = every_instr (λ body i. is_run_on body.block.class i) code

-- ---- exports

abbrev pub exports_are_there : Code → Bool
exports_are_there code = every_body (λ b. list_all (λ e. nat_lt e.1 b.body.slots) b.body.exports) code

-- whether the names with these numbers differ in their spellings
abbrev pub are_distinct : List (List ℕ) → List (ℕ × ℕ) → Bool
are_distinct names [] = true
are_distinct names (e ∷ es) = not (list_any (λ other. same_name (slice_get names e.0) (slice_get names other.0)) es) && are_distinct names es

abbrev pub exports_are_distinct : Code → Bool
exports_are_distinct code = every_body (λ b. are_distinct code.names b.body.exports) code

-- ---- counts

abbrev pub is_few : ℕ → Bool
is_few n = nat_lt n (2 ^ 32)

abbrev mutual
  pub lists_are_few : Pattern → Bool
  lists_are_few (ListPattern ps) = is_few (parts ps) && all_lists_are_few ps
  lists_are_few p = true

  pub all_lists_are_few : Patterns → Bool
  all_lists_are_few no_patterns = true
  all_lists_are_few (and_patterns p ps) = lists_are_few p && all_lists_are_few ps

abbrev pub text_is_short : Const → Bool
text_is_short (const.Text cs) = is_few (length cs)
text_is_short c = true

abbrev pub constants_are_few : Code → Bool
constants_are_few code = nat_le (length code.constants) 65535 && list_all text_is_short code.constants

abbrev pub names_are_few : Code → Bool
names_are_few code = is_few (length code.names) && list_all (λ name. is_few (length name)) code.names

abbrev pub patterns_are_few : Code → Bool
patterns_are_few code = is_few (length code.patterns) && list_all lists_are_few code.patterns

abbrev pub body_is_small : Body → Bool
body_is_small body = is_few (length body.exports) && is_few (length body.code)

abbrev pub block_is_small : Block → Bool
block_is_small block = is_few (length block.bodies) && list_all body_is_small block.bodies

abbrev pub blocks_are_few : Code → Bool
blocks_are_few code = is_few (length code.blocks) && list_all block_is_small code.blocks

-- ---- the stack

abbrev pub stacks_are_balanced : Code → Bool
stacks_are_balanced code = every_body (λ b. is_balanced 0 b.body.code) code
