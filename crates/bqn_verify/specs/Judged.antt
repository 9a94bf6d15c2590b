-- Verified code as one test that goes over a code once, body by body and instruction by instruction: this project's own.
use Rattle.std.specs.Prelude.{ℕ, suc, ◌+◌, nat_eq, nat_lt, Bool, true, false, ◌&&◌, List, [], ◌∷◌, length, slice_get}
use Rattle.std.specs.List.{list_all}
use Rattle.bqn_syntax.specs.declared.tree.Class.{Class}
use Rattle.bqn_syntax.specs.grammar.Classes.{waits}
use Rattle.bqn_code.specs.declared.instr.Instr.{Instr}
use Rattle.bqn_code.specs.declared.instr.Instr.TheVariants as instr
use Rattle.bqn_code.specs.declared.code.Body.{Body}
use Rattle.bqn_code.specs.declared.code.Block.{Block}
use Rattle.bqn_code.specs.Plain.{Pattern, Define, Change, Literal, Code}
use Rattle.bqn_code.specs.Heights.{is_balanced}
use Rattle.bqn_code.specs.Standing.{standing, slots_up}
use Rattle.bqn_code.specs.Conditions as is

-- whether the body so many bodies up from the one with this number has this slot
abbrev pub has_slot_up : Code → (number up slot : ℕ) → Bool
has_slot_up code number up slot = is.is_below slot (slots_up (standing code) up number)

abbrev pub leaf_has_slot_up : Code → (number : ℕ) → Pattern → Bool
leaf_has_slot_up code number (Define slot name) = has_slot_up code number 0 slot
leaf_has_slot_up code number (Change up slot name) = has_slot_up code number up slot
leaf_has_slot_up code number p = true

-- what a leaf names, whatever body it is for
abbrev pub leaf_is_there : Code → Pattern → Bool
leaf_is_there code (Define slot name) = is.has_name code name
leaf_is_there code (Change up slot name) = is.has_name code name
leaf_is_there code (Literal k) = is.has_constant code k
leaf_is_there code p = true

-- a pattern that is there, whose slots the body has
abbrev pub stores : Code → (number k : ℕ) → Bool
stores code number k = is.has_pattern code k && is.pattern_passes (is.leaves (leaf_has_slot_up code number)) (slice_get code.patterns k)

abbrev pub names_block : Code → (number block : ℕ) → (immediate : Bool) → Bool
names_block code number b immediate = is.is_inside number b code && is.is_block_immediate immediate (slice_get code.blocks b)

-- whether an instruction has what it names, in a body with this number of a block of this class
abbrev pub is_judged : Code → (number : ℕ) → Class → Instr → Bool
is_judged code number c (instr.Const k) = is.has_constant code k
is_judged code number c (instr.Given k) = nat_lt k 70
is_judged code number c (instr.Block b) = names_block code number b false
is_judged code number c (instr.Run b) = names_block code number b true
is_judged code number c (instr.Load up slot) = has_slot_up code number up slot
is_judged code number c (instr.Define slot) = has_slot_up code number 0 slot
is_judged code number c (instr.Change up slot) = has_slot_up code number up slot
is_judged code number c (instr.Field k) = is.has_name code k
is_judged code number c (instr.Bind k) = stores code number k && is.pattern_passes (is.leaves is.is_no_literal) (slice_get code.patterns k)
is_judged code number c (instr.Match k) = stores code number k
is_judged code number c instr.Left = waits c
is_judged code number c instr.Right = waits c
is_judged code number c instr.Own = waits c
is_judged code number c instr.LeftOperand = is.is_modifier c
is_judged code number c instr.Modifier = is.is_modifier c
is_judged code number c instr.RightOperand = is.is_modifier2 c
is_judged code number c i = true

-- the exports of a body: their names and slots are there, and their spellings differ
abbrev pub exports_are_judged : Code → Body → Bool
exports_are_judged code body = list_all (λ e. is.has_name code e.0 && nat_lt e.1 body.slots) body.exports && is.are_distinct code.names body.exports

-- a body with this number of a block of this class
abbrev pub body_is_judged : Code → (number : ℕ) → Class → Body → Bool
body_is_judged code number c body =
    is.is_kind_for (waits c) body.kind
    && (exports_are_judged code body && (list_all (is_judged code number c) body.code && is_balanced 0 body.code))

-- the bodies of a block, of which the first has this number
abbrev pub bodies_are_judged : Code → (number : ℕ) → Class → List Body → Bool
bodies_are_judged code number c [] = true
bodies_are_judged code number c (body ∷ bodies) = body_is_judged code number c body && bodies_are_judged code (suc number) c bodies

abbrev pub all_are_judged : Code → (number : ℕ) → List Block → Bool
all_are_judged code number [] = true
all_are_judged code number (block ∷ blocks) =
    bodies_are_judged code number block.class block.bodies && all_are_judged code (number + length block.bodies) blocks

-- the counts of a code
abbrev pub is_small : Code → Bool
is_small code = is.constants_are_few code && (is.names_are_few code && (is.patterns_are_few code && is.blocks_are_few code))

-- block 0 is the program
abbrev pub program_in : List Block → Bool
program_in [] = false
program_in (block ∷ blocks) = is.is_immediate block.class && (nat_eq block.parent 0 && is.is_only_body block.bodies)

-- the parent of each block but the first is one of the bodies before it
abbrev pub parents_in : List Block → Bool
parents_in [] = true
parents_in (block ∷ blocks) = is.have_parents (length block.bodies) blocks

-- the program, and where its blocks stand
abbrev pub blocks_are_judged : Code → Bool
blocks_are_judged code = program_in code.blocks && (parents_in code.blocks && is.blocks_have_bodies code)

-- how deep patterns are is judged first: other tests go as deep as they
abbrev pub is_verified : Code → Bool
is_verified code =
    is.patterns_are_flat code
    && (is_small code
    && (blocks_are_judged code
    && (is.names_begin_with_letters code && (list_all (is.leaves (leaf_is_there code)) code.patterns && all_are_judged code 0 code.blocks))))
