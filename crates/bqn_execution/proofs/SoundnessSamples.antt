-- Sound states, good values, and what instructions name: each `refl`, or a value of the type, is checked.
use Rattle.std.proofs.Common.{◌≡◌, ℕ, suc, true, false, List, [], ◌∷◌, Some, None, refl, subst, sym, arith}
use Rattle.bqn_rows.specs.Plain.{Array, Function, Namespace, none, more, unfilled}
use Rattle.bqn_rows.specs.Calls.{no_arguments, alone}
use Rattle.bqn_syntax.specs.declared.tree.Class.TheVariants as class
use Rattle.bqn_code.specs.declared.instr.Instr.TheVariants as i
use Rattle.bqn_code.specs.Plain.{Code}
use Rattle.bqn_code.specs.Numbering.{Table, table_of, body_number}
use Rattle.bqn_code.proofs.SmallCodes.{body, block, program, code}
use Rattle.bqn_execution.specs.States.{Environment}
use Rattle.bqn_execution.specs.Soundness.{shape_at, body_at, is_function, is_run_on, Good}
use Rattle.bqn_execution.specs.Formed.{width_up, names_slot, widest}
use Rattle.bqn_execution.proofs.Sure.{no, some_same}
use Rattle.bqn_execution.proofs.SmallRuns.{n}

-- a function with one variable in a program with two, and a program with three behind it
abbrev first : Code
first = code [] (program 2 (i.Block 1 ∷ i.Return ∷ []) ∷ block class.Function 0 (body 1 (i.Load 1 0 ∷ i.Return ∷ []) ∷ []) ∷ [])

abbrev second : Code
second = code [] (program 3 (i.Const 0 ∷ i.Return ∷ []) ∷ [])

abbrev t : Table
t = table_of (first ∷ second ∷ [])

top_width : widest (first ∷ second ∷ []) ≡ 3
top_width = refl

-- also where the later program has fewer
widest_of_all : widest (second ∷ first ∷ []) ≡ 3
widest_of_all = refl

own_width : width_up t 3 0 1 ≡ Some 1
own_width = refl

outer_width : width_up t 3 1 1 ≡ Some 3
outer_width = refl

nothing_around : width_up t 3 2 1 ≡ None
nothing_around = refl

no_body : width_up t 3 0 2 ≡ None
no_body = refl

last_slot : names_slot t 3 1 1 2 ≡ true
last_slot = refl

no_slot : names_slot t 3 1 0 1 ≡ false
no_slot = refl

-- ---- environments

abbrev es : List Environment
es = record { body = 0; parent = 0; variables = Some (n 5) ∷ None ∷ None ∷ [] } ∷ record { body = 1; parent = 0; variables = None ∷ [] } ∷ []

inner_shape : shape_at es 1 ≡ Some (record { body = 1; parent = 0; width = 1 })
inner_shape = refl

inner_body : body_at es 1 ≡ Some 1
inner_body = refl

no_environment : body_at es 2 ≡ None
no_environment = refl

-- ---- values

function_class : is_function 0 class.Function ≡ true
function_class = refl

operands_missing : is_function 0 class.Mod1Deferred ≡ false
operands_missing = refl

waits_for_arguments : is_run_on 1 no_arguments class.Mod1Deferred ≡ false
waits_for_arguments = refl

runs_with_operand : is_run_on 1 no_arguments class.Mod1 ≡ true
runs_with_operand = refl

immediate_alone : is_run_on 0 (alone (n 1)) class.Immediate ≡ false
immediate_alone = refl

-- the block's function is made in the program's environment, and in no other
its_function : Good t es (Function 1 0 none)
its_function = (record { before = 0; is_number = refl; block = _; is_block = refl; class_fits = refl; made = refl }, tt)

differ : (a b : ℕ) → a ≡ suc b → a ≡ 0 → ⊥
differ a b h q = absurd (omega arith)

other_environment : Good t es (Function 1 1 none) → ⊥
other_environment g = differ 1 0 refl (some_same (subst (λ y. Some 1 ≡ Some (body_number y.here y.block.parent)) (sym (some_same g.0.is_block)) g.0.made))

no_number : (k : ℕ) → 0 ≡ suc k → ⊥
no_number k q = absurd (omega arith)

program_is_no_value : Good t es (Function 0 0 none) → ⊥
program_is_no_value g = no_number g.0.before g.0.is_number

namespace_in_list : Good t es (Array (1 ∷ []) (more (Namespace 1) none) unfilled)
namespace_in_list = ((refl, tt), tt)

no_namespace : Good t es (Namespace 2) → ⊥
no_namespace g = no g
