-- Patterns in assignments and headers, and fields, in small codes.
use Rattle.std.proofs.Common.{◌≡◌, ℕ, List, [], ◌∷◌, ◌++◌, Some, refl}
use Rattle.bqn_rows.specs.Raised.{unplaced}
use Rattle.bqn_base.specs.declared.fault.Fault.TheVariants.{Undefined, NoBody, Pattern, NoField, NothingUsed}
use Rattle.bqn_rows.specs.Plain.{Array, none, more, unfilled}
use Rattle.bqn_syntax.specs.declared.tree.Class.TheVariants as class
use Rattle.bqn_code.specs.declared.instr.Instr.{Instr}
use Rattle.bqn_code.specs.declared.instr.Instr.TheVariants as i
use Rattle.bqn_code.specs.declared.code.Body.{Body}
use Rattle.bqn_code.specs.Plain.{Pattern as PatternOf, Skip, Define, Change, ListPattern, Literal, patterns}
use Rattle.bqn_execution.specs.Programs.{Outcome, Done, Faulted}
use Rattle.bqn_code.proofs.SmallCodes.{body, exporting, block, program, code}
use Rattle.bqn_execution.proofs.SmallRuns.{n, m, runs}

abbrev list : List PatternOf → PatternOf
list ps = ListPattern (patterns ps)

-- the variables 0 and 1 with the names a and b
abbrev a : PatternOf
a = Define 0 0

abbrev b : PatternOf
b = Define 1 1

abbrev pair : List Instr
pair = i.Const 4 ∷ i.Const 5 ∷ i.List 2 ∷ []

-- ---- in assignments

-- by the pattern, and then the difference of the variables
abbrev bound : PatternOf → List Instr → Outcome
bound p is = runs 9 (code (p ∷ []) (program 2 (is ++ i.Bind 0 ∷ i.Pop ∷ i.Load 0 1 ∷ i.Given 1 ∷ i.Load 0 0 ∷ i.Call2 ∷ i.Return ∷ []) ∷ []))

list_bound : bound (list (a ∷ b ∷ [])) pair ≡ Done (Some (m 0))
list_bound = refl

-- the elements go to the parts in order, so the last one stays
bound_twice : bound (list (a ∷ list (b ∷ b ∷ []) ∷ [])) (i.Const 4 ∷ pair ++ i.List 2 ∷ []) ≡ Done (Some (m 0))
bound_twice = refl

dropped : bound (list (Skip ∷ a ∷ b ∷ [])) (i.Const 1 ∷ i.Const 2 ∷ i.Const 3 ∷ i.List 3 ∷ []) ≡ Done (Some (m 0))
dropped = refl

-- what is stored stays on the stack
kept_on_the_stack : runs 9 (code (list (a ∷ b ∷ []) ∷ []) (program 2 (pair ++ i.Bind 0 ∷ i.Return ∷ []) ∷ [])) ≡ Done (Some (Array (2 ∷ []) (more (n 4) (more (n 5) none)) unfilled))
kept_on_the_stack = refl

too_few_elements : bound (list (a ∷ [])) pair ≡ Faulted (unplaced Pattern)
too_few_elements = refl

no_list : bound (list (a ∷ [])) (i.Const 1 ∷ []) ≡ Faulted (unplaced Pattern)
no_list = refl

no_inner_list : bound (list (a ∷ list (b ∷ []) ∷ [])) pair ≡ Faulted (unplaced Pattern)
no_inner_list = refl

changed_without_value : bound (list (Change 0 0 0 ∷ b ∷ [])) pair ≡ Faulted (unplaced Undefined)
changed_without_value = refl

changed_behind_definition : bound (list (a ∷ Change 0 0 0 ∷ b ∷ [])) (i.Const 1 ∷ i.Const 2 ∷ i.Const 3 ∷ i.List 3 ∷ []) ≡ Done (Some (m 0))
changed_behind_definition = refl

nothing_bound : bound a (i.Nothing ∷ []) ≡ Faulted (unplaced NothingUsed)
nothing_bound = refl

-- ---- fields

-- `{a⇐4⋄b←5}`, where a alone is exported
abbrev space : List (ℕ × ℕ) → Body
space exports = exporting exports 2 (i.Const 4 ∷ i.Define 0 ∷ i.Pop ∷ i.Const 5 ∷ i.Define 1 ∷ i.Pop ∷ i.Space ∷ [])

abbrev with_space : List (ℕ × ℕ) → List PatternOf → List Instr → Outcome
with_space exports ps is = runs 9 (code ps (program 2 (i.Run 1 ∷ is) ∷ block class.Immediate 0 (space exports ∷ []) ∷ []))

abbrev a_alone : List (ℕ × ℕ)
a_alone = (0, 0) ∷ []

abbrev both : List (ℕ × ℕ)
both = (0, 0) ∷ (1, 1) ∷ []

field : with_space a_alone [] (i.Field 0 ∷ i.Return ∷ []) ≡ Done (Some (n 4))
field = refl

no_field : with_space a_alone [] (i.Field 1 ∷ i.Return ∷ []) ≡ Faulted (unplaced NoField)
no_field = refl

no_name : with_space a_alone [] (i.Field 2 ∷ i.Return ∷ []) ≡ Faulted (unplaced NoField)
no_name = refl

no_namespace : runs 9 (code [] (program 0 (i.Const 1 ∷ i.Field 0 ∷ i.Return ∷ []) ∷ [])) ≡ Faulted (unplaced NoField)
no_namespace = refl

field_without_value : runs 9 (code [] (program 0 (i.Run 1 ∷ i.Field 0 ∷ i.Return ∷ []) ∷ block class.Immediate 0 (exporting a_alone 1 (i.Space ∷ []) ∷ []) ∷ [])) ≡ Faulted (unplaced Undefined)
field_without_value = refl

-- each part takes the field of its name
abbrev by_fields : List (ℕ × ℕ) → PatternOf → Outcome
by_fields exports p = with_space exports (p ∷ []) (i.Bind 0 ∷ i.Pop ∷ i.Load 0 1 ∷ i.Given 1 ∷ i.Load 0 0 ∷ i.Call2 ∷ i.Return ∷ [])

fields_bound : by_fields both (list (b ∷ a ∷ [])) ≡ Done (Some (m 0))
fields_bound = refl

missing_field : by_fields a_alone (list (a ∷ b ∷ [])) ≡ Faulted (unplaced NoField)
missing_field = refl

-- a part that is no name comes before a field that is missing
part_without_name : by_fields a_alone (list (b ∷ Skip ∷ [])) ≡ Faulted (unplaced Pattern)
part_without_name = refl

every_namespace : by_fields a_alone (list []) ≡ Faulted (unplaced Undefined)
every_namespace = refl

-- ---- in headers

-- the first body takes what fits, and gives what it stored in its first variable; the other gives 0
abbrev matched : PatternOf → List Instr → Outcome
matched p is =
    runs 9 (code (p ∷ []) (program 0 (is ++ i.Block 1 ∷ i.Call1 ∷ i.Return ∷ []) ∷ block class.Function 0 (body 2 (i.Right ∷ i.Match 0 ∷ i.Load 0 0 ∷ i.Return ∷ []) ∷ body 0 (i.Const 0 ∷ i.Return ∷ []) ∷ []) ∷ []))

name : matched a (i.Const 3 ∷ []) ≡ Done (Some (n 3))
name = refl

list_matched : matched (list (b ∷ a ∷ [])) pair ≡ Done (Some (n 5))
list_matched = refl

other_length : matched (list (a ∷ [])) pair ≡ Done (Some (n 0))
other_length = refl

-- the constants 3 and 7, which is the text "ab"
literal : matched (list (Literal 3 ∷ a ∷ [])) (i.Const 3 ∷ i.Const 2 ∷ i.List 2 ∷ []) ≡ Done (Some (n 2))
literal = refl

other_literal : matched (list (Literal 3 ∷ a ∷ [])) (i.Const 4 ∷ i.Const 2 ∷ i.List 2 ∷ []) ≡ Done (Some (n 0))
other_literal = refl

text : matched (list (a ∷ Literal 7 ∷ [])) (i.Const 4 ∷ i.Const 7 ∷ i.List 2 ∷ []) ≡ Done (Some (n 4))
text = refl

-- a number and an operation differ in type
no_comparison : matched (list (Literal 3 ∷ [])) (i.Given 0 ∷ i.List 1 ∷ []) ≡ Done (Some (n 0))
no_comparison = refl

-- a variable without a value is a fault, and no mismatch
change_in_header : matched (Change 0 0 0) (i.Const 3 ∷ []) ≡ Faulted (unplaced Undefined)
change_in_header = refl

missing_in_header : runs 9 (code (list (b ∷ []) ∷ []) (program 0 (i.Run 1 ∷ i.Block 2 ∷ i.Call1 ∷ i.Return ∷ []) ∷ block class.Immediate 0 (space a_alone ∷ []) ∷ block class.Function 0 (body 2 (i.Right ∷ i.Match 0 ∷ i.Load 0 1 ∷ i.Return ∷ []) ∷ []) ∷ [])) ≡ Faulted (unplaced NoBody)
missing_in_header = refl

-- `𝕨` in a call without a left argument
nothing_matched : runs 9 (code (Skip ∷ []) (program 0 (i.Const 1 ∷ i.Block 1 ∷ i.Call1 ∷ i.Return ∷ []) ∷ block class.Function 0 (body 0 (i.Left ∷ i.Match 0 ∷ i.Right ∷ i.Return ∷ []) ∷ []) ∷ [])) ≡ Faulted (unplaced NothingUsed)
nothing_matched = refl

-- what the first body changed outside stays: `a←1⋄{𝕊𝕩: a↩2⋄0? 3; a}5`
changes_stay : runs 9 (code [] (program 1 (i.Const 1 ∷ i.Define 0 ∷ i.Pop ∷ i.Const 5 ∷ i.Block 1 ∷ i.Call1 ∷ i.Return ∷ []) ∷ block class.Function 0 (body 0 (i.Const 2 ∷ i.Change 1 0 ∷ i.Pop ∷ i.Const 0 ∷ i.Check ∷ i.Const 3 ∷ i.Return ∷ []) ∷ body 0 (i.Load 1 0 ∷ i.Return ∷ []) ∷ []) ∷ [])) ≡ Done (Some (n 2))
changes_stay = refl
