-- Steps, open calls, written bytes, and codes over the variables of earlier ones.
use Rattle.std.proofs.Common.{false, ◌≡◌, ℕ, [], ◌∷◌, ◌++◌, Some, refl}
use lib.Chars.{codes}
use lib.Utf8.{encode}
use Rattle.std.specs.Fmt.{digits}
use Rattle.bqn_rows.specs.Raised.{unplaced}
use Rattle.bqn_base.specs.declared.fault.Fault.TheVariants.{Undefined, TooDeep, NoField, Pattern}
use Rattle.bqn_rows.specs.Plain.{Function, none}
use Rattle.bqn_syntax.specs.declared.tree.Class.TheVariants as class
use Rattle.bqn_code.specs.declared.instr.Instr.{Instr}
use Rattle.bqn_code.specs.declared.instr.Instr.TheVariants as i
use Rattle.bqn_code.specs.Plain.{Code, Define, ListPattern, patterns}
use Rattle.bqn_execution.specs.Programs.{Outcome, Done, Faulted, Spent, Kept, outcome, written, fresh, exec_within, exec_program, exec_more, kept_behind}
use Rattle.bqn_code.proofs.SmallCodes.{body, exporting, block, program, code}
use Rattle.bqn_execution.proofs.SmallRuns.{unplaced_in, n, runs, writes}

-- ---- steps

-- `{0<𝕩? 𝕊𝕩-1; 5}2`: the program's step, one for each call, and one more for the second body of the last
abbrev down : Code
down = code [] (program 1 (i.Const 2 ∷ i.Block 1 ∷ i.Call1 ∷ i.Return ∷ []) ∷ block class.Function 0
    (body 0 (i.Right ∷ i.Given 12 ∷ i.Const 0 ∷ i.Call2 ∷ i.Check ∷ i.Const 1 ∷ i.Given 1 ∷ i.Right ∷ i.Call2 ∷ i.Own ∷ i.Call1 ∷ i.Return ∷ []) ∷ body 0 (i.Const 5 ∷ i.Return ∷ []) ∷ []) ∷ [])

steps_enough : runs 5 down ≡ Done (Some (n 5))
steps_enough = refl

four_steps : runs 4 down ≡ Spent
four_steps = refl

three_steps : runs 3 down ≡ Spent
three_steps = refl

two_steps : runs 2 down ≡ Spent
two_steps = refl

one_step : runs 1 down ≡ Spent
one_step = refl

no_step : runs 0 down ≡ Spent
no_step = refl

-- ---- open calls

-- three calls are open in one another
abbrev room : ℕ → Outcome
room k = unplaced_in (outcome (exec_within k (n 0) (fresh 9) down))

room_enough : room 3 ≡ Done (Some (n 5))
room_enough = refl

room_for_two : room 2 ≡ Faulted (unplaced TooDeep)
room_for_two = refl

no_room : room 0 ≡ Faulted (unplaced TooDeep)
no_room = refl

-- `{𝕊𝕩}0` with the limit of open calls
abbrev forever : Code
forever = code [] (program 0 (i.Const 0 ∷ i.Block 1 ∷ i.Call1 ∷ i.Return ∷ []) ∷ block class.Function 0 (body 0 (i.Right ∷ i.Own ∷ i.Call1 ∷ i.Return ∷ []) ∷ []) ∷ [])

spent_first : outcome (exec_program forever [] 100) ≡ Spent
spent_first = refl

-- TooDeep comes before the step
deep_before_step : runs 4 forever ≡ Faulted (unplaced TooDeep)
deep_before_step = refl

spent_before_deep : runs 3 forever ≡ Spent
spent_before_deep = refl

-- ---- what is written

-- `•Show 4⋄•Show {5}`
abbrev shows : Code
shows = code [] (program 0 (i.Const 4 ∷ i.Given 65 ∷ i.Call1 ∷ i.Pop ∷ i.Run 1 ∷ i.Given 65 ∷ i.Call1 ∷ i.Return ∷ []) ∷ block class.Immediate 0 (body 0 (i.Const 5 ∷ i.Return ∷ []) ∷ []) ∷ [])

both_written : writes 2 shows ≡ codes "4" ++ 10 ∷ codes "5" ++ 10 ∷ []
unfolding digits encode
both_written = refl

-- what was written before the budget ended
one_written : writes 1 shows ≡ codes "4" ++ 10 ∷ []
unfolding digits encode
one_written = refl

-- ---- further codes

-- `a←3⋄F←{𝕩-a}`
abbrev first_code : Code
first_code = code [] (program 2 (i.Const 3 ∷ i.Define 0 ∷ i.Pop ∷ i.Block 1 ∷ i.Define 1 ∷ i.Return ∷ []) ∷ block class.Function 0 (body 0 (i.Load 1 0 ∷ i.Given 1 ∷ i.Right ∷ i.Call2 ∷ i.Return ∷ []) ∷ []) ∷ [])

abbrev first : Kept
first = kept_behind (fresh 9) first_code (exec_within 3 (n 0) (fresh 9) first_code)

abbrev behind : Kept → Code → Outcome
behind kept c = unplaced_in (outcome (exec_within 3 (n 0) kept c))

abbrev then_kept : Kept → Code → Kept
then_kept kept c = kept_behind kept c (exec_within 3 (n 0) kept c)

-- `F 5`
further : behind first (code [] (program 2 (i.Const 5 ∷ i.Load 0 1 ∷ i.Call1 ∷ i.Return ∷ []) ∷ [])) ≡ Done (Some (n 2))
further = refl

-- `a↩1⋄F 5`: a block of an earlier code reads the changed variable
further_change : behind first (code [] (program 2 (i.Const 1 ∷ i.Change 0 0 ∷ i.Pop ∷ i.Const 5 ∷ i.Load 0 1 ∷ i.Call1 ∷ i.Return ∷ []) ∷ [])) ≡ Done (Some (n 4))
further_change = refl

-- a new variable has no value yet
further_variable : behind first (code [] (program 3 (i.Load 0 2 ∷ i.Return ∷ []) ∷ [])) ≡ Faulted (unplaced Undefined)
further_variable = refl

-- the blocks of a code are numbered behind those before it
further_block : behind first (code [] (program 2 (i.Block 1 ∷ i.Return ∷ []) ∷ block class.Function 0 (body 0 (i.Right ∷ i.Return ∷ []) ∷ []) ∷ [])) ≡ Done (Some (Function 2 0 none))
further_block = refl

-- `G←{𝕩-F 𝕩}⋄G 5`
abbrev second_code : Code
second_code = code [] (program 3 (i.Block 1 ∷ i.Define 2 ∷ i.Pop ∷ i.Const 5 ∷ i.Load 0 2 ∷ i.Call1 ∷ i.Return ∷ []) ∷ block class.Function 0 (body 0 (i.Right ∷ i.Load 1 1 ∷ i.Call1 ∷ i.Given 1 ∷ i.Right ∷ i.Call2 ∷ i.Return ∷ []) ∷ []) ∷ [])

second_answer : behind first second_code ≡ Done (Some (n 3))
second_answer = refl

-- and once more after it
third : behind (then_kept first second_code) (code [] (program 3 (i.Const 4 ∷ i.Load 0 2 ∷ i.Call1 ∷ i.Return ∷ []) ∷ [])) ≡ Done (Some (n 3))
third = refl

-- a step for each code, and one for each call
steps_of_all : (then_kept first second_code).left ≡ 5
steps_of_all = refl

spent_behind : behind (record first { left = 1 }) second_code ≡ Spent
spent_behind = refl

-- a code that ends in a fault leaves what it did: `a↩1⋄b←⟨⟩`, where a list of one is wanted
abbrev faulted : Code
faulted = code (ListPattern (patterns (Define 1 1 ∷ [])) ∷ []) (program 2 (i.Const 1 ∷ i.Change 0 0 ∷ i.Pop ∷ i.List 0 ∷ i.Bind 0 ∷ i.Return ∷ []) ∷ [])

fault : behind first faulted ≡ Faulted (unplaced Pattern)
fault = refl

kept_after_fault : behind (then_kept first faulted) (code [] (program 2 (i.Const 5 ∷ i.Load 0 1 ∷ i.Call1 ∷ i.Return ∷ []) ∷ [])) ≡ Done (Some (n 4))
kept_after_fault = refl

-- a further code writes its own bytes alone
abbrev showing : Code
showing = code [] (program 0 (i.Const 4 ∷ i.Given 65 ∷ i.Call1 ∷ i.Return ∷ []) ∷ [])

own_bytes : written (exec_within 3 (n 0) (then_kept (fresh 9) showing) showing) ≡ codes "4" ++ 10 ∷ []
unfolding digits encode
own_bytes = refl

-- `s←{a⇐4}` of an earlier code, and `s.a` of a further one whose names have other numbers
abbrev exporter : Code
exporter = code [] (program 1 (i.Run 1 ∷ i.Define 0 ∷ i.Return ∷ []) ∷ block class.Immediate 0 (exporting ((0, 0) ∷ []) 1 (i.Const 4 ∷ i.Define 0 ∷ i.Pop ∷ i.Space ∷ []) ∷ []) ∷ [])

abbrev renamed : ℕ → Code
renamed k = record { placed = false; names = codes "b" ∷ codes "a" ∷ []; constants = []; patterns = []; blocks = program 1 (i.Load 0 0 ∷ i.Field k ∷ i.Return ∷ []) ∷ [] }

field_by_spelling : behind (then_kept (fresh 9) exporter) (renamed 1) ≡ Done (Some (n 4))
field_by_spelling = refl

other_spelling : behind (then_kept (fresh 9) exporter) (renamed 0) ≡ Faulted (unplaced NoField)
other_spelling = refl

-- the limit of open calls is that of a code by itself
with_the_limit : outcome (exec_more first second_code) ≡ Done (Some (n 3))
with_the_limit = refl

-- ---- an environment of another body

-- block 2 stands in the program, but its value is made in the body of block 1: neither a read nor a change goes through
abbrev elsewhere : Instr → Code
elsewhere x = code [] (program 1 (i.Const 1 ∷ i.Define 0 ∷ i.Pop ∷ i.Run 1 ∷ i.Return ∷ []) ∷ block class.Immediate 0 (body 1 (i.Const 2 ∷ i.Define 0 ∷ i.Pop ∷ i.Run 2 ∷ i.Return ∷ []) ∷ []) ∷ block class.Immediate 0 (body 0 (i.Const 3 ∷ x ∷ i.Return ∷ []) ∷ []) ∷ [])

not_read : runs 9 (elsewhere (i.Load 1 0)) ≡ Faulted (unplaced Undefined)
not_read = refl

not_changed : runs 9 (elsewhere (i.Change 1 0)) ≡ Faulted (unplaced Undefined)
not_changed = refl
