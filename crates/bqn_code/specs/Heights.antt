-- How high the stack is: this project's own.
use Rattle.std.specs.Prelude.{ℕ, ◌+◌, ◌-◌, nat_eq, nat_le, Bool, true, false, ◌&&◌, List, [], ◌∷◌}
use Rattle.bqn_code.specs.declared.instr.Instr.{Instr}
use Rattle.bqn_code.specs.declared.instr.Instr.TheVariants as instr

-- how many operands an instruction finds on the stack; what stays there counts as taken and given back
abbrev pub takes : Instr → ℕ
takes (instr.Define slot) = 1
takes (instr.Change up slot) = 1
takes instr.Pop = 1
takes (instr.List n) = n
takes instr.Call1 = 2
takes instr.Call2 = 3
takes instr.Derive1 = 2
takes instr.Derive2 = 3
takes instr.Train2 = 2
takes instr.Train3 = 3
takes (instr.Field k) = 1
takes (instr.Bind k) = 1
takes (instr.Match k) = 1
takes instr.Check = 1
takes instr.Return = 1
takes _ = 0

-- how many values it leaves there
abbrev pub gives : Instr → ℕ
gives instr.Pop = 0
gives (instr.Match k) = 0
gives instr.Check = 0
gives instr.Return = 0
gives instr.Space = 0
gives _ = 1

abbrev pub is_last : Instr → Bool
is_last instr.Return = true
is_last instr.Space = true
is_last _ = false

abbrev pub is_empty : {A : Type 0} → List A → Bool
is_empty [] = true
is_empty (x ∷ xs) = false

-- From this height on each instruction finds its operands, and the code ends in Return on one value or in Space on none, neither of
-- which stands anywhere else.
abbrev pub is_balanced : (height : ℕ) → List Instr → Bool
is_balanced height [] = false
is_balanced height (i ∷ is) = elim (is_last i) [
  | true ↦ nat_eq height (takes i) && is_empty is
  | false ↦ nat_le (takes i) height && is_balanced (height - takes i + gives i) is
]
