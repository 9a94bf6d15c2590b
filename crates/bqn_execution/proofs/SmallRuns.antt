-- Running small codes: what samples are made of.
use Rattle.std.proofs.Common.{ℕ, pos, negsuc, List, [], ◌∷◌}
use Rattle.bqn_rows.specs.Plain.{Value, Number}
use Rattle.bqn_rows.specs.Raised.{unplaced}
use Rattle.bqn_syntax.specs.declared.tree.Class.{Class}
use Rattle.bqn_code.specs.declared.instr.Instr.{Instr}
use Rattle.bqn_code.specs.declared.code.Body.{Body}
use Rattle.bqn_code.specs.Plain.{Code}
use Rattle.bqn_code.proofs.SmallCodes.{block, program, code}
use Rattle.bqn_execution.specs.Programs.{Outcome, Faulted, outcome, written, fresh, no_words, exec_within}

abbrev pub n : ℕ → Value
n k = Number (pos k)

-- -k - 1
abbrev pub m : ℕ → Value
m k = Number (negsuc k)

-- a fault by itself
abbrev pub unplaced_in : Outcome → Outcome
unplaced_in (Faulted r) = Faulted (unplaced r.fault)
unplaced_in x = x

-- with room for three open calls
abbrev pub runs : (steps : ℕ) → Code → Outcome
runs steps c = unplaced_in (outcome (exec_within 3 no_words (fresh steps) c))

abbrev pub writes : (steps : ℕ) → Code → List ℕ
writes steps c = written (exec_within 3 no_words (fresh steps) c)

-- a program of one body with two variables
abbrev pub straight : List Instr → Outcome
straight is = runs 9 (code [] (program 2 is ∷ []))

-- a program, and a block in it
abbrev pub with_block : Class → List Body → List Instr → Outcome
with_block c bodies is = runs 9 (code [] (program 2 is ∷ block c 0 bodies ∷ []))
