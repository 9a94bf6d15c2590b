-- Code that is not stuck: each instruction finds its operands, and the constant, the pattern or the block that it names. A missing slot,
-- a block behind a value or an operand outside a modifier shows as a fault instead, and `Formed` says that none of these arises. This
-- project's own.
use Rattle.std.specs.Prelude.{ℕ}
use Rattle.std.specs.List.{All}
use Rattle.bqn_rows.specs.Plain.{Value}
use Rattle.bqn_rows.specs.Running.{Res, Gives, Ends}
use Rattle.bqn_code.specs.Plain.{Code}
use Rattle.bqn_execution.specs.States.{State, Halted, Spends, Sticks}
use Rattle.bqn_execution.specs.Programs.{Kept, exec_within}
use Rattle.bqn_code.specs.Verified.{Verified}

-- a run is not stuck
abbrev pub Sure : {A : Type 0} → Res Halted State A → Type 0
Sure (Gives r s) = Unit {0}
Sure (Ends (Spends s)) = Unit {0}
Sure (Ends (Sticks u)) = ⊥

-- a verified code behind verified codes, whatever is kept of their run
abbrev pub VerifiedCodeIsNeverStuck : Type 0
VerifiedCodeIsNeverStuck = (room : ℕ) (args : Value) (kept : Kept) (code : Code) →
    All Verified kept.codes → Verified code → Sure (exec_within room args kept code)
