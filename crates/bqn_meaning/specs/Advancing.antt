-- What evaluating does to a state: this project's own.
use Rattle.std.specs.Prelude.{◌≡◌, ◌≤◌, ℕ, ◌+◌, List, ◌++◌}
use Rattle.bqn_rows.specs.Plain.{Value}
use Rattle.bqn_rows.specs.Running.{Res, Gives, Ends}
use Rattle.bqn_syntax.specs.grammar.Trees.{Stmts}
use Rattle.bqn_syntax.specs.blocks.Blocks.{Earlier}
use Rattle.bqn_meaning.specs.Environments.{State}
use Rattle.bqn_meaning.specs.Sessions.{line}
use Rattle.bqn_meaning.specs.Programs.{Evaluated, Answers, Faults, IsSpent, evaluated}

-- more may be written, and fewer steps are left
pub record Follows (old new : State) : Type 0 where
  pub more : List ℕ
  pub written : new.written ≡ old.written ++ more
  pub steps : new.left ≤ old.left

-- the state at the end
abbrev pub state_of : {A : Type 0} → Res State State A → State
state_of (Gives a s) = s
state_of (Ends s) = s

abbrev pub with_more : (steps : ℕ) → State → State
with_more k s = record s { left = s.left + k }

-- a line of a session, where so many calls may be open, from any state
abbrev pub RunsAdvance : Type 0
RunsAdvance = (room : ℕ) (earlier : Earlier) (args : Value) (ss : Stmts) (s : State) → Follows s (state_of (line room earlier args ss s))

-- it begins with these bytes
pub record BeginsWith (front whole : List ℕ) : Type 0 where
  pub rest : List ℕ
  pub is : whole ≡ front ++ rest

-- the same outcome and bytes; of one that is spent, the bytes so far
abbrev pub GoesOnAs : (smaller larger : Evaluated) → Type 0
GoesOnAs smaller larger =
    elim smaller.outcome [ IsSpent ↦ BeginsWith smaller.written larger.written | Answers v ↦ larger ≡ smaller | Faults f ↦ larger ≡ smaller ]

abbrev pub LargerBudgetsGoOn : Type 0
LargerBudgetsGoOn = (ss : Stmts) (words : List (List ℕ)) (steps more : ℕ) → GoesOnAs (evaluated ss words steps) (evaluated ss words (steps + more))
