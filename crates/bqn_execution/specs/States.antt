-- The state of a run of code, and how a run ends early: this project's own.
use Rattle.std.specs.Prelude.{ℕ, zero, suc, List, ◌++◌, Option, Result, encode_utf8_all}
use Rattle.bqn_rows.specs.Plain.{Value}
use Rattle.bqn_rows.specs.Raised.{Raised}
use Rattle.bqn_rows.specs.Running.{Res, Ends, Runs}
use Rattle.bqn_meaning.specs.Actions.{Action}

-- the number of the body for which it was made, that of the environment around it, and its variables by their slots
pub record Environment : Type 0 where
  pub body : ℕ
  pub parent : ℕ
  pub variables : List (Option Value)

-- the environments by their numbers, the bytes written so far, and the steps that are left
pub record State : Type 0 where
  pub environments : List Environment
  pub written : List ℕ
  pub left : ℕ

-- what ends a run before it has an answer: one more step is needed than is left, or an operand or object is missing, which shows an X
pub data Halt (X S : Type 0) : Type 0 where
  Spends : S → Halt X S
  Sticks : X → Halt X S

abbrev pub Halted : Type 0
Halted = Halt (Unit {0}) State

abbrev pub Does : Type 0 → Type 0
Does A = Action Halted State A

-- what running gives
abbrev pub Ran : Type 0 → Type 0
Ran A = Res Halted State (Result A Raised)

-- how calls run
abbrev pub Calling : Type 0
Calling = Runs Halted State

abbrev pub stuck : {A : Type 0} → Does A
stuck = λ s. Ends (Sticks tt)

-- one step, where one is left
abbrev pub stepped : {A : Type 0} → (State → Res Halted State A) → State → Res Halted State A
stepped go s = elim s.left [ zero ↦ Ends (Spends s) | suc n ↦ go (record s { left = n }) ]

-- a text is written
abbrev pub wrote : List ℕ → State → State
wrote text s = record s { written = s.written ++ encode_utf8_all text }
