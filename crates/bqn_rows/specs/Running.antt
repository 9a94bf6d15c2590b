-- How a call runs in an evaluation that keeps a state of type S, and that may end at an X instead: this project's own.
use Rattle.std.specs.Prelude.{ℕ, zero, suc, List, Err}
use Rattle.bqn_base.specs.declared.fault.Fault.TheVariants.{TooDeep}
use Rattle.bqn_rows.specs.Plain.{Values}
use Rattle.bqn_rows.specs.Raised.{Answer, unplaced}
use Rattle.bqn_rows.specs.Calls.{Arguments, Call, End, Enter, Turn, Write, Inside}

-- an answer and the state after it, or what ended the evaluation
pub data Res (X S A : Type 0) : Type 0 where
  Gives : A → S → Res X S A
  Ends : X → Res X S A

abbrev pub then_do : {X S A B : Type 0} → Res X S A → (A → S → Res X S B) → Res X S B
then_do (Gives a s) next = next a s
then_do (Ends x) next = Ends x

-- how calls run
abbrev pub Runs : (X S : Type 0) → Type 0
Runs X S = Call → S → Res X S Answer

-- what an evaluation does where a call asks. Entering a block it is told how many calls may still be open, and how these run.
pub record Replies (X S : Type 0) : Type 0 where
  pub enter : (room : ℕ) → Runs X S → (block environment : ℕ) → Values → Arguments → S → Res X S Answer
  pub turn : S → Res X S (Unit {0})
  pub write : List ℕ → S → Res X S (Unit {0})

-- a call, given how blocks are entered and how the calls inside it run
module _ {X S : Type 0} (replies : Replies X S) (enter : (block environment : ℕ) → Values → Arguments → S → Res X S Answer) (inner : Runs X S) where
  abbrev pub run : Runs X S
  run (End r) s = Gives r s
  run (Enter block environment operands arguments go) s = then_do (enter block environment operands arguments s) (λ r. run (go r))
  run (Turn go) s = then_do (replies.turn s) (λ u. run (go u))
  run (Write text go) s = then_do (replies.write text s) (λ u. run (go u))
  run (Inside t go) s = then_do (inner t s) (λ r. run (go r))

-- how many calls may be open in an evaluation
abbrev pub open_calls : ℕ
open_calls = 1000

-- a call where at most so many may be open inside it; one more is TooDeep
abbrev pub calls : {X S : Type 0} → Replies X S → (room : ℕ) → Runs X S
calls replies zero = run replies (λ block environment operands arguments s. Gives (Err (unplaced TooDeep)) s) (λ t s. Gives (Err (unplaced TooDeep)) s)
calls replies (suc room) = run replies (replies.enter room (calls replies room)) (calls replies room)
