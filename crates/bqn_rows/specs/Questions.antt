-- A call as a reader of a specification looks for it: given the replies so far, its outcome or its next question. This project's own.
use Rattle.std.specs.Prelude.{◌≡◌, ℕ, zero, suc, List, [], ◌∷◌, Option, Err}
use Rattle.bqn_base.specs.declared.fault.Fault.TheVariants.{TooDeep}
use Rattle.bqn_rows.specs.Plain.{Value, Values}
use Rattle.bqn_rows.specs.Raised.{Answer, unplaced}
use Rattle.bqn_rows.specs.Calls as c
use Rattle.bqn_rows.specs.Calls.{Arguments, Call, call}
use Rattle.bqn_rows.specs.Running.{Res, Gives, Ends, Replies, calls}

-- the answer of a block, within which at most so many calls may be open; one step; a text to be written
pub data Question : Type 0 where
  Enter : (block environment : ℕ) (operands : Values) → Arguments → (room : ℕ) → Question
  Turn : Question
  Write : (text : List ℕ) → Question

-- a reply; to a step or a text it says nothing, and is not looked at
abbrev pub Reply : Type 0
Reply = Answer

pub data Next : Type 0 where
  Outcome : Answer → Next
  Asks : Question → Next

-- a question, or with the first of the replies what comes after it
abbrev pub asked : Question → (Reply → List Reply → Next) → List Reply → Next
asked q go [] = Asks q
asked q go (r ∷ rs) = go r rs

-- one more open call, where there is room for it
abbrev pub opened : ℕ → (refused : List Reply → Next) → (ℕ → List Reply → Next) → List Reply → Next
opened zero refused inside = refused
opened (suc room) refused inside = inside room

-- a call with room for so many open ones, and what comes after its outcome
abbrev pub walk : Call → ℕ → (Answer → List Reply → Next) → List Reply → Next
walk (c.End r) room after = after r
walk (c.Enter block environment operands arguments go) room after =
    opened room (walk (go (Err (unplaced TooDeep))) room after) (λ n. asked (Enter block environment operands arguments n) (λ r. walk (go r) room after))
walk (c.Turn go) room after = asked Turn (λ r. walk (go tt) room after)
walk (c.Write text go) room after = asked (Write text) (λ r. walk (go tt) room after)
walk (c.Inside t go) room after = opened room (walk (go (Err (unplaced TooDeep))) room after) (λ n. walk t n (λ r. walk (go r) room after))

-- the outcome of a call of f, or its next question, after these replies
abbrev pub next : (f : Value) (w : Option Value) (x : Value) (room : ℕ) → List Reply → Next
next f w x room = walk (call f w x) room (λ r rest. Outcome r)

-- ---- the same by running the call, with the replies that are left as the state

abbrev pub replied : Question → List Reply → Res Question (List Reply) Reply
replied q [] = Ends q
replied q (r ∷ rs) = Gives r rs

abbrev pub passed : Question → List Reply → Res Question (List Reply) (Unit {0})
passed q [] = Ends q
passed q (r ∷ rs) = Gives tt rs

abbrev pub from_replies : Replies Question (List Reply)
from_replies = record {
  enter = λ room inner block environment operands arguments. replied (Enter block environment operands arguments room);
  turn = passed Turn;
  write = λ text. passed (Write text);
}

abbrev pub seen : Res Question (List Reply) Answer → Next
seen (Gives r rest) = Outcome r
seen (Ends q) = Asks q

-- what a call asks after given replies is what it asks when it is run on them
abbrev pub QuestionsAreOfTheCall : Type 0
QuestionsAreOfTheCall = (f : Value) (w : Option Value) (x : Value) (room : ℕ) (replies : List Reply) → next f w x room replies
    ≡ seen (calls from_replies room (call f w x) replies)
