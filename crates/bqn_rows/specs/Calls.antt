-- What a call does, as far as the values alone tell it: BQN's pages on evaluation, on trains and on expressions. A call of a block
-- asks the evaluation that it stands in; the form of such questions is this project's own.
use Rattle.std.specs.Prelude.{ℕ, ◌-◌, nat_lt, true, false, cond, pos, List, [], ◌∷◌, slice_get, Option, Some, None, Result, Ok, Err}
use Rattle.bqn_base.specs.declared.fault.Fault.{Fault}
use Rattle.bqn_base.specs.declared.fault.Fault.TheVariants.{Domain, NotCallable}
use Rattle.bqn_rows.specs.Plain.{Maker, One, Two, Atop, Fork, Value, Number, Character, Array, Given, Derived, Function, Modifier1, Modifier2, Namespace, Values, none, more, kind, kind_number}
use Rattle.bqn_rows.specs.Arrays.{text_value}
use Rattle.bqn_rows.specs.Primitives.{Primitive, primitives, monadic, dyadic}
use Rattle.bqn_base.specs.Printed.{line}
use Rattle.bqn_rows.specs.Shown.{shown, formatted, is_text}
use Rattle.bqn_rows.specs.Raised.{Answer, unplaced, raised}

-- what a block is run on: nothing, a right argument, or a left one too
pub data Arguments : Type 0 where
  no_arguments : Arguments
  alone : (x : Value) → Arguments
  two : (w x : Value) → Arguments

-- A call: its end, or the next question and how the call goes on after the reply. Enter asks for the answer of a block in an
-- environment, which is one more open call; Turn for one step, and Write for a text to be written, whose replies say nothing.
-- What stands Inside is one more open call, and `go` goes on with its answer.
pub data Call : Type 0 where
  End : Answer → Call
  Enter : (block environment : ℕ) (operands : Values) → Arguments → (go : Answer → Call) → Call
  Turn : (go : Unit {0} → Call) → Call
  Write : (text : List ℕ) → (go : Unit {0} → Call) → Call
  Inside : Call → (go : Answer → Call) → Call

-- a call that answers at once
abbrev pub answer : Value → Call
answer v = End (Ok v)

-- a call that faults at once
abbrev pub fault : Fault → Call
fault f = End (Err (unplaced f))

-- a call that ends so at once
abbrev pub known : Result Value Fault → Call
known r = End (raised r)

-- the next call, or the fault that ended the first
abbrev pub ended : Answer → (Value → Call) → Call
ended (Ok v) next = next v
ended (Err r) next = End (Err r)

-- one call, and with its answer the next; a fault ends both
infixl 10 ◌>>=◌
abbrev pub ◌>>=◌ : Call → (Value → Call) → Call
(End r) >>= next = ended r next
(Enter block environment operands arguments go) >>= next = Enter block environment operands arguments (λ r. go r >>= next)
(Turn go) >>= next = Turn (λ u. go u >>= next)
(Write text go) >>= next = Write text (λ u. go u >>= next)
(Inside t go) >>= next = Inside t (λ r. go r >>= next)

-- a right argument, perhaps with a left one
abbrev pub arguments : Option Value → Value → Arguments
arguments None x = alone x
arguments (Some w) x = two w x

-- ---- given values

-- what the primitive function answers, if there is one
abbrev pub primitive_answer : Option Primitive → Option Value → Value → Result Value Fault
primitive_answer None w x = Err NotCallable
primitive_answer (Some p) None x = monadic p x
primitive_answer (Some p) (Some w) x = dyadic p w x

-- the system functions, in the order of their codes
pub data System : Type 0 where
  out show repr format type : System

abbrev pub systems : List System
systems = out ∷ show ∷ repr ∷ format ∷ type ∷ []

-- `•Out` writes a text and answers it; `•Show` writes the text of any value and answers the value; `•Repr` answers that text, and so does
-- `•Fmt`, where the value is neither a text nor a character, which are their own texts
abbrev pub system_call : System → Value → Call
system_call out x = cond (is_text x) (Write (line (formatted x)) (λ u. answer x)) (fault Domain)
system_call show x = Write (line (shown x)) (λ u. answer x)
system_call repr x = known (text_value (shown x))
system_call format x = cond (is_text x) (answer x) (known (text_value (formatted x)))
system_call type x = answer (Number (pos (kind_number (kind x))))

-- a system function has no left argument; a primitive modifier is no function
abbrev pub called_system : Option System → Option Value → Value → Call
called_system None w x = fault NotCallable
called_system (Some f) None x = system_call f x
called_system (Some f) (Some w) x = fault Domain

-- a call of the given value with this code
abbrev pub given_call : ℕ → Option Value → Value → Call
given_call code w x =
    elim (nat_lt code 64) [ true ↦ known (primitive_answer (slice_get primitives code) w x) | false ↦ called_system (slice_get systems (code - 64)) w x ]

-- ---- functions

-- What a given modifier does with its operands is still to be defined. No file opens this one, so nothing can be proved of it but that
-- equal calls are equal; no source with a modifier is accepted so far.
pub modifier_to_come : Maker → (operands : Values) → Option Value → Value → Call
modifier_to_come maker operands w x = fault NotCallable

-- a derived function without the parts that its maker asks for is no proper value
abbrev pub improper : Call
improper = fault NotCallable

-- A number, a character, an array or a namespace is a constant function. In a train the right part is called first, and then the
-- left one. A modifier can't be called.
abbrev pub call : Value → Option Value → Value → Call
call (Number n) w x = answer (Number n)
call (Character c) w x = answer (Character c)
call (Array shape xs f) w x = answer (Array shape xs f)
call (Namespace environment) w x = answer (Namespace environment)
call (Given code) w x = given_call code w x
call (Derived (One code) (more f none)) w x = Inside (modifier_to_come (One code) (more f none) w x) End
call (Derived (Two code) (more f (more g none))) w x = Inside (modifier_to_come (Two code) (more f (more g none)) w x) End
call (Derived Atop (more f (more g none))) w x = Inside (call g w x >>= (λ y. call f None y)) End
call (Derived Fork (more f (more g (more h none)))) w x = Inside (call h w x >>= (λ z. call f w x >>= (λ y. call g (Some y) z))) End
call (Derived maker parts) w x = Inside improper End
call (Function block environment operands) w x = Enter block environment operands (arguments w x) End
call (Modifier1 block environment) w x = fault NotCallable
call (Modifier2 block environment) w x = fault NotCallable

-- a run of an immediate block, or of a block modifier that runs once it has its operands
abbrev pub run_block : (block environment : ℕ) (operands : Values) → Call
run_block block environment operands = Enter block environment operands no_arguments End
