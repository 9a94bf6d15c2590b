-- Where code stands, and its variables: BQN's page on scope, over slots. Each look-up of an environment names the body for which it
-- has to be made; where it was made for another, a read is Undefined and a store does nothing. That is this project's own.
use Rattle.std.specs.Prelude.{ℕ, zero, suc, nat_eq, Bool, true, false, List, slice_get, slice_set, Option, Some, None, Ok}
use Rattle.std.specs.Option.{option_and_then}
use Rattle.bqn_base.specs.declared.fault.Fault.TheVariants.{Undefined, NoField}
use Rattle.bqn_rows.specs.Plain.{Value, Values, Namespace}
use Rattle.bqn_rows.specs.Calls.{Arguments}
use Rattle.bqn_rows.specs.Running.{Gives}
use Rattle.bqn_syntax.specs.declared.tree.Class.{Class}
use Rattle.bqn_meaning.specs.Actions.{found, fault, ◌>>=◌}
use Rattle.bqn_execution.specs.States.{Environment, State, Does}
use Rattle.bqn_code.specs.Numbering.{Placed, Table, parent_of, field_slot}

-- The code, the number and class of the block, the numbers of the body, of its environment and of the one where the block's value
-- was made, and what the block is run on.
pub record Frame : Type 0 where
  pub here : Placed
  pub block : ℕ
  pub class : Class
  pub body : ℕ
  pub environment : ℕ
  pub outer : ℕ
  pub operands : Values
  pub arguments : Arguments

abbrev pub fitting : Bool → Environment → Option Environment
fitting true e = Some e
fitting false e = None

-- an environment, where it was made for this body
abbrev pub made_for : (body : ℕ) → Option Environment → Option Environment
made_for body None = None
made_for body (Some e) = fitting (nat_eq e.body body) e

abbrev pub itself : ℕ → Option Environment → Option ℕ
itself n None = None
itself n (Some e) = Some n

abbrev pub at_parent : Option Environment → (ℕ → Option ℕ) → Option ℕ
at_parent None go = None
at_parent (Some e) go = go e.parent

-- the number of the environment so many bodies up, where each on the way was made for the body that is expected
abbrev pub place_at : Table → (body up environment : ℕ) → List Environment → Option ℕ
place_at t body zero n es = itself n (made_for body (slice_get es n))
place_at t body (suc up) n es = at_parent (made_for body (slice_get es n)) (λ m. place_at t (parent_of t body) up m es)

-- ---- reading

abbrev pub variable_in : (slot : ℕ) → Environment → Option Value
variable_in slot e = option_and_then (λ v. v) (slice_get e.variables slot)

abbrev pub variable : State → (slot environment : ℕ) → Option Value
variable s slot n = option_and_then (variable_in slot) (slice_get s.environments n)

-- ---- storing

abbrev pub with_variable : (slot : ℕ) → Value → Environment → Environment
with_variable slot v e = record e { variables = slice_set e.variables slot (Some v) }

abbrev pub put_in : ℕ → (slot : ℕ) → Value → Option Environment → List Environment → List Environment
put_in n slot v None es = es
put_in n slot v (Some e) es = slice_set es n (with_variable slot v e)

abbrev pub put_at : Option ℕ → (slot : ℕ) → Value → List Environment → List Environment
put_at None slot v es = es
put_at (Some n) slot v es = put_in n slot v (slice_get es n) es

-- ---- variables so many bodies up

module _ (t : Table) (f : Frame) where
  abbrev pub place : (up : ℕ) → State → Option ℕ
  place up s = place_at t f.body up f.environment s.environments

  abbrev pub value_at : (up slot : ℕ) → State → Option Value
  value_at up slot s = option_and_then (variable s slot) (place up s)

  -- the value of a variable
  abbrev pub load : (up slot : ℕ) → Does Value
  load up slot = λ s. found Undefined (value_at up slot s) s

  abbrev pub stored : (up slot : ℕ) → Value → State → State
  stored up slot v s = record s { environments = put_at (place up s) slot v s.environments }

  -- a variable of the body itself gets a value
  abbrev pub define : (slot : ℕ) → Value → Does (Unit {0})
  define slot v = λ s. Gives (Ok tt) (stored 0 slot v s)

  -- a variable that has a value gets another
  abbrev pub change : (up slot : ℕ) → Value → Does (Unit {0})
  change up slot v = load up slot >>= (λ old s. Gives (Ok tt) (stored up slot v s))

-- ---- fields

abbrev pub read_field : (environment : ℕ) → Option ℕ → Does Value
read_field n None = fault NoField
read_field n (Some slot) = λ s. found Undefined (variable s slot n) s

abbrev pub slot_of : Table → Option (List ℕ) → Option Environment → Option ℕ
slot_of t name None = None
slot_of t name (Some e) = field_slot t e.body name

-- the slot of the variable that the namespace of an environment has as the field of this name
abbrev pub field_place : Table → State → (environment : ℕ) → Option (List ℕ) → Option ℕ
field_place t s n name = slot_of t name (slice_get s.environments n)

-- the present value of a field
abbrev pub field : Table → Option (List ℕ) → Value → Does Value
field t name (Namespace n) = λ s. read_field n (field_place t s n name) s
field t name v = fault NoField
