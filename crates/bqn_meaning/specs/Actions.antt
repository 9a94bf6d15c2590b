-- Actions over a state, whatever it holds: this project's own.
use Rattle.std.specs.Prelude.{Bool, true, false, Option, Some, None, Result, Ok, Err}
use Rattle.bqn_base.specs.declared.fault.Fault.{Fault}
use Rattle.bqn_base.specs.declared.fault.Fault.TheVariants.{NothingUsed}
use Rattle.bqn_base.specs.declared.place.Place.{Place}
use Rattle.bqn_rows.specs.Raised.{Raised, unplaced, raised, placed}
use Rattle.bqn_rows.specs.Running.{Res, Gives, then_do}

-- what does something to a state: an answer or a raised fault, and the state after it; or an X, which ends the evaluation
abbrev pub Action : (X S A : Type 0) → Type 0
Action X S A = S → Res X S (Result A Raised)

-- a fault passes on
abbrev pub go_on : {X S A B : Type 0} → (A → Action X S B) → Result A Raised → Action X S B
go_on next (Ok v) = next v
go_on next (Err f) = λ s. Gives (Err f) s

-- an operation at this place: a fault that arises in it without a place gets this one
abbrev pub at : {X S A : Type 0} → Place → Action X S A → Action X S A
at p m = λ s. then_do (m s) (λ r. Gives (placed p r))

-- one action, and with its answer the next
infixl 10 ◌>>=◌
abbrev pub ◌>>=◌ : {X S A B : Type 0} → Action X S A → (A → Action X S B) → Action X S B
m >>= next = λ s. then_do (m s) (go_on next)

abbrev pub pure : {X S A : Type 0} → A → Action X S A
pure v = λ s. Gives (Ok v) s

abbrev pub fault : {X S A : Type 0} → Fault → Action X S A
fault f = λ s. Gives (Err (unplaced f)) s

abbrev pub known : {X S A : Type 0} → Result A Fault → Action X S A
known r = λ s. Gives (raised r) s

-- what is there, or else a fault
abbrev pub found : {X S A : Type 0} → Fault → Option A → Action X S A
found f None = fault f
found f (Some v) = pure v

-- a value that may be Nothing, where Nothing is no use
abbrev pub used : {X S A : Type 0} → Option A → Action X S A
used = found NothingUsed

-- an action where this holds, or else an answer
abbrev pub where_so : {X S A : Type 0} → A → Action X S A → Bool → Action X S A
where_so otherwise m true = m
where_so otherwise m false = pure otherwise
