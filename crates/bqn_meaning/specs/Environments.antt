-- Environments, and reading and storing variables: BQN's page on scope. That an environment is told by its number, and is of use
-- only to the body for which it was made, is this project's own.
use Rattle.std.specs.Prelude.{ℕ, zero, suc, nat_eq, Bool, true, false, List, [], ◌∷◌, ◌++◌, length, map, slice_get, slice_set, Option, Some, None, Result, Ok, encode_utf8_all}
use Rattle.std.specs.Option.{option_and_then}
use Rattle.bqn_base.specs.declared.fault.Fault.TheVariants.{Undefined}
use Rattle.bqn_rows.specs.Plain.{Value}
use Rattle.bqn_rows.specs.Raised.{Raised}
use Rattle.bqn_rows.specs.Running.{Res, Gives, Ends, Runs}
use Rattle.bqn_syntax.specs.scope.Scope.{Seen, same_name, sees}
use Rattle.bqn_meaning.specs.Actions.{Action, ◌>>=◌, found}
use Rattle.bqn_syntax.specs.blocks.Blocks.{Numbered}

-- the body for which it was made, the number of the environment around it, and its variables, the newest first
pub record Environment : Type 0 where
  pub body : ℕ
  pub parent : ℕ
  pub variables : List (List ℕ × Value)

-- the environments by their numbers, the bytes written so far, and the steps that are left
pub record State : Type 0 where
  pub environments : List Environment
  pub written : List ℕ
  pub left : ℕ

-- an evaluation that needs one more step than is left ends at the state there
abbrev pub Does : Type 0 → Type 0
Does A = Action State State A

-- what evaluating gives
abbrev pub Ran : Type 0 → Type 0
Ran A = Res State State (Result A Raised)

-- how calls run
abbrev pub Calling : Type 0
Calling = Runs State State

-- ---- steps, texts and new environments

-- one step, where one is left
abbrev pub stepped : {A : Type 0} → (State → Res State State A) → State → Res State State A
stepped go s = elim s.left [ zero ↦ Ends s | suc n ↦ go (record s { left = n }) ]

abbrev pub wrote : List ℕ → State → State
wrote text s = record s { written = s.written ++ encode_utf8_all text }

-- an environment for this body within that one; it gets the next number
abbrev pub within_new : {A : Type 0} → (body parent : ℕ) → (ℕ → Does A) → Does A
within_new body parent next =
    λ s. next (length s.environments) (record s { environments = s.environments ++ record { body = body; parent = parent; variables = [] } ∷ [] })

-- ---- look-ups

abbrev pub or_older : Bool → Value → Option Value → Option Value
or_older true v older = Some v
or_older false v older = older

abbrev pub value_of : List (List ℕ × Value) → List ℕ → Option Value
value_of [] name = None
value_of (p ∷ ps) name = or_older (same_name p.0 name) p.1 (value_of ps name)

abbrev pub if_made_for : Bool → Environment → Option Environment
if_made_for true e = Some e
if_made_for false e = None

-- an environment, where it was made for this body
abbrev pub made_for : (body : ℕ) → Option Environment → Option Environment
made_for body None = None
made_for body (Some e) = if_made_for (nat_eq e.body body) e

abbrev pub itself : ℕ → Option Environment → Option ℕ
itself n None = None
itself n (Some e) = Some n

abbrev pub at_parent : Option Environment → (ℕ → Option ℕ) → Option ℕ
at_parent None go = None
at_parent (Some e) go = go e.parent

-- the number of the environment of the body that stands so many around, where each on the way was made for the body expected there
abbrev pub place_at : List Numbered → (up environment : ℕ) → List Environment → Option ℕ
place_at [] up n es = None
place_at (b ∷ around) zero n es = itself n (made_for b.number (slice_get es n))
place_at (b ∷ around) (suc up) n es = at_parent (made_for b.number (slice_get es n)) (λ m. place_at around up m es)

abbrev pub place_seen : List Numbered → (environment : ℕ) → Option Seen → List Environment → Option ℕ
place_seen scopes n None es = None
place_seen scopes n (Some at) es = place_at scopes at.up n es

abbrev pub seen_from : List Numbered → List ℕ → Option Seen
seen_from scopes name = sees (map (λ b. b.scope) scopes) name

-- the number of the environment that a name belongs to
abbrev pub place : List Numbered → (environment : ℕ) → List ℕ → List Environment → Option ℕ
place scopes n name es = place_seen scopes n (seen_from scopes name) es

-- ---- reading, from an environment of the first of these bodies

abbrev pub variable : State → List ℕ → (environment : ℕ) → Option Value
variable s name n = option_and_then (λ e. value_of e.variables name) (slice_get s.environments n)

abbrev pub value_at : List Numbered → (environment : ℕ) → List ℕ → State → Option Value
value_at scopes n name s = option_and_then (variable s name) (place scopes n name s.environments)

-- the value of a name
unfoldable pub look : List Numbered → (environment : ℕ) → List ℕ → Does Value
look scopes n name = λ s. found Undefined (value_at scopes n name s) s

-- ---- storing

abbrev pub with_value : List ℕ → Value → Environment → Environment
with_value name v e = record e { variables = (name, v) ∷ e.variables }

abbrev pub put_in : ℕ → List ℕ → Value → Option Environment → List Environment → List Environment
put_in n name v None es = es
put_in n name v (Some e) es = slice_set es n (with_value name v e)

-- the environments after a store
abbrev pub put_at : Option ℕ → List ℕ → Value → List Environment → List Environment
put_at None name v es = es
put_at (Some n) name v es = put_in n name v (slice_get es n) es

abbrev pub stored : Option ℕ → List ℕ → Value → State → State
stored at name v s = record s { environments = put_at at name v s.environments }

-- a name of the body itself gets a value
unfoldable pub define : List Numbered → (environment : ℕ) → List ℕ → Value → Does (Unit {0})
define scopes n name v = λ s. Gives (Ok tt) (stored (place_at scopes 0 n s.environments) name v s)

-- a name that has a value gets another
unfoldable pub change : List Numbered → (environment : ℕ) → List ℕ → Value → Does (Unit {0})
change scopes n name v = look scopes n name >>= (λ old s. Gives (Ok tt) (stored (place scopes n name s.environments) name v s))
