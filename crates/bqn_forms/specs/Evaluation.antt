-- What a source means: BQN's page on evaluation. No stack, no code.
use Rattle.std.specs.Prelude.{ℕ, zero, suc, ℤ, List, [], ◌∷◌, ◌++◌, Option, Some, None, Result, Ok, Err, slice_get, encode_utf8_all}
use Rattle.bqn_base.specs.declared.fault.Fault.{Fault}
use Rattle.bqn_base.specs.declared.fault.Fault.TheVariants.{Domain, Undefined}
use Rattle.bqn_base.specs.declared.place.Place.{Place}
use Rattle.bqn_base.specs.Arithmetic.{sum_of, difference_of, product_of, negative_of, sign_of}
use Rattle.bqn_base.specs.Printed.{line, number_text}
use Rattle.bqn_forms.specs.declared.function.Callee.{Callee}
use Rattle.bqn_forms.specs.declared.function.Function.{Function}
use Rattle.bqn_forms.specs.declared.function.Function.TheVariants.{Plus, Minus, Times, Show}
use Rattle.bqn_forms.specs.declared.raised.Raised.{Raised}
use Rattle.bqn_forms.specs.Tree.{Part, Number, Name, Paren, Expr, Value, Apply1, Apply2, Stmt}

-- the bytes written so far, the steps that are left, and the values of the names that are defined, by their numbers
pub record State : Type 0 where
  pub written : List ℕ
  pub left : ℕ
  pub vars : List ℤ

-- an answer, a fault, or that one more step is needed than is left; each with what was written before it
pub data Res (A : Type 0) : Type 0 where
  Gives : A → State → Res A
  Faults : Raised → State → Res A
  Spends : State → Res A

-- an evaluation
abbrev pub M : Type 0 → Type 0
M A = State → Res A

abbrev pub then_do : {A B : Type 0} → Res A → (A → M B) → Res B
then_do (Gives v s) go = go v s
then_do (Faults f s) go = Faults f s
then_do (Spends s) go = Spends s

infixl 10 ◌>>=◌
abbrev pub ◌>>=◌ : {A B : Type 0} → M A → (A → M B) → M B
m >>= go = λ s. then_do (m s) go

abbrev pub pure : {A : Type 0} → A → M A
pure v = λ s. Gives v s

-- what a call answers, without and with a left argument; a system function has none
abbrev pub answer_of : Function → Option ℤ → ℤ → Result ℤ Fault
answer_of Plus None x = Ok x
answer_of Plus (Some w) x = sum_of w x
answer_of Minus None x = negative_of x
answer_of Minus (Some w) x = difference_of w x
answer_of Times None x = Ok (sign_of x)
answer_of Times (Some w) x = product_of w x
answer_of Show None x = Ok x
answer_of Show (Some w) x = Err Domain

-- a fault is raised at this place
abbrev pub raised : Place → Fault → Raised
raised place f = record { fault = f; place = place }

-- what is called has the place of its faults
abbrev pub answer_at : Callee → Option ℤ → ℤ → Result ℤ Raised
answer_at callee left x = elim (answer_of callee.function left x) [ Ok y ↦ Ok y | Err f ↦ Err (raised callee.place f) ]

-- what a call writes: `•Show x` the text of x and a newline
abbrev pub output_of : Function → Option ℤ → ℤ → List ℕ
output_of Show None x = encode_utf8_all (line (number_text x))
output_of _ left x = []

-- a state after further bytes
abbrev pub wrote : State → List ℕ → State
wrote s bytes = record s { written = s.written ++ bytes }

abbrev pub answered : Result ℤ Raised → M ℤ
answered (Ok y) = pure y
answered (Err f) = λ s. Faults f s

-- a call
abbrev pub call : Callee → Option ℤ → ℤ → M ℤ
call callee left x = λ s. answered (answer_at callee left x) (wrote s (output_of callee.function left x))

abbrev pub known_value : Place → Option ℤ → M ℤ
known_value place None = λ s. Faults (raised place Undefined) s
known_value place (Some v) = pure v

-- the value of a name
abbrev pub load : ℕ → Place → M ℤ
load number place = λ s. known_value place (slice_get s.vars number) s

-- gives the next name this value
abbrev pub define : ℤ → M ℤ
define v = λ s. Gives v (record s { vars = s.vars ++ v ∷ [] })

-- the right argument is evaluated first, then the left one
abbrev mutual
  pub eval_part : Part → M ℤ
  eval_part (Number z) = pure z
  eval_part (Name number place) = load number place
  eval_part (Paren e) = eval_expr e

  pub eval_expr : Expr → M ℤ
  eval_expr (Value part) = eval_part part
  eval_expr (Apply1 f e) = eval_expr e >>= (λ x. call f None x)
  eval_expr (Apply2 f left e) = eval_expr e >>= (λ x. eval_part left >>= (λ w. call f (Some w) x))

abbrev pub stored : Option ℕ → ℤ → M ℤ
stored None v = pure v
stored (Some number) v = define v

-- statements in order; their values are dropped
abbrev pub eval_statements : List Stmt → M (Unit {0})
eval_statements [] = pure tt
eval_statements (st ∷ sts) = eval_expr st.value >>= (λ v. stored st.target v >>= (λ u. eval_statements sts))

-- one step, where one is left
abbrev pub stepped : {A : Type 0} → M A → M A
stepped m = λ s. elim s.left [ zero ↦ Spends s | suc n ↦ m (record s { left = n }) ]

-- the program's body takes a step; before it nothing is written, and no name is defined
abbrev pub evaluated : List Stmt → ℕ → Res (Unit {0})
evaluated statements steps = stepped (eval_statements statements) (record { written = []; left = steps; vars = [] })
