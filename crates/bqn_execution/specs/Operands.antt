-- The stack, and what instructions take from it and push: this project's own.
use Rattle.std.specs.Prelude.{ℕ, zero, suc, nat_eq, true, false, List, [], ◌∷◌, Option, Some, None}
use Rattle.bqn_base.specs.declared.place.Place.{Place}
use Rattle.bqn_rows.specs.Plain.{Value, Given, Namespace, Values, is_given}
use Rattle.bqn_rows.specs.Relations.{both}
use Rattle.bqn_syntax.specs.declared.tree.Class.{Class}
use Rattle.bqn_syntax.specs.declared.tree.Class.TheVariants as class
use Rattle.bqn_meaning.specs.Actions.{at, ◌>>=◌, pure, known}
use Rattle.bqn_meaning.specs.Frames.{given}
use Rattle.bqn_meaning.specs.Deriving.{standing}
use Rattle.bqn_meaning.specs.Meaning.{Ending, EndsWith}
use Rattle.bqn_code.specs.declared.constant.Const.{Const}
use Rattle.bqn_execution.specs.States.{Does, Calling, stuck}
use Rattle.bqn_execution.specs.Patterns.{constant_value}

-- values, and Nothing as none; the top comes first
abbrev pub Stack : Type 0
Stack = List (Option Value)

-- what code does with a stack
abbrev pub Go : Type 0
Go = Stack → Does Ending

-- ---- taking

abbrev pub one : (Option Value → Go) → Go
one go [] = stuck
one go (x ∷ st) = go x st

abbrev pub pair : (Option Value → Option Value → Go) → Go
pair go = one (λ x. one (go x))

abbrev pub triple : (Option Value → Option Value → Option Value → Go) → Go
triple go = one (λ x. pair (go x))

-- so many, the lowest first; none where one of them is Nothing
abbrev pub taken : ℕ → Option Values → (Option Values → Go) → Go
taken zero xs go st = go xs st
taken (suc n) xs go [] = stuck
taken (suc n) xs go (x ∷ st) = taken n (both x xs) go st

-- ---- pushing

-- what an instruction at this place makes is pushed
abbrev pub pushed : Place → Does (Option Value) → Go → Go
pushed p m next st = at p m >>= (λ v. next (v ∷ st))

abbrev pub value : Does Value → Does (Option Value)
value m = m >>= given

abbrev pub constant : Option Const → Does Value
constant None = stuck
constant (Some c) = known (constant_value c)

-- the given value with this code; the one behind all others is `•args`
abbrev pub given_value : (args : Value) → ℕ → Does Value
given_value args code = elim (is_given code) [ true ↦ pure (Given code) | false ↦ elim (nat_eq code 69) [ true ↦ pure args | false ↦ stuck ] ]

-- what a block makes in an environment, where it isn't run
abbrev pub block_value : Calling → Option Class → (block environment : ℕ) → Does Value
block_value h None b e = stuck
block_value h (Some class.Immediate) b e = stuck
block_value h (Some c) b e = h (standing c b e)

-- the answer of a block that is run in an environment
abbrev pub block_answer : Calling → Option Class → (block environment : ℕ) → Does Value
block_answer h (Some class.Immediate) b e = h (standing class.Immediate b e)
block_answer h _ b e = stuck

-- ---- ends

-- the one value that is left
abbrev pub returned : Place → Go
returned p [] = stuck
returned p (x ∷ []) = pure (EndsWith p x)
returned p (x ∷ y ∷ st) = stuck

-- nothing is left
abbrev pub left_space : Place → (environment : ℕ) → Go
left_space p n [] = pure (EndsWith p (Some (Namespace n)))
left_space p n (x ∷ st) = stuck
