-- Values, and calls of primitives, for worked rows.
use Rattle.std.proofs.Common.{ℕ, pos, neg_ℤ, List, [], ◌∷◌, length, map, get_or, Result, Ok, Err}
use Rattle.bqn_base.specs.declared.fault.Fault.{Fault}
use Rattle.bqn_rows.specs.Plain.{Value, Number, Character, Array, none, unfilled, filled, values}
use Rattle.bqn_rows.specs.Arrays.{and_then}
use Rattle.bqn_rows.specs.Shown.{shown}
use Rattle.bqn_rows.specs.Primitives.{Primitive, monadic, dyadic}

abbrev pub number : ℕ → Value
number n = Number (pos n)

abbrev pub negative : ℕ → Value
negative n = Number (neg_ℤ (pos n))

-- the first of these
abbrev pub character : List ℕ → Value
character cs = Character (get_or cs 0 0)

abbrev pub listed : List Value → Value
listed xs = Array (length xs ∷ []) (values xs) unfilled

abbrev pub numbers : List ℕ → Value
numbers ns = listed (map number ns)

abbrev pub no_list : Value
no_list = listed []

abbrev pub text : List ℕ → Value
text [] = Array (0 ∷ []) none (filled (Character 32))
text (c ∷ cs) = listed (map Character (c ∷ cs))

-- a primitive of what is on its right, where that is no fault
abbrev pub of : Primitive → Result Value Fault → Result Value Fault
of row x = and_then x (monadic row)

abbrev pub with : Primitive → Value → Result Value Fault → Result Value Fault
with row w x = and_then x (dyadic row w)

-- what is on the right comes first
abbrev pub with2 : Primitive → Result Value Fault → Result Value Fault → Result Value Fault
with2 row w x = and_then x (λ v. and_then w (λ u. dyadic row u v))

abbrev pub written : Result Value Fault → List ℕ
written (Ok v) = shown v
written (Err fault) = []
