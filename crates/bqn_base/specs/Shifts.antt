-- The rows of arithmetic on characters: BQN's page on arithmetic. A character is one of Unicode's, and no surrogate.
use Rattle.std.specs.Prelude.{ℕ, Bool, true, false, ℤ, pos, negsuc, ◌+ℤ◌, ◌-ℤ◌, Result, Ok, Err}
use lib.Utf8.{scalar}
use Rattle.bqn_base.specs.declared.fault.Fault.{Fault}
use Rattle.bqn_base.specs.declared.fault.Fault.TheVariants.{CharRange}

abbrev pub if_scalar : Bool → ℕ → Result ℕ Fault
if_scalar true c = Ok c
if_scalar false c = Err CharRange

-- the character with this code
abbrev pub character_at : ℤ → Result ℕ Fault
character_at (pos c) = if_scalar (scalar c) c
character_at (negsuc c) = Err CharRange

-- `c+n`: the character that far on
abbrev pub shift_of : ℕ → ℤ → Result ℕ Fault
shift_of c n = character_at (pos c +ℤ n)

-- `w-x`: how far two characters are apart
abbrev pub distance_of : ℕ → ℕ → ℤ
distance_of w x = pos w -ℤ pos x
