-- The rows of arithmetic on atoms: BQN's page on arithmetic, on whole numbers of 64 bits.
use Rattle.std.specs.Prelude.{zero, suc, ◌^◌, nat_lt, ℤ, pos, negsuc, ◌+ℤ◌, ◌-ℤ◌, ◌*ℤ◌, neg_ℤ, Bool, if◌then◌else◌, Result, Ok, Err}
use Rattle.bqn_base.specs.declared.fault.Fault.{Fault}
use Rattle.bqn_base.specs.declared.fault.Fault.TheVariants.{Overflow}

-- from -2^63 to 2^63 - 1; `negsuc n` is -(n + 1)
abbrev pub fits : ℤ → Bool
fits (pos n) = nat_lt n (2 ^ 63)
fits (negsuc n) = nat_lt n (2 ^ 63)

-- a number that is refused outside 64 bits (own)
abbrev pub in_range : ℤ → Result ℤ Fault
in_range z = if fits z then Ok z else Err Overflow

-- `w+x`
abbrev pub sum_of : ℤ → ℤ → Result ℤ Fault
sum_of w x = in_range (w +ℤ x)

-- `w-x`
abbrev pub difference_of : ℤ → ℤ → Result ℤ Fault
difference_of w x = in_range (w -ℤ x)

-- `w×x`
abbrev pub product_of : ℤ → ℤ → Result ℤ Fault
product_of w x = in_range (w *ℤ x)

-- `-x`
abbrev pub negative_of : ℤ → Result ℤ Fault
negative_of x = in_range (neg_ℤ x)

-- `×x`
abbrev pub sign_of : ℤ → ℤ
sign_of (pos zero) = pos 0
sign_of (pos (suc n)) = pos 1
sign_of (negsuc n) = negsuc 0
