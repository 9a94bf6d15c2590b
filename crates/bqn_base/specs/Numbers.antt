-- The rows of arithmetic on numbers beside sums, differences and products: BQN's page on arithmetic, on whole numbers of 64 bits.
-- NotWhole, where BQN's answer is no whole number, is this project's own.
use Rattle.std.specs.Prelude.{ℕ, zero, suc, ◌/◌, ◌%◌, ◌^◌, nat_eq, ℤ, pos, negsuc, ◌+ℤ◌, ◌-ℤ◌, ◌*ℤ◌, neg_ℤ, nat_abs, int_div, Bool, true, false, Option, Some, None, Result, Ok, Err}
use Rattle.std.specs.Int.{int_pow, int_min, int_max}
use Rattle.bqn_base.specs.declared.fault.Fault.{Fault}
use Rattle.bqn_base.specs.declared.fault.Fault.TheVariants.{Domain, DivideByZero, NotWhole}
use Rattle.bqn_base.specs.Arithmetic.{in_range}

abbrev pub if_whole : Bool → Result ℤ Fault → Result ℤ Fault
if_whole true result = result
if_whole false result = Err NotWhole

abbrev pub whole : Option ℕ → Result ℤ Fault
whole None = Err NotWhole
whole (Some n) = Ok (pos n)

-- ---- one number

-- `÷x`: 1 and ¯1 alone have a whole reciprocal
abbrev pub reciprocal_of : ℤ → Result ℤ Fault
reciprocal_of (pos zero) = Err DivideByZero
reciprocal_of x = if_whole (nat_eq (nat_abs x) 1) (Ok x)

-- `⋆x`
abbrev pub exponential_of : ℤ → Result ℤ Fault
exponential_of (pos zero) = Ok (pos 1)
exponential_of x = Err NotWhole

-- among so many numbers from y on, the first whose power w is x
abbrev pub root_among : (w x : ℕ) → (many y : ℕ) → Option ℕ
root_among w x zero y = None
root_among w x (suc many) y = elim (nat_eq (y ^ w) x) [ true ↦ Some y | false ↦ root_among w x many (suc y) ]

-- the number from 0 to x whose power w is x, if there is one
abbrev pub whole_root : (w x : ℕ) → Option ℕ
whole_root w x = root_among w x (suc x) 0

-- `√x`
abbrev pub square_root_of : ℤ → Result ℤ Fault
square_root_of (pos x) = whole (whole_root 2 x)
square_root_of (negsuc x) = Err Domain

-- `|x`
abbrev pub absolute_of : ℤ → Result ℤ Fault
absolute_of x = in_range (pos (nat_abs x))

-- `¬x`
abbrev pub complement_of : ℤ → Result ℤ Fault
complement_of x = in_range (pos 1 -ℤ x)

-- ---- two numbers

-- `w÷x`
abbrev pub quotient_of : ℤ → ℤ → Result ℤ Fault
quotient_of w (pos zero) = Err DivideByZero
quotient_of w x = if_whole (nat_eq (nat_abs w % nat_abs x) 0) (in_range (int_div w x))

-- w to the power -n, for an n above 0
abbrev pub power_below : ℤ → ℕ → Result ℤ Fault
power_below (pos zero) n = Err DivideByZero
power_below (pos (suc zero)) n = Ok (pos 1)
power_below (negsuc zero) n = Ok (int_pow (negsuc 0) n)
power_below w n = Err NotWhole

-- `w⋆x`; 0⋆0 is 1
abbrev pub power_of : ℤ → ℤ → Result ℤ Fault
power_of w (pos n) = in_range (int_pow w n)
power_of w (negsuc n) = power_below w (suc n)

-- `w√x`: the number from 0 on whose power w is x
abbrev pub root_of : ℤ → ℤ → Result ℤ Fault
root_of (pos zero) x = Err DivideByZero
root_of w (negsuc x) = Err Domain
root_of (pos (suc w)) (pos x) = whole (whole_root (suc w) x)
root_of (negsuc w) (pos zero) = Err DivideByZero
root_of (negsuc w) (pos (suc zero)) = Ok (pos 1)
root_of (negsuc w) (pos (suc (suc x))) = Err NotWhole

-- `w⌊x` and `w⌈x`
abbrev pub lesser_of : ℤ → ℤ → Result ℤ Fault
lesser_of w x = Ok (int_min w x)

abbrev pub greater_of : ℤ → ℤ → Result ℤ Fault
greater_of w x = Ok (int_max w x)

-- the floor of a number over one above 0
abbrev pub floor_over : ℤ → ℕ → ℤ
floor_over (pos x) n = pos (x / n)
floor_over (negsuc x) n = negsuc (x / n)

-- the floor of x over w; a w of 0 is not asked for
abbrev pub floor_of : (x w : ℤ) → ℤ
floor_of x (pos n) = floor_over x n
floor_of x (negsuc n) = floor_over (neg_ℤ x) (suc n)

-- `w|x`
abbrev pub modulus_of : ℤ → ℤ → Result ℤ Fault
modulus_of (pos zero) x = Err DivideByZero
modulus_of w x = in_range (x -ℤ (w *ℤ floor_of x w))

-- `w¬x`, as one value: only the whole is to be in range
abbrev pub span_of : ℤ → ℤ → Result ℤ Fault
span_of w x = in_range ((w -ℤ x) +ℤ pos 1)

-- `w∨x`, as one value
abbrev pub disjunction_of : ℤ → ℤ → Result ℤ Fault
disjunction_of w x = in_range ((w +ℤ x) -ℤ (w *ℤ x))
