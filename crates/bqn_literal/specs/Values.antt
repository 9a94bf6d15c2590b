-- How digits and a power are kept in few bits, and what they give.
use Rattle.std.specs.Prelude.{ℕ, ◌+◌, ◌-◌, ◌*◌, ◌^◌, ◌==◌, nat_le, nat_lt, Option, Some, None, if◌then◌else◌, List, [], ◌∷◌}
use Rattle.std.specs.Option.{option_and_then, option_map}
use Rattle.bqn_literal.specs.declared.significand.Significand.{Significand}

-- a number of 64 bits without a sign
abbrev pub small : ℕ → Option ℕ
small n = if nat_lt n (2 ^ 64) then Some n else None

-- no digits yet
abbrev pub nothing : Significand
nothing = record { magnitude = 0; zeros = 0 }

-- these digits, with no zeros behind them
abbrev pub ended : ℕ → Significand
ended n = record { magnitude = n; zeros = 0 }

-- one more digit
abbrev pub with_digit : Significand → ℕ → Option Significand
with_digit s digit =
    if s.magnitude == 0 then Some (ended digit)
    else if digit == 0 then Some (record { magnitude = s.magnitude; zeros = s.zeros + 1 })
    else option_map ended (small (s.magnitude * 10 ^ (s.zeros + 1) + digit))

-- more digits
abbrev pub with_digits : List ℕ → Significand → Option Significand
with_digits [] s = Some s
with_digits (c ∷ cs) s = option_and_then (with_digits cs) (with_digit s (c - 48))

-- a number times a power of ten, if that is whole for a number that does not end with a zero
abbrev pub placed : ℕ → (up down : ℕ) → Option ℕ
placed n up down = if nat_le down up then Some (n * 10 ^ (up - down)) else None

-- the number in 64 bits that a significand gives at a power of ten
abbrev pub scaled_to : Significand → (up down : ℕ) → Option ℕ
scaled_to s up down = if s.magnitude == 0 then Some 0 else option_and_then small (placed s.magnitude (s.zeros + up) down)

-- powers of ten past this one are as good as it
abbrev pub limit : ℕ
limit = 2 ^ 100
