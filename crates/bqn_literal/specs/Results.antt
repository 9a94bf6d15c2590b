-- What a number word gives.
use Rattle.std.specs.Prelude.{ℤ, Result, Ok, Err}
use Rattle.bqn_base.specs.Literal.{Literal, Number, Bad, Range}
use Rattle.bqn_literal.specs.declared.error.NumberError.{NumberError}
use Rattle.bqn_literal.specs.declared.error.NumberError.TheVariants as e

-- the number, or why there is none
abbrev pub number_of : Literal → Result ℤ NumberError
number_of (Number z) = Ok z
number_of Bad = Err e.Bad
number_of Range = Err e.Range
