-- What verification answers: this project's own.
use Rattle.std.specs.Prelude.{◌≡◌, Result, Ok, Err}
use Rattle.bqn_code.specs.declared.code.Code.{Code}
use Rattle.bqn_code.specs.Plain.{code_of}
use Rattle.bqn_code.specs.Verified as code
use Rattle.bqn_verify.specs.declared.verified.Verified.{Verified}

-- the code itself, and that it is verified, or the code again, which is not verified
abbrev pub Verifies : Result Verified Code → Code → Type 0
Verifies (Ok v) given = (v.code ≡ given) × code.Verified (code_of given)
Verifies (Err back) given = (back ≡ given) × (code.Verified (code_of given) → ⊥)
