use Rattle.std.proofs.Common.{◌∙◌, sym, refl}
use Rattle.bqn_code.specs.Plain.{code_of}
use Rattle.bqn_verify.proofs.Passing.{passes, refused}
use Rattle.bqn_verify.proofs.verifying.verify.Goals as goal

pub new-requires : goal.new-requires
new-requires c = passes (code_of c.args.code) (sym c.is_verified.ensures ∙ c.if-is_verified.true)

pub returns-then-is_verified : goal.returns-then-is_verified
returns-then-is_verified c = (c.new.ensures, passes (code_of c.args.code) (sym c.is_verified.ensures ∙ c.if-is_verified.true))

pub returns-else-is_verified : goal.returns-else-is_verified
returns-else-is_verified c = (refl, refused (code_of c.args.code) (sym c.is_verified.ensures ∙ c.if-is_verified.false))
