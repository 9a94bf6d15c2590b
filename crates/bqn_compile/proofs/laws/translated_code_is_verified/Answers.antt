use Rattle.bqn_compile.proofs.verified.TranslatedCode.{code_verified}
use Rattle.bqn_compile.proofs.laws.translated_code_is_verified.Goals as goal

pub returns : goal.returns
returns c = code_verified
