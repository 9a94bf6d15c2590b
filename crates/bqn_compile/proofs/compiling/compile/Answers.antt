use Rattle.bqn_syntax.specs.grammar.Trees.{tree_of}
use Rattle.bqn_compile.specs.Shown.{resolution_shown}
use Rattle.bqn_compile.proofs.verified.TranslatedCode.{given_verified, given_few}
use Rattle.bqn_compile.proofs.compiling.compile.Goals as goal

pub returns-clause-verified : goal.returns-clause-verified
returns-clause-verified c = given_verified (tree_of c.args.resolved.now.tree) (resolution_shown c.args.resolved.now) c.translated_code.result c.translated_code.ensures

pub returns-clause-few : goal.returns-clause-few
returns-clause-few c = given_few (tree_of c.args.resolved.now.tree) (resolution_shown c.args.resolved.now) c.translated_code.result c.translated_code.ensures
