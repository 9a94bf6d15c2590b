-- The code of a source misses no operand.
use Rattle.bqn_forms.specs.Form.{form_of}
use Rattle.bqn_syntax.specs.grammar.Trees.{tree_of}
use Rattle.bqn_cli.proofs.Ended.{compiles-some}
use Rattle.bqn_cli.proofs.script.run_form.Goals as goal

pub run-requires : goal.run-requires
run-requires g c = rw c.deref.ensures.value (compiles-some (form_of c.args.tokens.now (tree_of c.args.tree.now)) c.in-Ok.code 1000000 c.in-Ok.ensures.meaning)
