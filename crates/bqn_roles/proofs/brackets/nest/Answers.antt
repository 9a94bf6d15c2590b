use Rattle.std.proofs.Common.{arith}
use Rattle.bqn_roles.specs.Nesting.{nesting_of}
use Rattle.bqn_roles.proofs.Scanning.{going-step}
use Rattle.bqn_roles.proofs.brackets.nest.Goals as goal

pub tokens-preserved : goal.tokens-preserved
tokens-preserved c =
    let token = c.index-tokens-index in
    going-step c.tokens.index (nesting_of c.tokens.scan) (nesting_of c.take_token.new.scan) c.args.tokens.now token.result c.tokens.invariant (omega arith) token.is c.in_ok-take_token.ensures
