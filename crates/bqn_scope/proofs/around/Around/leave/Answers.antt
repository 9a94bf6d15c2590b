use Rattle.std.proofs.Common.{arith}
use Rattle.bqn_scope.proofs.Bodies.{left}
use Rattle.bqn_scope.proofs.around.Around.leave.Goals as goal

pub returns-clause-bodies : goal.returns-clause-bodies
returns-clause-bodies c = left c.args.self.now.outer.now c.args.self.now.scopes.items c.pop.new.self.items c.pop.result c.args.self.now.scopes.len c.pop.new.self.len (omega (arith, c.args.self.now.scopes.ok.0)) (omega (arith, c.pop.new.self.ok.0)) c.pop.ensures.items c.pop.ensures.cases
