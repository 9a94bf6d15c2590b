use Rattle.std.proofs.Common.{◌<◌, ◌∙◌, sym, length, Some, None, arith}
use Rattle.bqn_scope.proofs.Bodies.{level-below, seen-bound}
use Rattle.bqn_scope.proofs.around.Around.sees.Goals as goal

pub overflow_sub-result : goal.overflow_sub-result
overflow_sub-result c = let below : c.in-Some.level < length c.args.self.now.scopes.items = level-below c.args.self.now c.args.name.now c.in-Some.level c.in-Some.slot c.requires (sym c.in-Some.is ∙ c.get.ensures) in omega (arith, c.args.self.now.scopes.ok.0)

pub overflow_sub-result-in-Some : goal.overflow_sub-result-in-Some
overflow_sub-result-in-Some c = let below : c.in-Some.level < length c.args.self.now.scopes.items = level-below c.args.self.now c.args.name.now c.in-Some.level c.in-Some.slot c.requires (sym c.in-Some.is ∙ c.get.ensures) in omega (arith, c.args.self.now.scopes.ok.0)

pub returns-in-Some : goal.returns-in-Some
returns-in-Some c = seen-bound c.args.self.now c.args.name.now (Some (c.in-Some.level, c.in-Some.slot)) c.len.result c.requires (sym c.in-Some.is ∙ c.get.ensures) (omega (arith, c.len.ensures, c.args.self.now.scopes.ok.0))

pub returns-in-None : goal.returns-in-None
returns-in-None c = seen-bound c.args.self.now c.args.name.now None (length c.args.self.now.scopes.items) c.requires (sym c.in-None.is ∙ c.get.ensures) (omega arith)
