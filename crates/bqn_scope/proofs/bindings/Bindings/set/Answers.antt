use Rattle.bqn_scope.proofs.Binding.{inserted-bound}
use Rattle.bqn_scope.proofs.bindings.Bindings.set.Goals as goal

pub returns-in-Some-clause-after : goal.returns-in-Some-clause-after
returns-in-Some-clause-after c = inserted-bound c.args.self.now.innermost.entries c.insert.new.self.entries c.args.name c.args.binding c.in_ok-before.ensures.entries

pub returns-in-None-clause-after : goal.returns-in-None-clause-after
returns-in-None-clause-after c = inserted-bound c.args.self.now.innermost.entries c.insert.new.self.entries c.args.name c.args.binding c.in_ok-before.ensures.entries
