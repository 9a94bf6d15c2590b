use Rattle.std.proofs.Common.{◌<◌, arith}
use Rattle.bqn_scope.specs.Bindings.{bindings_shown, hidden_shown, unbound}
use Rattle.bqn_scope.proofs.Binding.{restore-more}
use Rattle.bqn_scope.proofs.bindings.Bindings.restore.Goals as goal

pub hidden-preserved : goal.hidden-preserved
hidden-preserved c =
    let some : 0 < c.hidden.index = omega arith in
    record {
      inside = omega (arith, c.hidden.invariant.inside);
      whole = restore-more c.args.hidden.now c.hidden.index _ (unbound (hidden_shown c.args.hidden.now) (bindings_shown c.args.self.now)) (bindings_shown c.hidden.self) (bindings_shown c.set.new.self) some c.hidden.invariant.inside c.in_ok-set.ensures.after c.hidden.invariant.whole;
    }
