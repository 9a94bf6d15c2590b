use Rattle.std.proofs.Common.{reverse, FitsSigned, w64, rules}
use Rattle.std.proofs.lemmas.Int.{to_z-of_z}
use Rattle.bqn_forms.proofs.Steps.{acts-call_top}
use Rattle.bqn_forms.proofs.run.call_top.Goals as goal

pub returns-in-Err : goal.returns-in-Err
returns-in-Err g c =
    let fits : FitsSigned w64 c.in-Some.x = search rules in
    acts-call_top g.K.Sink.written g.K.Sink.room g.K.Sink.faults c.args.callee c.args.left c.args.stack.now.items c.pop.new.self.items c.in-Some.x _ (reverse c.pop.new.self.items)
    c.args.out.now c.call.new.out c.in-Err.end c.in-Some.ensures.items (to_z-of_z w64 c.in-Some.x fits) c.in-Err.ensures
