use Rattle.std.proofs.Common.{reverse, drop, ◌-◌}
use Rattle.bqn_forms.specs.Execution.{executed}
use Rattle.bqn_forms.proofs.Going.{Going}
use Rattle.bqn_forms.proofs.run.run_code.Given as goal

abbrev pub invariant-instructions : goal.invariant-instructions
invariant-instructions g l =
    Going g.K.Sink.written g.K.Sink.room g.K.Sink.faults (executed l.code l.steps) (drop l.instr-index l.code) (reverse l.stack.items) l.vars.items (l.steps - 1) l.initial.out l.out
